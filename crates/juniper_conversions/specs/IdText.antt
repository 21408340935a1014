-- How an ID is seen (3.5.5).
use Rattle.std.specs.Prelude.{List, ℕ, string_bytes}
use Rattle.juniper_conversions.specs.declared.identifier.ID.{ID}

-- the bytes of its text
abbrev pub id_text : ID → List ℕ
id_text id = string_bytes id.text
