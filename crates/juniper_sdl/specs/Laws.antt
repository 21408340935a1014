-- Laws of the grammar of type systems (3).
use Rattle.std.specs.Prelude.{◌≡◌, ℕ, List, None}
use Rattle.graphql_spec.specs.Schema.{Schema}
use Rattle.juniper_sdl.specs.Definitions.{schema_text}
use Rattle.juniper_sdl.specs.Faults.{sdl_fault}
use Rattle.juniper_sdl.specs.Grammar.{SpellsSchema}

-- the text of a schema without fault spells it
abbrev pub TextsSpell : Type 0
TextsSpell = (s : Schema) → sdl_fault s ≡ None → SpellsSchema (schema_text s) s

-- no text spells a schema that has a fault
abbrev pub SpelledAreFaultless : Type 0
SpelledAreFaultless = (s : Schema) (bytes : List ℕ) → SpellsSchema bytes s → sdl_fault s ≡ None
