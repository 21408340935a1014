-- How places in given values and texts about them are seen; only private clauses cite this file.
use Rattle.std.specs.Prelude.{List, String, map, string_bytes}
use Rattle.std.specs.declared.alloc.Global.{Global}
use Rattle.graphql_spec.specs.Shown.{Text}
use Rattle.juniper_explain.specs.Reasons.{field_path, item_path, variable_path}
use Rattle.juniper_explain.specs.declared.value_parts.ValuePlace.{ValuePlace}
use Rattle.juniper_explain.specs.declared.value_parts.ValuePlace.TheVariants as code

-- the path of a place
unfoldable pub place_text : ValuePlace → Text
place_text (code.Variable n) = variable_path n.now
place_text (code.Field p k) = field_path p.now k.now
place_text (code.Item p i) = item_path p.now i

abbrev pub view_messages : List (String Global) → List Text
view_messages = map (λ t. string_bytes t)
