-- How the place of what is answered is seen (7.1.2).
use Rattle.std.specs.Prelude.{List, [], ◌∷◌, ◌++◌}
use Rattle.graphql_spec.specs.Errors.{Place, key, index}
use Rattle.graphql_spec.specs.Positions.{Position}
use Rattle.juniper_syntax.specs.Positions.{view_position}
use Rattle.juniper_conversions.specs.declared.field_path.FieldPath.{FieldPath, FieldPath-F, fold-FieldPath}

-- one level, with the steps above it already seen
abbrev pub place_step : FieldPath-F Place → Place
place_step (FieldPath-F.Root start) = []
place_step (FieldPath-F.Field name start parent) = parent.value ++ key name.now ∷ []
place_step (FieldPath-F.Item position parent) = parent.value ++ index position ∷ []

-- the place in the answer of the request: the response keys and the positions in lists from the root
abbrev pub path_place : FieldPath → Place
path_place = fold-FieldPath Place place_step

-- one level, with the starts above it already seen; an item has that of its list
abbrev pub starts_step : FieldPath-F (List Position) → List Position
starts_step (FieldPath-F.Root start) = view_position start ∷ []
starts_step (FieldPath-F.Field name start parent) = parent.value ++ view_position start ∷ []
starts_step (FieldPath-F.Item position parent) = parent.value

-- where the root and the fields start, from the root to the field
abbrev pub path_starts : FieldPath → List Position
path_starts = fold-FieldPath (List Position) starts_step
