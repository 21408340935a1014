-- Words about fitting values (3.10, 3.11). Only private clauses cite it.
use Rattle.std.specs.Prelude.{Bool, true, false, not, ◌&&◌, ◌||◌, List, [], Option, Some, None, option_map, unwrap_or}
use Rattle.std.specs.Option.{is_none}
use Rattle.graphql_spec.specs.Fields.{declaration_in, type_named}
use Rattle.graphql_spec.specs.Fits.{all_fit, all_written, fields_fit, fits, has_field, input_object_fits, size_met, through}
use Rattle.graphql_spec.specs.Inputs.{InputFields, InputItems, count_items, no_fields, input_field}
use Rattle.graphql_spec.specs.Schema.{InputDeclaration, Schema, Shape, input_object_type}
use Rattle.graphql_spec.specs.Types.{TypeRef, named, list_of, required}

-- each list in it may have one item
unfoldable pub takes_one : TypeRef → Bool
takes_one (named r n) = true
takes_one (list_of r size t) = size_met size 1 && takes_one t

-- a declared field is written, or may be left out
abbrev pub is_supplied : InputFields → InputDeclaration → Bool
is_supplied fs d = not (required d.of_type && is_none d.default) || has_field d.name fs

-- the fields of an input object
unfoldable pub declared_fields : Option Shape → Option (List InputDeclaration)
declared_fields (Some (input_object_type ds)) = Some ds
declared_fields _ = None

-- no two fields have one name
unfoldable pub keys_differ : InputFields → Bool
keys_differ no_fields = true
keys_differ (input_field k k_at v v_at rest) = not (has_field k rest) && keys_differ rest

-- those fields, and none where it is something else
unfoldable pub declared_of : Option Shape → List InputDeclaration
declared_of x = unwrap_or (declared_fields x) []

-- there is a type, and the test holds of it
abbrev pub fits_some : (TypeRef → Bool) → Option TypeRef → Bool
fits_some f None = false
fits_some f (Some t) = f t

-- each field is declared, and its value fits
unfoldable pub each_fits : Schema → Bool → InputFields → List InputDeclaration → Bool
each_fits s given no_fields ds = true
each_fits s given (input_field k k_at v v_at rest) ds =
    fits_some (fits s given v) (option_map (λ d. d.of_type) (declaration_in ds k)) && each_fits s given rest ds

-- a list fits a list type, with the expected number of items (3.11)
unfoldable pub list_fits : Schema → Bool → InputItems → TypeRef → Bool
list_fits s given is (named r n) = false
list_fits s given is (list_of r size t) = size_met size (count_items is) && all_fit s given is t

-- an object fits an input object of these fields, and nothing else (3.10)
unfoldable pub object_by : Schema → Bool → InputFields → Option (List InputDeclaration) → Bool
object_by s given fs None = false
object_by s given fs (Some ds) = all_written fs ds && (keys_differ fs && each_fits s given fs ds)

-- an object of these fields fits a type: what `fits` says of it
abbrev pub object_fits_type : Schema → Bool → InputFields → TypeRef → Bool
object_fits_type s given fs t = through (λ n. input_object_fits (λ ds. all_written fs ds && fields_fit s given fs ds) (type_named s n)) t
