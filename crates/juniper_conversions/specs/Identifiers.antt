-- How an ID is read (3.5.5).
use Rattle.std.specs.Prelude.{Option, Some, None}
use Rattle.std.specs.Option.{option_and_then}
use Rattle.std.specs.Fmt.{signed_decimal}
use Rattle.graphql_spec.specs.Shown.{Text, Shown, int, text, boolean}
use Rattle.graphql_spec.specs.Constants.{Constant}
use Rattle.juniper_conversions.specs.Conversions.{scalar_of}

-- the ID that a scalar shows: a String is one, and an Int is its decimal text (3.5.5)
abbrev pub shown_id : Shown → Option Text
shown_id (int z) = Some (signed_decimal z)
shown_id (text t) = Some t
shown_id (boolean b) = None

-- an ID (3.5.5)
abbrev pub id_of : Constant → Option Text
id_of v = option_and_then shown_id (scalar_of v)
