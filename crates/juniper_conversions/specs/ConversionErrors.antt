-- What the errors of list conversions become as the error of a field (6.4.4).
use Rattle.std.specs.Prelude.{codes, ◌++◌}
use Rattle.std.specs.Fmt.{decimal}
use Rattle.graphql_spec.specs.Resolvers.{Error}
use Rattle.juniper_conversions.specs.Messages.{message_alone}
use Rattle.juniper_conversions.specs.declared.conversion_errors.FromInputValueVecError.{FromInputValueVecError}
use Rattle.juniper_conversions.specs.declared.conversion_errors.FromInputValueVecError.TheVariants as vec
use Rattle.juniper_conversions.specs.declared.conversion_errors.FromInputValueArrayError.{FromInputValueArrayError}
use Rattle.juniper_conversions.specs.declared.conversion_errors.FromInputValueArrayError.TheVariants as array

-- of a vector: that null is no list, or what the error of the item becomes
abbrev pub vec_error : {A S E : Type 0} → (E → Error) → FromInputValueVecError A S E → Error
vec_error inner vec.Null = message_alone (codes "Failed to convert into `Vec`: Value cannot be `null`")
vec_error inner (vec.Item e) = inner e

-- of an array: that null is no list, how many items there are and should be, or what the error of the item becomes
abbrev pub array_error : {A S E : Type 0} → (E → Error) → FromInputValueArrayError A S E → Error
array_error inner array.Null = message_alone (codes "Failed to convert into exact-size array: Value cannot be `null`")
array_error inner (array.WrongCount actual expected) =
    message_alone (codes "Failed to convert into exact-size array: wrong elements count: " ++ decimal actual ++ codes " instead of " ++ decimal expected)
array_error inner (array.Item e) = inner e
