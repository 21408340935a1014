-- What a number should be.
use Rattle.std.specs.Prelude.{Bool, is_some}
use Rattle.serde_json.specs.Data.{Num}
use Rattle.juniper_json.specs.Given.{int_in, is_integer}
use Rattle.juniper_json.specs.declared.numbers.Wanted.{Wanted}
use Rattle.juniper_json.specs.declared.numbers.Wanted.TheVariants.{Integer, Int}

unfoldable pub is_wanted : Wanted → Num → Bool
is_wanted Integer = is_integer
is_wanted Int = λ n. is_some (int_in n)
