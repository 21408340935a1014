-- What a text gives, by what is found of it.
use Rattle.std.proofs.Common.{◌≡◌, true, false, is_some, Ok, Err, refl}
use Rattle.graphql_spec.specs.Inputs.{Variables}
use Rattle.juniper_json.specs.Given.{all_members, int_in, is_integer, values_of, variables_in}
use Rattle.juniper_json.specs.Wanted.{is_wanted}
use Rattle.juniper_json.specs.declared.numbers.Wanted.TheVariants.{Integer, Int}
use Rattle.juniper_json.specs.declared.read.VariablesError.TheVariants.{Float, OutOfRange}
use Rattle.serde_json.specs.Data.{Members}

-- a number is no integer
pub float_found : (ms : Members) → all_members (is_wanted Integer) ms ≡ false → variables_in ms ≡ Err Float
unfolding is_wanted
float_found ms e = let f : all_members is_integer ms ≡ false = e in rw f refl

-- each is one, and one is no Int
pub range_left : (ms : Members) → all_members (is_wanted Integer) ms ≡ true → all_members (is_wanted Int) ms ≡ false → variables_in ms ≡ Err OutOfRange
unfolding is_wanted
range_left ms e g =
    let f : all_members is_integer ms ≡ true = e in
    let h : all_members (λ n. is_some (int_in n)) ms ≡ false = g in
    rw (f, h) refl

-- each is an Int
pub all_found : (ms : Members) (vars : Variables) → all_members (is_wanted Integer) ms ≡ true → all_members (is_wanted Int) ms ≡ true → vars ≡ values_of ms →
    variables_in ms ≡ Ok vars
unfolding is_wanted
all_found ms vars e g made =
    let f : all_members is_integer ms ≡ true = e in
    let h : all_members (λ n. is_some (int_in n)) ms ≡ true = g in
    rw (f, h, made) refl
