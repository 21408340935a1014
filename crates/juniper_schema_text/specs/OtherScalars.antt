-- What the scalars of the tests show (3.5).
use Rattle.std.specs.Prelude.{◌≡◌, true, false, refl, string_bytes}
use Rattle.graphql_spec.specs.Shown.{Shown, int, text, boolean, same_shown, same_bool}
use Rattle.juniper_schema_text.specs.declared.scalar.OtherScalar.{OtherScalar}
use Rattle.juniper_schema_text.specs.declared.scalar.OtherScalar.TheVariants.{Flag, Number, Text}
use Rattle.juniper_schema_text.specs.contracts.scalar.OtherScalarPartialEq.TheImpl as equal

abbrev pub other_shown : OtherScalar → Shown
other_shown (Flag b) = boolean b
other_shown (Number z) = int z
other_shown (Text s) = text (string_bytes s)

-- `==` compares what is shown
pub other_eq : (a b : OtherScalar) → (equal.ghosts).eq a b ≡ same_shown (other_shown a) (other_shown b)
unfolding same_shown same_bool
other_eq (Flag true) (Flag true) = refl
other_eq (Flag true) (Flag false) = refl
other_eq (Flag false) (Flag true) = refl
other_eq (Flag false) (Flag false) = refl
other_eq (Flag x) (Number y) = refl
other_eq (Flag x) (Text y) = refl
other_eq (Number x) (Flag y) = refl
other_eq (Number x) (Number y) = refl
other_eq (Number x) (Text y) = refl
other_eq (Text x) (Flag y) = refl
other_eq (Text x) (Number y) = refl
other_eq (Text x) (Text y) = refl
