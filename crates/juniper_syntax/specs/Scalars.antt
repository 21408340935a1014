-- What the scalars of this crate show (3.5).
use Rattle.std.specs.Prelude.{◌≡◌, true, false, refl, string_bytes}
use Rattle.graphql_spec.specs.Shown.{Shown, int, text, boolean, same_shown, same_bool}
use Rattle.juniper_syntax.specs.declared.scalar.DefaultScalarValue.{DefaultScalarValue}
use Rattle.juniper_syntax.specs.declared.scalar.DefaultScalarValue.TheVariants as d
use Rattle.juniper_syntax.specs.contracts.scalar.DefaultScalarValuePartialEq.TheImpl as de

abbrev pub default_shown : DefaultScalarValue → Shown
default_shown (d.Int z) = int z
default_shown (d.String s) = text (string_bytes s)
default_shown (d.Boolean b) = boolean b

-- `==` compares what is shown
pub default_eq : (a b : DefaultScalarValue) → (de.ghosts).eq a b ≡ same_shown (default_shown a) (default_shown b)
unfolding same_shown same_bool
default_eq (d.Int x) (d.Int y) = refl
default_eq (d.Int x) (d.String y) = refl
default_eq (d.Int x) (d.Boolean y) = refl
default_eq (d.String x) (d.Int y) = refl
default_eq (d.String x) (d.String y) = refl
default_eq (d.String x) (d.Boolean y) = refl
default_eq (d.Boolean x) (d.Int y) = refl
default_eq (d.Boolean x) (d.String y) = refl
default_eq (d.Boolean true) (d.Boolean true) = refl
default_eq (d.Boolean true) (d.Boolean false) = refl
default_eq (d.Boolean false) (d.Boolean true) = refl
default_eq (d.Boolean false) (d.Boolean false) = refl
