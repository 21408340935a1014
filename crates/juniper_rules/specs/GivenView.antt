-- How the given values of variables are seen: what is found at each name (6.1.2).
use Rattle.std.specs.Prelude.{ℕ, List, Option, option_map}
use Rattle.std.specs.BTreeMap.{BTreeMap}
use Rattle.std.specs.Borrow.{Bor}
use Rattle.std.specs.HashMap.{get_by_text}
use Rattle.std.specs.Map.{lookup}
use Rattle.std.specs.Str.{bytes_eq}
use Rattle.graphql_spec.specs.Shown.{Shown, Name}
use Rattle.graphql_spec.specs.Inputs as spec
use Rattle.juniper_syntax.specs.InputView.{view_input}
use Rattle.juniper_syntax.specs.declared.input.InputValue.{InputValue}
use Rattle.juniper_rules.specs.declared.given.Given.{Given}
use Rattle.juniper_rules.specs.declared.given.Given.TheVariants as code

-- the value at a name, of those in order
abbrev pub value_in_order : {X : Type 0} → BTreeMap (Bor (List ℕ)) (Bor X) → Name → Option X
value_in_order m n = option_map (λ v. v.now) (lookup (λ k. bytes_eq n k.now) m.entries)

-- the value at a name, in either form
unfoldable pub value_at : {S : Type 0} → Given S → Name → Option (InputValue S)
value_at (code.Hashed m) n = get_by_text m.now n
value_at (code.Ordered m) n = value_in_order m n

-- the given values, name by name
abbrev pub view_given_values : {S : Type 0} → (S → Shown) → Given S → spec.Variables
view_given_values shown g = λ name. option_map (view_input shown) (value_at g name)
