-- What validation lists, phase by phase.
use Rattle.std.proofs.Common.{◌≡◌, Bool, List, [], ◌∷◌, refl, sym}
use Rattle.graphql_spec.specs.Documents.{Document}
use Rattle.graphql_spec.specs.Schema.{Schema}
use Rattle.graphql_spec.specs.Rules.{RuleError, at_each, first_found, name_errors, rule_errors, type_errors, use_errors}

first-some : (es ds fs : List RuleError) → es ≡ ds → (es ≡ [] → ⊥) → es ≡ first_found ds fs
unfolding first_found
first-some [] ds fs e some = absurd (some refl)
first-some (x ∷ es) ds fs e some = rw (sym e) refl

first-none : (es ds fs : List RuleError) → [] ≡ ds → es ≡ fs → es ≡ first_found ds fs
unfolding first_found
first-none es ds fs none e = rw (sym none) e

module _ (s : Schema) (disabled : Bool) (d : Document) where
  pub names-listed : (es : List RuleError) → es ≡ at_each (name_errors s disabled d) [] d → (es ≡ [] → ⊥) → es ≡ rule_errors s disabled d
  unfolding rule_errors
  names-listed es e some = first-some es _ _ e some

  pub types-listed : (es : List RuleError) → [] ≡ at_each (name_errors s disabled d) [] d → es ≡ at_each (type_errors s disabled d) [] d → (es ≡ [] → ⊥) →
      es ≡ rule_errors s disabled d
  unfolding rule_errors
  types-listed es names e some = first-none es _ _ names (first-some es _ _ e some)

  pub uses-listed : (es : List RuleError) → [] ≡ at_each (name_errors s disabled d) [] d → [] ≡ at_each (type_errors s disabled d) [] d →
      es ≡ at_each (use_errors s disabled d) [] d → es ≡ rule_errors s disabled d
  unfolding rule_errors
  uses-listed es names types e = first-none es _ _ names (first-none es _ _ types e)
