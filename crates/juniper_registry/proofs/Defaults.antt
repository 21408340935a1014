-- Arguments with default values.
use Rattle.std.proofs.Common.{◌≡◌, IfSome, Some, None, option_map, refl, ap, subst, ◌∙◌}
use Rattle.graphql_spec.specs.Shown.{Name}
use Rattle.graphql_spec.specs.Types.{TypeRef}
use Rattle.graphql_spec.specs.Inputs as inputs
use Rattle.graphql_spec.specs.Inputs.{Input}
use Rattle.graphql_spec.specs.Constants.{Constant, meaning}
use Rattle.graphql_spec.specs.Schema.{InputDeclaration, plain_input}
use Rattle.juniper_meta.specs.MetaView.{with_default}
use Rattle.juniper_registry.specs.DeclaredTypes.{input_of, input_with_default}
use Rattle.juniper_registry.specs.Made.{IsDefaulted}

plain_again : (n : Name) (t : TypeRef) → record (plain_input n t) { default = None } ≡ plain_input n t
unfolding plain_input
plain_again n t = refl

-- a plain argument that gets a default value
pub defaulted : (a b : InputDeclaration) (n : Name) (t : TypeRef) (v : Input) (m : Constant) → a ≡ with_default b v → b ≡ plain_input n t → meaning v ≡ m →
    IsDefaulted a n t m
defaulted a b n t v m e p q = record {
  rest = ap (λ (x : InputDeclaration). record x { default = None }) (e ∙ ap (λ (x : InputDeclaration). with_default x v) p) ∙ plain_again n t;
  default = ap (λ (x : InputDeclaration). option_map meaning x.default) e ∙ ap (λ (x : Constant). Some x) q;
}

-- a default value that is known by its meaning is known exactly, but for lists and objects
exact_at : (v : Input) (a : InputDeclaration) (n : Name) (t : TypeRef) → a ≡ input_with_default n t v →
    IfSome (input_of (meaning v)) (λ w. a ≡ input_with_default n t w)
unfolding meaning
exact_at inputs.null a n t e = e
exact_at (inputs.scalar s) a n t e = e
exact_at (inputs.enumerated x) a n t e = e
exact_at (inputs.variable x) a n t e = e
exact_at (inputs.list is) a n t e = tt
exact_at (inputs.object fs) a n t e = tt

plain_with : (n : Name) (t : TypeRef) (v : Input) → with_default (plain_input n t) v ≡ input_with_default n t v
unfolding plain_input
plain_with n t v = refl

-- so is that of a plain argument that gets a default value
pub exactly : (a b : InputDeclaration) (n : Name) (t : TypeRef) (v : Input) (m : Constant) → a ≡ with_default b v → b ≡ plain_input n t
    → meaning v ≡ m → IfSome (input_of m) (λ w. a ≡ input_with_default n t w)
exactly a b n t v m e p q = subst (λ k. IfSome (input_of k) (λ w. a ≡ input_with_default n t w)) q
    (exact_at v a n t (e ∙ (ap (λ (x : InputDeclaration). with_default x v) p ∙ plain_with n t v)))
