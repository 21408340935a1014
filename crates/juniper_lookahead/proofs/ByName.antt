-- The first fragment of a name: among the entries of a map, and by what counts where it is spread.
use Rattle.std.proofs.Common.{◌≡◌, ℕ, Bool, true, false, cond, List, [], ◌∷◌, map, Option, Some, None, option_map, is_some, Bor, refl, sym, ap, ◌∙◌}
use Rattle.std.specs.Map.{lookup}
use Rattle.std.specs.Str.{bytes_eq}
use Rattle.std.proofs.lemmas.Bool.{both_ways}
use Rattle.graphql_spec.specs.Shown.{Shown, Name}
use Rattle.graphql_spec.specs.Documents.{Fragment}
use Rattle.graphql_spec.specs.Fragments.{fragment_of}
use Rattle.juniper_syntax.specs.declared.ast.Fragment.{Fragment as FragmentType}
use Rattle.juniper_lookahead.specs.Choices.{Core, core}
use Rattle.juniper_lookahead.specs.Expansion.{named_fragment}
use Rattle.juniper_lookahead.specs.FragmentView.{unplaced, view_lent_fragment}
use Rattle.juniper_lookahead.specs.Nesting.{view_core}

-- ## Options

pub cond-map : {A B : Type 0} (f : A → B) (b : Bool) (x : A) (o : Option A) → option_map f (cond b (Some x) o) ≡ cond b (Some (f x)) (option_map f o)
cond-map f true x o = refl
cond-map f false x o = refl

map-map : {A B C : Type 0} (g : B → C) (f : A → B) (o : Option A) → option_map g (option_map f o) ≡ option_map (λ x. g (f x)) o
map-map g f None = refl
map-map g f (Some x) = refl

core-unplaced : (o : Option Fragment) → option_map core (option_map unplaced o) ≡ option_map core o
core-unplaced None = refl
core-unplaced (Some f) = refl

-- ## What is found among entries

module _ {S : Type 0} (shown : S → Shown) (es : List (Bor (List ℕ) × Bor (FragmentType S))) (k : Name) where
  -- the fragments are those of the entries
  pub named-among : (fs : List Fragment) → option_map (λ f. view_lent_fragment shown f.now) (lookup (λ n. bytes_eq k n.now) es)
      ≡ option_map unplaced (fragment_of fs k) → option_map core (fragment_of fs k) ≡ option_map (λ f. view_core shown f.now) (lookup (λ n. bytes_eq k n.now) es)
  named-among fs same = sym (core-unplaced (fragment_of fs k))
      ∙ (ap (option_map core) (sym same) ∙ map-map core (λ f. view_lent_fragment shown f.now) (lookup (λ n. bytes_eq k n.now) es))

pub among-entries : {S : Type 0} (shown : S → Shown) (es : List (Bor (List ℕ) × Bor (FragmentType S))) (k : Name) →
    option_map core (fragment_of (map (named_fragment shown) es) k) ≡ option_map (λ f. view_core shown f.now) (lookup (λ n. bytes_eq k n.now) es)
unfolding fragment_of named_fragment
among-entries shown [] k = refl
among-entries shown (e ∷ es) k =
    cond-map core (bytes_eq k e.0.now) (named_fragment shown e) (fragment_of (map (named_fragment shown) es) k)
    ∙ (ap (cond (bytes_eq k e.0.now) (Some (view_core shown e.1.now))) (among-entries shown es k)
    ∙ sym (cond-map (λ f. view_core shown f.now) (bytes_eq k e.0.now) e.1 (lookup (λ n. bytes_eq k n.now) es)))

-- ## What was found

true_false : {P : Type 0} (b : Bool) → b ≡ true → b ≡ false → P
true_false b t f = absurd (both_ways b f t)

abbrev value_or : {A : Type 0} → A → Option A → A
value_or a None = a
value_or a (Some x) = x

-- a fragment is found of which this counts
pub record IsFound (o : Option Fragment) (c : Core) : Type 0 where
  pub fragment : Fragment
  pub is : o ≡ Some fragment
  pub counts : core fragment ≡ c

pub found-fragment : (o : Option Fragment) (c : Core) → option_map core o ≡ Some c → IsFound o c
found-fragment None c is = true_false true refl (sym (ap is_some is))
found-fragment (Some x) c is = record { fragment = x; is = refl; counts = ap (value_or (core x)) is }

pub no-fragment : (o : Option Fragment) → option_map core o ≡ None → o ≡ None
no-fragment None is = refl
no-fragment (Some x) is = true_false true refl (ap is_some is)
