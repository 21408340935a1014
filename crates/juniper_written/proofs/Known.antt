-- The directives that every schema has, one after the other.
use Rattle.std.proofs.Common.{◌≡◌, Bool, true, false, ◌||◌, not, cond, codes, Option, Some, None, refl, sym, ap, ◌∙◌}
use Rattle.std.specs.Option.{is_some, is_none}
use Rattle.std.specs.Str.{bytes_eq}
use Rattle.graphql_spec.specs.Shown.{Name}
use Rattle.graphql_spec.specs.BuiltIns.{directives}
use Rattle.graphql_spec.specs.Placed.{directive_in, directive_named}

pub none-is : {A : Type 0} (o : Option A) → is_none o ≡ not (is_some o)
none-is None = refl
none-is (Some x) = refl

pub some-first : {A : Type 0} (b : Bool) (d : A) (o : Option A) → is_some (cond b (Some d) o) ≡ (b || is_some o)
some-first true d o = refl
some-first false d o = refl

pub or-false : (b : Bool) → (b || false) ≡ b
or-false true = refl
or-false false = refl

known-is : (n : Name) → is_some (directive_named n)
    ≡ (bytes_eq n (codes "deprecated") || (bytes_eq n (codes "include") || (bytes_eq n (codes "skip") || bytes_eq n (codes "specifiedBy"))))
unfolding directive_named directive_in directives
known-is n =
    some-first (bytes_eq n (codes "deprecated")) _ _ ∙ ap (λ b. bytes_eq n (codes "deprecated") || b)
    (some-first (bytes_eq n (codes "include")) _ _ ∙ ap (λ b. bytes_eq n (codes "include") || b)
    (some-first (bytes_eq n (codes "skip")) _ _ ∙ ap (λ b. bytes_eq n (codes "skip") || b)
    (some-first (bytes_eq n (codes "specifiedBy")) _ _ ∙ or-false _)))

module _ (n : Name) where
  pub known-first : bytes_eq n (codes "deprecated") ≡ true → true ≡ is_some (directive_named n)
  known-first e = sym (known-is n ∙ rw e refl)

  pub known-second : bytes_eq n (codes "deprecated") ≡ false → bytes_eq n (codes "include") ≡ true → true ≡ is_some (directive_named n)
  known-second d e = sym (known-is n ∙ rw d (rw e refl))

  pub known-third : bytes_eq n (codes "deprecated") ≡ false → bytes_eq n (codes "include") ≡ false → bytes_eq n (codes "skip") ≡ true →
      true ≡ is_some (directive_named n)
  known-third d i e = sym (known-is n ∙ rw d (rw i (rw e refl)))

  pub known-last : bytes_eq n (codes "deprecated") ≡ false → bytes_eq n (codes "include") ≡ false → bytes_eq n (codes "skip") ≡ false →
      bytes_eq n (codes "specifiedBy") ≡ is_some (directive_named n)
  known-last d i s = sym (known-is n ∙ rw d (rw i (rw s refl)))
