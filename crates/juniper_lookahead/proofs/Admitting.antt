-- A turn of the loop over directives.
use Rattle.std.proofs.Common.{◌≡◌, ℕ, ◌+◌, ◌<◌, Bool, true, false, ◌&&◌, List, length, get_or, drop, map, sym, refl, ap, ◌∙◌}
use Rattle.graphql_spec.specs.Documents.{Directive}
use Rattle.graphql_spec.specs.Directives.{admits}
use Rattle.juniper_syntax.proofs.Lists.{seen-left-is}

module _ {A : Type 0} (test : Directive → Bool) (view : A → Directive) (xs : List A) (i : ℕ) (x : A) (below : i < length xs) (is : x ≡ get_or xs i x) where
  here : admits test (map view (drop i xs)) ≡ (test (view x) && admits test (map view (drop (i + 1) xs)))
  unfolding admits
  here = ap (admits test) (seen-left-is view xs i x below is)

  pub admits-stops : test (view x) ≡ false → admits test (map view (drop i xs)) ≡ admits test (map view xs) → admits test (map view xs) ≡ false
  admits-stops fails same = sym same ∙ (here ∙ rw fails refl)

  pub admits-goes-on : test (view x) ≡ true → admits test (map view (drop i xs)) ≡ admits test (map view xs)
      → admits test (map view (drop (i + 1) xs)) ≡ admits test (map view xs)
  admits-goes-on passed same = sym (here ∙ rw passed refl) ∙ same
