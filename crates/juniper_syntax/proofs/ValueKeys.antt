-- The keys of an object differ.
use Rattle.std.proofs.Common.{◌≡◌, List, [], ◌∷◌, true, false, ◌||◌, cond, String, Global, string_bytes, refl, ap, ◌∙◌}
use Rattle.std.specs.List.{AllByRecursion, IsDistinct}
use Rattle.std.specs.Map.{keys_of}
use Rattle.std.specs.String.{string_eq}
use Rattle.graphql_spec.specs.Shown.{Shown}
use Rattle.graphql_spec.specs.Values.{has_entry, keys_differ}
use Rattle.juniper_syntax.specs.ValueView.{view_entries}
use Rattle.juniper_syntax.proofs.Values.{Pair}

module _ {S : Type 0} (shown : S → Shown) where
  -- a key that differs from all others is not among them
  gone-others : (k : String Global) (es : List (Pair S)) → AllByRecursion (λ j. string_eq k j ≡ false) (keys_of es) →
      has_entry (string_bytes k) (view_entries shown es) ≡ false
  unfolding has_entry
  gone-others k [] all = refl
  gone-others k (e ∷ es) all = ap (λ b. b || has_entry (string_bytes k) (view_entries shown es)) all.0 ∙ gone-others k es all.1

  pub distinct-differ : (es : List (Pair S)) → IsDistinct string_eq (keys_of es) → keys_differ (view_entries shown es) ≡ true
  unfolding keys_differ IsDistinct
  distinct-differ [] all = refl
  distinct-differ (e ∷ es) all =
      ap (λ b. cond b false (keys_differ (view_entries shown es))) (gone-others e.0 es all.0) ∙ distinct-differ es all.1
