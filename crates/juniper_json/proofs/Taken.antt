-- The values of variables, one taken after another.
use Rattle.std.proofs.Common.{◌≡◌, true, cond, List, [], ◌∷◌, ◌++◌, Option, Some, None, option_and_then, bytes_eq}
use Rattle.std.proofs.Common.{string_bytes, string_cmp, nat_cmp, Less, Greater}
use Rattle.std.proofs.Common.{refl, sym, ap, subst, ◌∙◌, inl, inr}
use Rattle.std.proofs.lemmas.Bool.{cases_Bool, both_ways}
use Rattle.std.proofs.lemmas.Cmp.{nat_list_cmp_total}
use Rattle.std.specs.Cmp.Lexicographic.{slice_cmp}
use Rattle.std.specs.List.{AllByRecursion}
use Rattle.std.specs.List.Sorted.{IsStrictlySortedBy}
use Rattle.std.specs.Map.{keys_of}
use Rattle.std.specs.Ordering.{ordering_reverse}
use Rattle.graphql_spec.proofs.Lists.{same_true, same_refl}
use Rattle.graphql_spec.specs.Inputs.{Variables}
use Rattle.graphql_spec.specs.Shown.{Name}
use Rattle.juniper_json.specs.Each.{IsTakenAt, given_of, refusal_of, taken, taken_by}
use Rattle.juniper_json.specs.declared.read.VariablesError.{VariablesError}
use Rattle.serde_json.proofs.Views.{Entry, put_last, get_member-put, get_member-put_other}
use Rattle.serde_json.specs.Data.{Data, Members, put}
use Rattle.serde_json.specs.Find.{get_member}
use Rattle.serde_json.specs.View.{view, members_view}

below : (first : Entry) (es : List Entry) (e : Entry) (more : List Entry)
    → AllByRecursion (λ y. string_cmp first.0 y ≡ Less) (keys_of (es ++ e ∷ more)) → string_cmp first.0 e.0 ≡ Less
below first [] e more h = h.0
below first (x ∷ es) e more h = below first es e more h.1

-- a key does not stand among those before it
absent : (done : List Entry) (e : Entry) (more : List Entry) → IsStrictlySortedBy string_cmp (keys_of (done ++ e ∷ more))
    → get_member (string_bytes e.0) (members_view done) ≡ None
unfolding IsStrictlySortedBy
absent [] e more h = refl
absent (first ∷ done) e more h =
    let above : slice_cmp nat_cmp (string_bytes e.0) (string_bytes first.0) ≡ Greater =
    nat_list_cmp_total.antisymm (string_bytes e.0) (string_bytes first.0) ∙ ap ordering_reverse (below first done e more h.0) in
    rw above (absent done e more h.1)

-- what a member that is put gives
given_put : (k : Name) (d : Data) (ms : Members) (n : Name) → cond (bytes_eq k n) (taken d) (given_of ms n) ≡ given_of (put k d ms) n
given_put k d ms n = elim (cases_Bool (bytes_eq k n)) [
  | inl e ↦ rw e (sym (ap (option_and_then taken) (subst (λ m. get_member m (put k d ms) ≡ Some d) (same_true k n e) (get_member-put k d ms))))
  | inr e ↦ rw e (sym (ap (option_and_then taken) (get_member-put_other n k d ms
      (λ same. both_ways (bytes_eq k n) e (subst (λ m. bytes_eq k m ≡ true) (sym same) (same_refl k))))))
]

-- a value that is taken or refused, at each name
at_each : (k : Name) (d : Data) (o : Option VariablesError) (old new : Variables) → IsTakenAt k d o old new → old k ≡ None
    → (n : Name) → new n ≡ cond (bytes_eq k n) (taken_by o d) (old n)
at_each k d None old new h none n = h n
at_each k d (Some e) old new h none n = elim (cases_Bool (bytes_eq k n)) [
  | inl s ↦ rw s (ap (λ (o : Variables). o n) h ∙ subst (λ m. old m ≡ None) (same_true k n s) none)
  | inr s ↦ rw s (ap (λ (o : Variables). o n) h)
]

-- one more value is taken, or refused
pub take_next : (done : List Entry) (e : Entry) (rest : List Entry) (old new : Variables) → IsStrictlySortedBy string_cmp (keys_of (done ++ e ∷ rest)) →
    old ≡ given_of (members_view done)
    → IsTakenAt (string_bytes e.0) (view e.1) (refusal_of (view e.1)) old new → new ≡ given_of (members_view (done ++ e ∷ []))
take_next done e rest old new sorted is takes = λ i n. (at n) i
  where
    none : old (string_bytes e.0) ≡ None
    none = ap (λ (o : Variables). o (string_bytes e.0)) is ∙ ap (option_and_then taken) (absent done e rest sorted)

    at : (n : Name) → new n ≡ given_of (members_view (done ++ e ∷ [])) n
    at n = at_each (string_bytes e.0) (view e.1) (refusal_of (view e.1)) old new takes none n
        ∙ (ap (λ (o : Variables). cond (bytes_eq (string_bytes e.0) n) (taken (view e.1)) (o n)) is
        ∙ (given_put (string_bytes e.0) (view e.1) (members_view done) n ∙ ap (λ ms. given_of ms n) (put_last done e rest sorted)))
