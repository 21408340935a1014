-- The values of variables, one put after another.
use Rattle.std.proofs.Common.{◌≡◌, Bool, true, false, cond, List, [], ◌∷◌, ◌++◌, Option, Some, option_map, bytes_eq, String, Global, string_bytes, string_cmp}
use Rattle.std.proofs.Common.{refl, sym, ap, subst, ◌∙◌, inl, inr}
use Rattle.std.specs.HashMap.{HashMap, get_by_text}
use Rattle.std.specs.List.Sorted.{IsStrictlySortedBy}
use Rattle.std.specs.Map.{keys_of}
use Rattle.std.proofs.lemmas.Bool.{cases_Bool, both_ways}
use Rattle.graphql_spec.proofs.Lists.{same_true, same_refl}
use Rattle.graphql_spec.specs.Inputs.{Variables}
use Rattle.graphql_spec.specs.Shown.{Name}
use Rattle.juniper_syntax.specs.InputView.{view_input, view_variables}
use Rattle.juniper_syntax.specs.Scalars.{default_shown}
use Rattle.juniper_syntax.specs.declared.input.InputValue.{InputValue}
use Rattle.juniper_syntax.specs.declared.scalar.DefaultScalarValue.{DefaultScalarValue}
use Rattle.juniper_json.specs.Given.{input_of, put_value, values_of}
use Rattle.serde_json.proofs.Views.{Entry, put_last, get_member-put, get_member-put_other}
use Rattle.serde_json.specs.Data.{Data, Members, put}
use Rattle.serde_json.specs.Find.{get_member}
use Rattle.serde_json.specs.View.{view, members_view}

cond_map : {X Y : Type 0} (f : X → Y) (b : Bool) (x : X) (o : Option X) → option_map f (cond b (Some x) o) ≡ cond b (Some (f x)) (option_map f o)
cond_map f true x o = refl
cond_map f false x o = refl

-- what is put into the map is put among the values
pub put_text : {H : Type 0} (old new : HashMap (String Global) (InputValue DefaultScalarValue) H) (key k : Name) (v : InputValue DefaultScalarValue)
    (d : Data) → key ≡ k → view_input default_shown v ≡ input_of d
    → ((n : Name) → get_by_text new n ≡ cond (bytes_eq key n) (Some v) (get_by_text old n)) → (n : Name) →
    view_variables default_shown new n ≡ put_value k d (view_variables default_shown old) n
put_text old new key k v d named is updates n =
    ap (option_map (view_input default_shown)) (updates n) ∙ (cond_map (view_input default_shown) (bytes_eq key n) v (get_by_text old n) ∙ rw (named, is) refl)

-- what is put among the values is that of a member that is put
put_member : (k : Name) (d : Data) (ms : Members) (n : Name) → put_value k d (values_of ms) n ≡ values_of (put k d ms) n
put_member k d ms n = elim (cases_Bool (bytes_eq k n)) [
  | inl e ↦ rw e (sym (ap (option_map input_of) (subst (λ m. get_member m (put k d ms) ≡ Some d) (same_true k n e) (get_member-put k d ms))))
  | inr e ↦ rw e (sym (ap (option_map input_of) (get_member-put_other n k d ms
      (λ same. both_ways (bytes_eq k n) e (subst (λ m. bytes_eq k m ≡ true) (sym same) (same_refl k))))))
]

-- a member that stands behind the others is put last
pub put_next : (done : List Entry) (e : Entry) (rest : List Entry) (old new : Variables) → IsStrictlySortedBy string_cmp (keys_of (done ++ e ∷ rest)) →
    old ≡ values_of (members_view done)
    → ((n : Name) → new n ≡ put_value (string_bytes e.0) (view e.1) old n) → new ≡ values_of (members_view (done ++ e ∷ []))
put_next done e rest old new sorted is puts = λ i n. (at n) i
  where
    at : (n : Name) → new n ≡ values_of (members_view (done ++ e ∷ [])) n
    at n = puts n ∙ (ap (λ (o : Variables). put_value (string_bytes e.0) (view e.1) o n) is
        ∙ (put_member (string_bytes e.0) (view e.1) (members_view done) n ∙ ap (λ ms. values_of ms n) (put_last done e rest sorted)))
