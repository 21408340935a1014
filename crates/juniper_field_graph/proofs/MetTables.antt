-- What is met, as the code keeps it.
use Rattle.std.specs.Prelude.{ℕ, true, [], ◌∷◌, Some, None, ◌≡◌, option_map}
use Rattle.std.specs.BTreeMap.{BTreeMap, get}
use Rattle.std.specs.BTreeMap as tree
use Rattle.std.specs.Map.{lookup}
use Rattle.std.specs.Ordering.{nat_cmp}
use Rattle.std.proofs.Common.{refl, ap, ◌∙◌, inl, subst}
use Rattle.graphql_spec.specs.Shown.{Name, Shown}
use Rattle.graphql_spec.specs.Documents.{response_key}
use Rattle.graphql_spec.specs.Schema.{Schema}
use Rattle.juniper_syntax.specs.NameNumbers.{name_number}
use Rattle.juniper_syntax.specs.DocumentView.{view_field}
use Rattle.juniper_field_graph.specs.KindsView.{IsOnce}
use Rattle.juniper_field_graph.specs.MetView.{Meets, met_at, view_on}
use Rattle.juniper_field_graph.specs.PlainKeys.{is_like, placed_on}
use Rattle.juniper_field_graph.specs.declared.plain_keys.FieldOn.{FieldOn}
use Rattle.juniper_field_graph.proofs.Meeting.{IsPut, meets-again, meets-first}

module _ {S : Type 0} (shown : S → Shown) (s : Schema) where
  put-at : (old new : BTreeMap ℕ (FieldOn S)) (n : ℕ) (f : FieldOn S) → tree.Updates nat_cmp old new n (Some f) →
      IsPut (met_at shown s old) (met_at shown s new) n (view_on shown s f)
  unfolding met_at
  put-at old new n f u = record { own = ap (option_map (view_on shown s)) u.1; others = λ k e. ap (option_map (view_on shown s)) (u.2 k e) }

  pub none-met : (m : BTreeMap ℕ (FieldOn S)) → m.entries ≡ [] → (k : ℕ) → met_at shown s m k ≡ None
  unfolding met_at
  none-met m e k = ap (λ es. option_map (view_on shown s) (lookup (tree.is_at (nat_cmp k)) es)) e

  module _ (old new : BTreeMap ℕ (FieldOn S)) (f : FieldOn S) (key : Name) (n : ℕ) (is-key : key ≡ response_key (view_field shown f.field.now))
      (is : n ≡ name_number key) (put : tree.Updates nat_cmp old new n (Some f)) where
    own-number : n ≡ name_number (response_key (view_on shown s f).head)
    unfolding placed_on
    own-number = is ∙ ap name_number is-key

    pub met-first : get nat_cmp old n ≡ None → Meets s (met_at shown s old) (met_at shown s new) (view_on shown s f ∷ [])
    unfolding met_at
    met-first none = meets-first s (met_at shown s old) (met_at shown s new) (view_on shown s f)
        (subst (λ k. IsPut (met_at shown s old) (met_at shown s new) k (view_on shown s f)) own-number (put-at old new n f put))
        (subst (λ k. met_at shown s old k ≡ None) own-number (ap (option_map (view_on shown s)) none))

    pub met-again : (e : FieldOn S) → get nat_cmp old n ≡ Some e →
        (IsOnce (view_field shown e.field.now) → IsOnce (view_field shown f.field.now) →
        (response_key (view_field shown e.field.now) ≡ response_key (view_field shown f.field.now))
        × (is_like s (view_on shown s e) (view_on shown s f) ≡ true)) →
        Meets s (met_at shown s old) (met_at shown s new) (view_on shown s f ∷ [])
    unfolding met_at placed_on
    met-again e some told = meets-again s (met_at shown s old) (met_at shown s new) (view_on shown s e) (view_on shown s f)
        (subst (λ k. IsPut (met_at shown s old) (met_at shown s new) k (view_on shown s f)) own-number (put-at old new n f put)) found
        (λ once each. told (once (name_number (response_key (view_on shown s f).head)) (view_on shown s e) found) (each (view_on shown s f) (inl refl)))
      where
        found : met_at shown s old (name_number (response_key (view_on shown s f).head)) ≡ Some (view_on shown s e)
        found = subst (λ k. met_at shown s old k ≡ Some (view_on shown s e)) own-number (ap (option_map (view_on shown s)) some)
