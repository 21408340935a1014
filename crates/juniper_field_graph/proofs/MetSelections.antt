-- Fields that are met, one selection behind the other.
use Rattle.std.proofs.Common.{◌≡◌, ℕ, ◌+◌, ◌<◌, ◌≤◌, List, [], ◌∷◌, ◌++◌, length, get_or, drop, Option, Some, None, Vec, Global, sym, ap, ◌∙◌, subst}
use Rattle.std.proofs.lemmas.List.{drop_all}
use Rattle.graphql_spec.specs.Shown.{Shown, Name}
use Rattle.graphql_spec.specs.Types.{innermost}
use Rattle.graphql_spec.specs.Documents.{Selections, name_or}
use Rattle.graphql_spec.specs.Schema.{Schema}
use Rattle.graphql_spec.specs.Fields.{declared_type, field_of}
use Rattle.juniper_syntax.specs.declared.position.Spanning.{Spanning}
use Rattle.juniper_syntax.specs.declared.position.Span.{Span}
use Rattle.juniper_syntax.specs.DocumentView.{put_selection, view_field, view_selections, view_set}
use Rattle.juniper_syntax.specs.declared.ast.Field.{Field as FieldType, out-Field}
use Rattle.juniper_syntax.specs.declared.ast.InlineFragment.{InlineFragment as InlineType, out-InlineFragment}
use Rattle.juniper_syntax.specs.declared.ast.FragmentSpread.{FragmentSpread as SpreadType}
use Rattle.juniper_syntax.specs.declared.ast.Selection.{Selection, Field, FragmentSpread, InlineFragment}
use Rattle.juniper_syntax.proofs.Documents.{put-Field, put-FragmentSpread, put-InlineFragment}
use Rattle.juniper_syntax.proofs.Lists.{left-is}
use Rattle.juniper_written.specs.WrittenView.{view_inline}
use Rattle.juniper_field_graph.specs.MetView.{Meets, Table}
use Rattle.juniper_field_graph.specs.PlainKeys.{placed_on, written_on}
use Rattle.juniper_field_graph.proofs.Meeting.{meets-nothing, meets-then}

-- ## A selection

module _ {S : Type 0} (shown : S → Shown) (s : Schema) (p : Name) (x : Selection S) (old new : Table) where
  -- what follows is met then, and so the whole is
  abbrev pub IsMetBefore : Type 0
  IsMetBefore = (then : Table) (rest : Selections) → Meets s new then (written_on s p rest) →
      Meets s old then (written_on s p (put_selection shown x rest))

  pub field-before : (f : Spanning (FieldType S) Span) (mid : Table) → x ≡ Field f → Meets s old mid (placed_on s p (view_field shown f) ∷ []) →
      Meets s mid new (written_on s (innermost (declared_type (field_of s p (view_field shown f).name.item)))
      (view_set shown (out-Field S f.item).selection_set)) → IsMetBefore
  unfolding written_on
  field-before f mid is own below = λ then rest after.
      let h = view_field shown f in
      let set : Selections = view_set shown (out-Field S f.item).selection_set in
      let inside = written_on s (innermost (declared_type (field_of s p h.name.item))) set in
      subst (λ w. Meets s old then (written_on s p w)) (sym (ap (λ y. put_selection shown y rest) is ∙ put-Field shown f rest))
      (meets-then s old mid then (placed_on s p h ∷ []) (inside ++ written_on s p rest) own
      (meets-then s mid new then inside (written_on s p rest) below after))

  pub spread-before : (f : Spanning (SpreadType S) Span) → x ≡ FragmentSpread f → new ≡ old → IsMetBefore
  unfolding written_on
  spread-before f is same = λ then rest after.
      subst (λ w. Meets s old then (written_on s p w)) (sym (ap (λ y. put_selection shown y rest) is ∙ put-FragmentSpread shown f rest))
      (subst (λ t. Meets s t then (written_on s p rest)) same after)

  pub inline-before : (f : Spanning (InlineType S) Span) (q : Name) → x ≡ InlineFragment f → q ≡ name_or (view_inline shown f).condition p →
      Meets s old new (written_on s q (view_selections shown (out-InlineFragment S f.item).selection_set.items)) → IsMetBefore
  unfolding written_on
  inline-before f q is type below = λ then rest after.
      let set : Selections = view_selections shown (out-InlineFragment S f.item).selection_set.items in
      subst (λ w. Meets s old then (written_on s p w)) (sym (ap (λ y. put_selection shown y rest) is ∙ put-InlineFragment shown f rest))
      (meets-then s old new then (written_on s (name_or (view_inline shown f).condition p) set) (written_on s p rest)
      (subst (λ n. Meets s old new (written_on s n set)) type below) after)

-- nothing is selected
pub none-below : {S : Type 0} (shown : S → Shown) (s : Schema) (t : Table) (q : Name) (o : Option (Vec (Selection S) Global)) → o ≡ None →
    Meets s t t (written_on s q (view_set shown o))
unfolding written_on
none-below shown s t q o is = subst (λ z. Meets s t t (written_on s q (view_set shown z))) (sym is) (meets-nothing s t)

-- what a field selects
pub set-below : {S : Type 0} (shown : S → Shown) (s : Schema) (t u : Table) (q n : Name) (o : Option (Vec (Selection S) Global)) (v : Vec (Selection S) Global)
    (within : List (Selection S)) → o ≡ Some v → within ≡ v.items → q ≡ n → Meets s t u (written_on s q (view_selections shown within)) →
    Meets s t u (written_on s n (view_set shown o))
set-below shown s t u q n o v within is same type m =
    subst (λ z. Meets s t u (written_on s n (view_set shown z))) (sym is)
    (subst (λ l. Meets s t u (written_on s n (view_selections shown l))) same
    (subst (λ z. Meets s t u (written_on s z (view_selections shown within))) type m))

-- ## Selections

module _ {S : Type 0} (shown : S → Shown) (s : Schema) (p : Name) (xs : List (Selection S)) (old : Table) where
  -- where what is left is met then, the whole is
  abbrev pub IsMetSoFar : ℕ → Table → Type 0
  IsMetSoFar i now = (then : Table) → Meets s now then (written_on s p (view_selections shown (drop i xs))) →
      Meets s old then (written_on s p (view_selections shown xs))

  pub met-next : (i : ℕ) (x : Selection S) (now new : Table) → i < length xs → x ≡ get_or xs i x → IsMetSoFar i now →
      IsMetBefore shown s p x now new → IsMetSoFar (i + 1) new
  met-next i x now new below is so-far one = λ then after.
      so-far then (subst (λ l. Meets s now then (written_on s p (view_selections shown l))) (sym (left-is xs i x below is))
      (one then (view_selections shown (drop (i + 1) xs)) after))

  pub met-all : (i : ℕ) (now : Table) → length xs ≤ i → IsMetSoFar i now → Meets s old now (written_on s p (view_selections shown xs))
  unfolding written_on
  met-all i now over so-far = so-far now
      (subst (λ l. Meets s now now (written_on s p (view_selections shown l))) (sym (drop_all i xs over)) (meets-nothing s now))
