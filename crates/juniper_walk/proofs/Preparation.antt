-- A field's answer, taken apart from its nodes.
use Rattle.std.proofs.Common.{◌≡◌, Bool, List, [], ◌∷◌, Bor, refl, sym, ap, ◌∙◌, subst}
use Rattle.graphql_spec.specs.Shown.{Shown, Name}
use Rattle.graphql_spec.specs.Positions.{Position}
use Rattle.graphql_spec.specs.Documents.{response_key}
use Rattle.graphql_spec.specs.ExactAnswers.{whole}
use Rattle.graphql_spec.specs.Selections.{Occurrence, occurrences, with_key}
use Rattle.graphql_spec.specs.Documents.{Selections}
use Rattle.graphql_spec.specs.Directives.{passes}
use Rattle.graphql_spec.proofs.Lists.{same_refl}
use Rattle.graphql_spec.proofs.Parts.{chain-end}
use Rattle.graphql_spec.specs.Resolvers.{Error}
use Rattle.graphql_spec.specs.Skeletons.{Spot, listed_spots}
use Rattle.juniper_syntax.specs.declared.position.Spanning.{Spanning}
use Rattle.juniper_syntax.specs.declared.position.Span.{Span}
use Rattle.juniper_syntax.specs.Positions.{view_span}
use Rattle.juniper_syntax.specs.InputView.{view_variables}
use Rattle.juniper_syntax.specs.DocumentView.{view_head, view_selections, view_set}
use Rattle.juniper_syntax.specs.declared.ast.Field.{Field as FieldType, out-Field}
use Rattle.juniper_syntax.specs.declared.ast.Selection.{Selection}
use Rattle.juniper_lookahead.specs.Expansion.{FragmentsByName, VariableMap, expanded, fragments_among, occurrence_at}
use Rattle.juniper_lookahead.specs.Sites.{IsWholeGroup, expanded_each, view_fields}
use Rattle.juniper_lookahead.specs.FragmentView.{ExpandAlike, fragments_in}
use Rattle.juniper_lookahead.specs.Collected.{expansion, view_collected}
use Rattle.juniper_lookahead.specs.declared.collecting.Collector.{Collector}
use Rattle.juniper_walk.specs.FieldWords.{head_of}

pub same-head : {S P : Type 0} (shown : S → Shown) (c : Collector S P) (f : Spanning (FieldType S) Span) → (view_collected shown c f).head ≡ head_of shown f
unfolding view_collected
same-head shown c f = refl

pub listed-same : (a b : Position) (xs : List (Spot Error)) → a ≡ b → listed_spots whole a xs ≡ listed_spots whole b xs
listed-same a b xs e = ap (λ x. listed_spots whole x xs) e

-- ## A field whose selection stands alone is a whole group, also where the fragments are found by their names

own-key : (o : Occurrence) → with_key (response_key o.head) (o ∷ []) ≡ o ∷ []
unfolding with_key
own-key o = rw (same_refl (response_key o.head)) refl

module _ {S P : Type 0} (shown : S → Shown) (c : Collector S P) (m : FragmentsByName S)
    (alike : ExpandAlike (fragments_among shown m) (fragments_in shown c.fragments.now)) where
  pub same-expansion : (s : Selections) → expansion shown c s ≡ expanded shown c.variables.now m s
  unfolding expansion expanded
  same-expansion s = sym (alike (passes (view_variables shown c.variables.now)) s)

  pub same-occurrence : (f : Spanning (FieldType S) Span) → view_collected shown c f ≡ occurrence_at shown c.variables.now m f
  unfolding view_collected occurrence_at
  same-occurrence f = ap (λ b. record { head = view_head shown (out-Field S f.item) (view_span f.span); below = b })
      (same-expansion (view_set shown (out-Field S f.item).selection_set))

  -- the one field that is shown where the values of variables are those of the collector
  pub same-single : (vars : VariableMap S) (f : Bor (Spanning (FieldType S) Span)) → vars ≡ c.variables.now →
      view_fields shown vars m (record { field = f } ∷ []) ≡ view_collected shown c f.now ∷ []
  same-single vars f is = ap (λ v. view_fields shown v m (record { field = f } ∷ [])) is ∙ ap (λ o. o ∷ []) (sym (same-occurrence f.now))

  module _ (possible : Name → Name → Bool) (T : Name) (a : Bor (List (Selection S))) (f : Bor (Spanning (FieldType S) Span))
      (alone : occurrences possible T (expansion shown c (view_selections shown a.now)) ≡ view_collected shown c f.now ∷ []) where
    abbrev o : Occurrence
    o = occurrence_at shown c.variables.now m f.now

    all-held : occurrences possible T (expanded_each shown c.variables.now m (record { selections = a } ∷ [])) ≡ o ∷ []
    unfolding expanded_each
    all-held =
        ap (occurrences possible T) (chain-end (expanded shown c.variables.now m (view_selections shown a.now))
        ∙ sym (same-expansion (view_selections shown a.now)))
        ∙ (alone ∙ ap (λ x. x ∷ []) (same-occurrence f.now))

    pub alone-whole : (vars : VariableMap S) → vars ≡ c.variables.now →
        IsWholeGroup shown possible vars m T (record { selections = a } ∷ []) (record { field = f } ∷ [])
    alone-whole vars is = subst (λ v. IsWholeGroup shown possible v m T (record { selections = a } ∷ []) (record { field = f } ∷ [])) (sym is) (record {
      key = response_key o.head;
      first = o;
      others = [];
      some = refl;
      whole = sym (ap (with_key (response_key o.head)) all-held ∙ own-key o);
    })
