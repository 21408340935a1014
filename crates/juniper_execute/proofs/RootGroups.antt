-- The root groups of a mutation, over plain variables (6.2.2).
use Rattle.std.proofs.Common.{◌≡◌, ◌&&◌, Bool, List, [], ◌∷◌, ◌++◌, Result, Ok, Err, IsTrue, refl, sym, ap, ◌∙◌, inl, inr, subst}
use Rattle.std.proofs.lemmas.List.{append-nil}
use Rattle.graphql_spec.specs.Positions.{Position}
use Rattle.graphql_spec.specs.Shown.{Shown, Name}
use Rattle.graphql_spec.specs.Documents.{Head, response_key}
use Rattle.graphql_spec.specs.Directives.{passes}
use Rattle.graphql_spec.specs.Fragments.{HasNoCycle, expand}
use Rattle.graphql_spec.specs.Errors.{Listed, Place, key}
use Rattle.graphql_spec.specs.ExactAnswers.{whole}
use Rattle.graphql_spec.specs.Execution.{type_of}
use Rattle.graphql_spec.specs.GroupLaws.{GroupCompleted}
use Rattle.graphql_spec.specs.Laws.{Merges}
use Rattle.graphql_spec.specs.Mutation.{Mutation, step_of, torn_of}
use Rattle.graphql_spec.specs.Resolvers.{Reply, World}
use Rattle.graphql_spec.specs.Selections.{Forest, Occurrence, all_below, occurrences, with_key}
use Rattle.graphql_spec.specs.Types.{TypeRef, innermost, required}
use Rattle.graphql_spec.specs.Values.{Entries, Value, is_null}
use Rattle.graphql_spec.proofs.Completing.{keys-merge}
use Rattle.juniper_lookahead.specs.Collected.{IsReady, expansion, view_all, view_collected}
use Rattle.juniper_lookahead.specs.FragmentView.{ExpandAlike, IsMade, fragments_in}
use Rattle.juniper_lookahead.specs.declared.collecting.Collector.{Collector}
use Rattle.juniper_lookahead.specs.declared.occurrences.Occurrence.{Occurrence as CodeOccurrence}
use Rattle.juniper_conversions.specs.declared.field_error.ResolveError.{ResolveError}
use Rattle.juniper_conversions.specs.declared.field_error.ResolveError.TheVariants.{Field, Memory}
use Rattle.juniper_lookahead.specs.Expansion.{FragmentsByName, fragments_among}
use Rattle.juniper_syntax.specs.declared.position.Span.{Span}
use Rattle.juniper_syntax.specs.declared.position.Spanning.{Spanning}
use Rattle.juniper_syntax.specs.DocumentView.{view_set}
use Rattle.juniper_syntax.specs.InputView.{view_variables}
use Rattle.juniper_syntax.specs.declared.ast.Field.{Field as FieldType, out-Field}
use Rattle.juniper_types.specs.Stepping.{Leaves}
use Rattle.juniper_walk.specs.Completing.{IsTold}
use Rattle.juniper_walk.proofs.Preparation.{same-head}
use Rattle.juniper_walk.specs.Asking.{IsAskedOf}
use Rattle.juniper_walk.specs.FieldWords.{head_of}
use Rattle.juniper_walk.specs.Walking.{SelectionsAgree}
use Rattle.juniper_lookahead.specs.Sites.{IsFirstOf, IsWholeGroup}
use Rattle.juniper_lookahead.specs.declared.occurrences.Enclosing.{Enclosing}
use Rattle.juniper_walk.specs.PlanWalks.{HasFirst, IsGroupOf}
use Rattle.juniper_walk.specs.Plans.{IsMade as IsPlanMade, IsStep, StandsFor, all_expanded}
use Rattle.juniper_walk.proofs.Whole.{first-field, whole-at}
use Rattle.juniper_walk.specs.declared.plan.GroupRange.{GroupRange}
use Rattle.juniper_walk.specs.declared.plan.Plan.{Plan}
use Rattle.juniper_walk.proofs.Elsewhere.{same-all, same-each, standing-elsewhere, stands-elsewhere}
use Rattle.juniper_execute.specs.RootFields.{IsReadyRoot, collector_in, field_in}
use Rattle.juniper_execute.specs.Stepping.{GroupRan, GroupStopped, IsGiven, StepLeaves}
use Rattle.juniper_execute.specs.declared.root_walk.RootWalk.{RootWalk}

-- ## The fields, as a collector sees them

module _ {A S P : Type 0} (shown : S → Shown) (w : RootWalk A S) (c : Collector S P) (f : c.fragments.now ≡ w.fragments.now)
    (v : c.variables.now ≡ w.variables.now) where
  pub root-ready : IsReadyRoot shown w → IsReady shown c
  root-ready ready = record { made = subst (IsMade shown) (sym f) ready.made; acyclic = subst (λ m. HasNoCycle (fragments_in shown m)) (sym f) ready.acyclic }

  pub field-same : (x : Spanning (FieldType S) Span) → view_collected shown c x ≡ field_in shown w x
  unfolding view_collected expansion
  field-same x = ap (λ m. record {
    head = head_of shown x;
    below =
        expand (passes (view_variables shown c.variables.now)) (fragments_in shown m) (view_set shown (out-Field S x.item).selection_set);
  }) f
      ∙ ap (λ vs. record {
        head = head_of shown x;
        below =
            expand (passes (view_variables shown vs)) (fragments_in shown w.fragments.now) (view_set shown (out-Field S x.item).selection_set);
      }) v

-- ## A plan, as another collector sees it

module _ {S P R : Type 0} (shown : S → Shown) (c : Collector S P) (d : Collector S R) (f : c.fragments.now ≡ d.fragments.now)
    (v : c.variables.now ≡ d.variables.now) where
  pub same-fields-elsewhere : (os : List (CodeOccurrence S)) → view_all shown c os ≡ view_all shown d os
  same-fields-elsewhere os = same-all shown c d f v os

  pub step-elsewhere : {Q : Type 0} (asks : Name → Head → Q → Type 0) (possible : Name → Name → Bool) (p q : Plan S Q) →
      IsStep shown c asks possible p q → IsStep shown d asks possible p q
  step-elsewhere asks possible p q s = record { standing = standing-elsewhere shown c d f v asks possible q s.standing; grown = s.grown }

  pub made-elsewhere : {Q : Type 0} (asks : Name → Head → Q → Type 0) (possible : Name → Name → Bool) (T : Name) (es : List (Enclosing S)) (p q : Plan S Q)
      (r : GroupRange) → IsPlanMade shown c asks possible T (occurrences possible T (all_expanded shown c es)) p q r →
      IsPlanMade shown d asks possible T (occurrences possible T (all_expanded shown d es)) p q r
  made-elsewhere asks possible T es p q r m = record {
    standing = standing-elsewhere shown c d f v asks possible q m.standing;
    grown = m.grown;
    stands = subst (λ x. StandsFor shown d asks T q r (occurrences possible T x)) (same-each shown c d f v es)
        (stands-elsewhere shown c d f v asks T q r _ m.stands);
  }

  pub completed-elsewhere : (pick : List Position → List Position) {N : Type 0} (W : World N) (at : Place) (t : TypeRef) (r : Reply N)
      (os : List (CodeOccurrence S)) (x : Value) (es : List Listed) →
      GroupCompleted whole pick W at [] t r (view_all shown c os) x es → GroupCompleted whole pick W at [] t r (view_all shown d os) x es
  completed-elsewhere pick W at t r os x es p = subst (λ l. GroupCompleted whole pick W at [] t r l x es) (same-all shown c d f v os) p

  pub merges-elsewhere : {N : Type 0} (W : World N) (n : Name) (os : List (CodeOccurrence S)) → Merges W n (all_below (view_all shown d os)) →
      Merges W n (all_below (view_all shown c os))
  merges-elsewhere W n os m = subst (λ l. Merges W n (all_below l)) (sym (same-all shown c d f v os)) m

-- ## A group, as the plan has it

pub place-at : (root here : Place) (j k : Name) → here ≡ root ++ key j ∷ [] → root ≡ [] → j ≡ k → here ≡ key k ∷ []
place-at root here j k is empty same = is ∙ (ap (λ (p : Place). p ++ key j ∷ []) empty ∙ ap (λ (n : Name). key n ∷ []) same)

pub completed-for : (pick : List Position → List Position) {N : Type 0} (W : World N) (at : Place) (t : TypeRef) (r : Reply N) (l os : List Occurrence)
    (v : Value) (es : List Listed) → l ≡ os → GroupCompleted whole pick W at [] t r l v es → GroupCompleted whole pick W at [] t r os v es
completed-for pick W at t r l os v es e p = subst (λ x. GroupCompleted whole pick W at [] t r x v es) e p

module _ {A S : Type 0} (shown : S → Shown) (w : RootWalk A S) where
  pub has-first : (k : Name) (all os : List Occurrence) → IsGroupOf k all os → HasFirst os
  has-first k all os g = record { first = g.first; others = g.others; some = g.some }

  -- the occurrences of a response key are those of its first field and others
  pub group-others : (fs : List (CodeOccurrence S)) (f : Spanning (FieldType S) Span) (k : Name) (os : List Occurrence) → IsFirstOf f fs →
      IsGroupOf k os (view_all shown (collector_in shown w) fs) → (others : List Occurrence) × (with_key k os ≡ field_in shown w f ∷ others)
  group-others [] f k os first g = absurd first
  group-others (o ∷ fs) f k os first g =
      let e : view_collected shown (collector_in shown w) o.field.now ≡ field_in shown w f =
      field-same shown w (collector_in shown w) refl refl o.field.now ∙ ap (field_in shown w) first in
      (view_all shown (collector_in shown w) fs, sym g.whole ∙ ap (λ (x : Occurrence). x ∷ view_all shown (collector_in shown w) fs) e)

  -- what it asks is asked for its first field
  pub group-asked : {Q : Type 0} (asks : Head → Q → Type 0) (fs : List (CodeOccurrence S)) (f : Spanning (FieldType S) Span) (q : Q) → IsFirstOf f fs →
      IsAskedOf asks (view_all shown (collector_in shown w) fs) q → asks (head_of shown f) q
  group-asked asks [] f q first a = absurd first
  group-asked asks (o ∷ fs) f q first a =
      let e : view_collected shown (collector_in shown w) o.field.now ∷ view_all shown (collector_in shown w) fs ≡ a.first ∷ a.others = a.some in
      let same : a.first ≡ view_collected shown (collector_in shown w) o.field.now = cc in
      subst (λ (x : Spanning (FieldType S) Span). asks (head_of shown x) q) first
      (subst (λ h. asks h q) (ap (λ (x : Occurrence). x.head) same ∙ same-head shown (collector_in shown w) o.field.now) a.asked)

  -- its first field has the response key
  pub group-key : (fs : List (CodeOccurrence S)) (f : Spanning (FieldType S) Span) (k : Name) (os : List Occurrence) → IsFirstOf f fs →
      IsGroupOf k os (view_all shown (collector_in shown w) fs) → response_key (head_of shown f) ≡ k
  group-key [] f k os first g = absurd first
  group-key (o ∷ fs) f k os first g =
      sym ((first-field shown (collector_in shown w) (o ∷ fs) o k os g).1 ∙ ap (λ (x : Spanning (FieldType S) Span). response_key (head_of shown x)) first)

  -- the fields are all that the selections hold of it, where the fragments are found by their names
  pub root-whole : (m : FragmentsByName S) → ExpandAlike (fragments_among shown m) (fragments_in shown w.fragments.now) → (possible : Name → Name → Bool)
      (es : List (Enclosing S)) (fs gs : List (CodeOccurrence S)) (k : Name) (s : Forest) → all_expanded shown (collector_in shown w) es ≡ s → gs ≡ fs →
      IsGroupOf k (occurrences possible w.concrete.now s) (view_all shown (collector_in shown w) fs) →
      IsWholeGroup shown possible w.variables.now m w.concrete.now es gs
  root-whole m alike possible es fs gs k s expanded is group =
      whole-at shown (collector_in shown w) m alike possible w.variables.now w.concrete.now es gs k refl
      (subst (λ x. IsGroupOf k (occurrences possible w.concrete.now x) (view_all shown (collector_in shown w) gs)) (sym expanded)
      (subst (λ l. IsGroupOf k (occurrences possible w.concrete.now s) (view_all shown (collector_in shown w) l)) (sym is) group))

-- ## What a step leaves

module _ {C N : Type 0} (M : Mutation C N) (T : Name) (group : List Occurrence) (before after : C) where
  pub leaves-same : {A S : Type 0} (a : Result A (ResolveError S)) → after ≡ before → (step_of M T before group).0 ≡ before →
      StepLeaves M T group before a after
  leaves-same (Ok r) e s = e ∙ sym s
  leaves-same (Err (Field x)) e s = e ∙ sym s
  leaves-same (Err Memory) e s = inl e

  pub leaves-step : {A S : Type 0} (a : Result A (ResolveError S)) (next : C) (torn : C → Bool) → Leaves next torn a after →
      next ≡ (step_of M T before group).0 →
      torn after ≡ torn_of M T before group after → StepLeaves M T group before a after
  leaves-step (Ok r) next torn l s t = l ∙ s
  leaves-step (Err (Field x)) next torn l s t = l ∙ s
  leaves-step (Err Memory) next torn l s t = inr (inl (subst IsTrue t l))

  pub told-leaves : {A S : Type 0} (a : Result A (ResolveError S)) → IsTold a → StepLeaves M T group before a after → after ≡ (step_of M T before group).0
  told-leaves (Ok r) t l = l
  told-leaves (Err (Field x)) t l = l
  told-leaves (Err Memory) t l = absurd t

  pub left-stopped : {A S : Type 0} (a : Result A (ResolveError S)) → StepLeaves M T group before a after → GroupStopped M T group before after
  left-stopped (Ok r) l = inr (inr l)
  left-stopped (Err (Field x)) l = inr (inr l)
  left-stopped (Err Memory) l = l

-- ## A group

module _ {N : Type 0} (W : World N) (T : Name) (o : Occurrence) (group : List Occurrence) (t : TypeRef) (declared : t ≡ W.field_type T o.head.name.item) where
  pub group-type : t ≡ type_of W T (o ∷ group)
  unfolding type_of
  group-type = declared

  -- what the fields of a key select merges
  pub group-merges : (s : Forest) → SelectionsAgree W T s → (k : Name) → with_key k (occurrences W.possible T s) ≡ o ∷ group →
      (os : List Occurrence) → os ≡ o ∷ group → Merges W (innermost t) (all_below os)
  group-merges s agree k is os e =
      subst (λ l. Merges W (innermost t) (all_below l)) (sym e)
      (subst (λ u. Merges W (innermost u) (all_below (o ∷ group))) (sym (group-type ∙ ap (type_of W T) (sym is)))
      (keys-merge W T (occurrences W.possible T s) agree k (o ∷ group) [] (is ∙ sym (append-nil (o ∷ group)))))

module _ {C N : Type 0} (M : Mutation C N) (T k : Name) (os group : List Occurrence) (is : with_key k os ≡ group) (before after : C) where
  abbrev next : List Occurrence → C × Reply N
  next g = step_of M T before g

  abbrev type_in : List Occurrence → TypeRef
  type_in g = type_of (M.world (next g).0) T g

  pub group-ran : (pick : List Position → List Position) → after ≡ (next group).0 → (t : TypeRef) → t ≡ type_of (M.world after) T group → (at : Place) →
      at ≡ key k ∷ [] → (v : Value) (es : List Listed) →
      GroupCompleted whole pick (M.world after) at [] t (next group).1 group v es → (r rises : Bool) → r ≡ required t →
      (held put_in : Entries) (errors listed : List Listed) →
      IsGiven k r v es rises held put_in errors listed → GroupRan M T pick k os before held errors rises put_in listed after
  group-ran pick stepped t typed at here v es completed r rises non_null held put_in errors listed given =
      let own : t ≡ type_in (with_key k os) = typed ∙ (ap (λ c. type_of (M.world c) T group) stepped ∙ ap type_in (sym is)) in
      let one : GroupCompleted whole pick (M.world after) (key k ∷ []) [] t (next group).1 group v es =
      subst (λ p. GroupCompleted whole pick (M.world after) p [] t (next group).1 group v es) here completed in
      let two : GroupCompleted whole pick (M.world after) (key k ∷ []) [] (type_of (M.world after) T group) (next group).1 group v es =
      subst (λ u. GroupCompleted whole pick (M.world after) (key k ∷ []) [] u (next group).1 group v es) typed one in
      let three : GroupCompleted whole pick (M.world (next group).0) (key k ∷ []) [] (type_in group) (next group).1 group v es =
      subst (λ c. GroupCompleted whole pick (M.world c) (key k ∷ []) [] (type_of (M.world c) T group) (next group).1 group v es) stepped two in
      record {
        value = v;
        more = es;
        context = stepped ∙ ap (λ g. (next g).0) (sym is);
        completed = subst (λ g. GroupCompleted whole pick (M.world (next g).0) (key k ∷ []) [] (type_in g) (next g).1 g v es) (sym is) three;
        loses = given.loses ∙ ap (λ b. is_null v && b) (non_null ∙ ap required own);
        lists = given.lists;
        puts = given.puts;
      }

  -- where memory was wanting before the step, and after it
  pub stopped-before : after ≡ before → GroupStopped M T (with_key k os) before after
  stopped-before e = inl e

  pub stopped-in : GroupStopped M T group before after → GroupStopped M T (with_key k os) before after
  stopped-in s = subst (λ g. GroupStopped M T g before after) (sym is) s

pub given-at : (k j : Name) (r : Bool) (v : Value) (more : List Listed) (rises : Bool) (held put_in : Entries) (errors listed : List Listed) → k ≡ j →
    IsGiven k r v more rises held put_in errors listed → IsGiven j r v more rises held put_in errors listed
given-at k j r v more rises held put_in errors listed e g = subst (λ i. IsGiven i r v more rises held put_in errors listed) e g
