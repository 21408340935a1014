-- The steps of a walk that gathers selections.
use Rattle.std.proofs.Common.{◌≡◌, ℕ, ◌+◌, ◌<◌, ◌≤◌, false, true, List, [], ◌∷◌, ◌++◌, length, get_or, drop, Option, Some, None, refl, sym, ap, subst, ◌∙◌}
use Rattle.std.specs.List.{slice_get}
use Rattle.std.proofs.lemmas.List.{append_assoc, append-nil, drop_all}
use Rattle.graphql_spec.specs.Shown.{Shown, Name}
use Rattle.graphql_spec.specs.Types.{innermost}
use Rattle.graphql_spec.specs.Documents as spec
use Rattle.graphql_spec.specs.Documents.{Fragment, Head, Selections, end, field, spread, inline, name_or, written}
use Rattle.graphql_spec.specs.Fragments.{HasNoCycle, expand}
use Rattle.graphql_spec.specs.Schema.{Schema}
use Rattle.graphql_spec.specs.Fields.{declared_type, field_of}
use Rattle.graphql_spec.specs.Written.{arguments_repeat}
use Rattle.juniper_merging.specs.Sets.{IsInside, IsSetOf}
use Rattle.juniper_merging.specs.Standing.{Covers}
use Rattle.juniper_merging.specs.Tables.{below_in}
use Rattle.juniper_merging.specs.declared.sets.Gathering.{Gathering}
use Rattle.juniper_merging.proofs.Covering.{covers-end, covers-kept, covers-more}
use Rattle.juniper_merging.proofs.Tables.{set-some}
use Rattle.graphql_spec.specs.ValidityLaws.{sets_below}
use Rattle.juniper_syntax.specs.declared.position.Spanning.{Spanning}
use Rattle.juniper_syntax.specs.declared.position.Span.{Span}
use Rattle.juniper_syntax.specs.DocumentView.{put_selection, view_field, view_selections, view_set}
use Rattle.juniper_syntax.specs.declared.ast.Field.{Field as FieldType, out-Field}
use Rattle.juniper_syntax.specs.declared.ast.InlineFragment.{InlineFragment as InlineType, out-InlineFragment}
use Rattle.juniper_syntax.specs.declared.ast.FragmentSpread.{FragmentSpread as SpreadType}
use Rattle.juniper_syntax.specs.declared.ast.Selection.{Selection, Field, FragmentSpread, InlineFragment, out-Selection, roll-Selection, roll-out-Selection}
use Rattle.juniper_syntax.specs.declared.ast.Selection.TheOpen.{Selection-F}
use Rattle.juniper_syntax.proofs.Documents.{put-Field, put-FragmentSpread, put-InlineFragment}
use Rattle.juniper_syntax.proofs.Lists.{left-is}
use Rattle.juniper_written.specs.WrittenView.{view_inline, view_spread_at}
use Rattle.juniper_field_graph.specs.Gathering.{IsBelowGathered, IsGathered, IsKnown, IsPutTo, IsReadyIn, IsSetGathered, IsSetGatheredAt, IsSetMade}
use Rattle.juniper_field_graph.specs.GraphView.{IsGraphOf, IsPushed, heads_of, table_in, vertices_of}
use Rattle.juniper_field_graph.specs.declared.gathering.Gathered.{Gathered}
use Rattle.juniper_field_graph.specs.declared.graph.FieldGraph.{FieldGraph}
use Rattle.juniper_field_graph.proofs.Leading.{covered-end, covered-from, covered-more-in, leads-field, leads-inline, leads-nothing, leads-spread, leads-then}
use Rattle.juniper_field_graph.proofs.Leading.{leads-unknown, leads-whole}
use Rattle.juniper_field_graph.proofs.More.{more-further, more-itself, more-made, more-pushed}
use Rattle.juniper_field_graph.proofs.SetTables.{pairwise-both, pairwise-none, pairwise-one, set-of-more, sets-more}
use Rattle.juniper_field_graph.proofs.Readiness.{known-held, known-none, ready-field, ready-inline, ready-more, ready-spread}

module _ {S : Type 0} (shown : S → Shown) (s : Schema) (fs : List Fragment) where
  -- nothing is selected
  pub none-gathered : (g : FieldGraph S) (sets : List ℕ) (p : Name) → IsGraphOf shown s g → IsBelowGathered shown s fs g g sets sets p end None
  unfolding below_in
  none-gathered g sets p is = (
    λ b e. cc,
    record {
      grown = more-itself shown s g is;
      bs = [];
      ms = [];
      added = sym (append-nil sets);
      are = pairwise-none (λ b m. slice_get (table_in shown g) b ≡ Some m);
      stands = covers-end s (vertices_of shown g) (heads_of shown g) fs p;
      covered = covered-end s fs (vertices_of shown g) (heads_of shown g) p;
    },
  )

  -- what a field selects, by its set
  pub below-gathered : (old new : FieldGraph S) (sets then : List ℕ) (p : Name) (set : Selections) (b : ℕ) →
      IsSetGatheredAt shown s fs old new sets then p set b → IsBelowGathered shown s fs old new sets then p set (Some b)
  unfolding below_in
  below-gathered old new sets then p set b a = (
    λ c e. subst (IsInside (table_in shown new)) (same e) (a.0, a.1),
    subst (IsSetGathered shown s fs old new sets then p set) (sym (set-some (table_in shown new) b a.0 a.1)) a.2,
  )
    where
      same : {x y : ℕ} → Some x ≡ Some y → x ≡ y
      same e = cc

  -- the same, as the code has it after what a field selects was looked at
  pub set-as : (old : FieldGraph S) (then now : Gathered S) (sets : List ℕ) (p q : Name) (set : Selections) (b : ℕ) (below : Option ℕ) → now ≡ then →
      below ≡ Some b → p ≡ q →
      IsSetGatheredAt shown s fs old then.graph sets then.sets.items p set b → IsBelowGathered shown s fs old now.graph sets now.sets.items q set below
  set-as old then now sets p q set b below same put on a =
      subst (λ z. IsBelowGathered shown s fs old z.graph sets z.sets.items q set below) (sym same)
      (subst (IsBelowGathered shown s fs old then.graph sets then.sets.items q set) (sym put)
      (subst (λ n. IsBelowGathered shown s fs old then.graph sets then.sets.items n set (Some b)) on
      (below-gathered old then.graph sets then.sets.items p set b a)))

  pub none-as : (old now : Gathered S) (below : Option ℕ) (p : Name) → now ≡ old → below ≡ None → IsGraphOf shown s old.graph →
      IsBelowGathered shown s fs old.graph now.graph old.sets.items now.sets.items p end below
  none-as old now below p same put is =
      subst (λ z. IsBelowGathered shown s fs old.graph z.graph old.sets.items z.sets.items p end below) (sym same)
      (subst (IsBelowGathered shown s fs old.graph old.graph old.sets.items old.sets.items p end) (sym put) (none-gathered old.graph old.sets.items p is))

  -- a field, behind what it selects
  pub field-gathered : (old mid new : FieldGraph S) (sets then : List ℕ) (n m : Gathering) (p : Name) (h : Head) (below rest : Selections) (inner : Option ℕ)
      (i : ℕ) →
      IsBelowGathered shown s fs old mid sets then (innermost (declared_type (field_of s p h.name.item))) below inner → IsPushed shown s mid new p h inner i →
      ((t : List (List ℕ)) (all : List ℕ) → IsSetOf t n all → IsSetOf t m (all ++ i ∷ [])) →
      IsGathered shown s fs old new sets then n m p rest (field h below rest)
  field-gathered old mid new sets then n m p h below rest inner i (there, a) put numbers =
      let last = more-pushed shown s mid new put in
      let grown = more-further shown s old mid new a.grown last in
      record {
        grown = grown;
        is = i ∷ [];
        numbers = λ all c. numbers (table_in shown new) all (set-of-more (table_in shown old) (table_in shown new) grown.more n all c);
        bs = a.bs;
        ms = a.ms;
        added = a.added;
        are = sets-more (table_in shown mid) (table_in shown new) last.more a.bs a.ms a.are;
        leads =
            leads-field s fs (vertices_of shown mid) (vertices_of shown new) (heads_of shown mid)
            (heads_of shown new) put.grows p h below rest i put.vertex a.ms
            (put.stands (record { parent = p; occurrence = record { head = h; below = expand (λ y. true) fs below } }) refl refl)
            (subst (Covers s (vertices_of shown mid) (heads_of shown mid) fs (innermost (declared_type (field_of s p h.name.item))) below)
            (sym put.selects) a.stands) a.covered;
      }

  -- a spread of a fragment
  pub spread-gathered : HasNoCycle fs → (g : FieldGraph S) (sets : List ℕ) (n m : Gathering) (held : Name → Option ℕ) (p : Name) (x : spec.Spread)
      (rest : Selections) (b : ℕ) →
      IsGraphOf shown s g → IsKnown s fs (vertices_of shown g) (heads_of shown g) (table_in shown g) held x.name.item → held x.name.item ≡ Some b →
      IsPutTo (table_in shown g) n m b →
      IsGathered shown s fs g g sets sets n m p rest (spread x rest)
  spread-gathered ends g sets n m held p x rest b is known at numbers =
      let t = table_in shown g in
      let r = known-held s fs (vertices_of shown g) (heads_of shown g) t held x.name.item b known at in
      let js = r.2.0 in
      record {
        grown = more-itself shown s g is;
        is = js;
        numbers = λ all c. subst (λ l. IsSetOf t m (all ++ l)) (set-some t b js r.2.1) (numbers all (js, r.2.1) c);
        bs = [];
        ms = [];
        added = sym (append-nil sets);
        are = pairwise-none (λ b m. slice_get t b ≡ Some m);
        leads = leads-spread s fs (vertices_of shown g) (heads_of shown g) ends p x rest r.0 js r.1 r.2.2;
      }

  -- a spread of no fragment
  pub unknown-gathered : HasNoCycle fs → (g : FieldGraph S) (sets : List ℕ) (n : Gathering) (held : Name → Option ℕ) (p : Name) (x : spec.Spread)
      (rest : Selections) →
      IsGraphOf shown s g → IsKnown s fs (vertices_of shown g) (heads_of shown g) (table_in shown g) held x.name.item → held x.name.item ≡ None →
      IsGathered shown s fs g g sets sets n n p rest (spread x rest)
  unknown-gathered ends g sets n held p x rest is known at = record {
    grown = more-itself shown s g is;
    is = [];
    numbers = λ all a. subst (IsSetOf (table_in shown g) n) (sym (append-nil all)) a;
    bs = [];
    ms = [];
    added = sym (append-nil sets);
    are = pairwise-none (λ b m. slice_get (table_in shown g) b ≡ Some m);
    leads = leads-unknown s fs (vertices_of shown g) (heads_of shown g) ends p x rest
        (known-none s fs (vertices_of shown g) (heads_of shown g) (table_in shown g) held x.name.item known at);
  }

  -- an inline fragment, by what was gathered of its set
  pub inline-gathered : (old new : FieldGraph S) (sets then : List ℕ) (n m : Gathering) (p : Name) (x : spec.Inline) (below rest : Selections) →
      IsGathered shown s fs old new sets then n m (name_or x.condition p) end below → IsGathered shown s fs old new sets then n m p rest (inline x below rest)
  inline-gathered old new sets then n m p x below rest a = record {
    grown = a.grown;
    is = a.is;
    numbers = a.numbers;
    bs = a.bs;
    ms = a.ms;
    added = a.added;
    are = a.are;
    leads = leads-inline s fs (vertices_of shown new) (heads_of shown new) p x below rest a.is a.ms a.leads;
  }

  -- ## One selection behind the other

  pub nothing-gathered : (g : FieldGraph S) (sets : List ℕ) (n : Gathering) (p : Name) (whole : Selections) → IsGraphOf shown s g →
      IsGathered shown s fs g g sets sets n n p whole whole
  nothing-gathered g sets n p whole is = record {
    grown = more-itself shown s g is;
    is = [];
    numbers = λ all a. subst (IsSetOf (table_in shown g) n) (sym (append-nil all)) a;
    bs = [];
    ms = [];
    added = sym (append-nil sets);
    are = pairwise-none (λ b m. slice_get (table_in shown g) b ≡ Some m);
    leads = leads-nothing s fs (vertices_of shown g) (heads_of shown g) p whole;
  }

  pub gathered-further : (old mid new : FieldGraph S) (sets then last : List ℕ) (n m k : Gathering) (p : Name) (rest between whole : Selections) →
      IsGathered shown s fs old mid sets then n m p between whole → IsGathered shown s fs mid new then last m k p rest between →
      IsGathered shown s fs old new sets last n k p rest whole
  gathered-further old mid new sets then last n m k p rest between whole a b = record {
    grown = more-further shown s old mid new a.grown b.grown;
    is = a.is ++ b.is;
    numbers = λ all c. subst (IsSetOf (table_in shown new) k) (append_assoc all a.is b.is) (b.numbers (all ++ a.is) (a.numbers all c));
    bs = a.bs ++ b.bs;
    ms = a.ms ++ b.ms;
    added = b.added ∙ (ap (λ l. l ++ b.bs) a.added ∙ append_assoc sets a.bs b.bs);
    are = pairwise-both (λ c m. slice_get (table_in shown new) c ≡ Some m) a.bs b.bs a.ms b.ms
        (sets-more (table_in shown mid) (table_in shown new) b.grown.more a.bs a.ms a.are) b.are;
    leads = leads-then s fs (vertices_of shown mid) (vertices_of shown new) (heads_of shown mid)
        (heads_of shown new) b.grown.grows p rest between whole a.is b.is a.ms b.ms a.leads b.leads;
  }

  -- a whole set is put to the others
  pub set-gathered : (old now new : FieldGraph S) (sets then last : List ℕ) (n m : Gathering) (p : Name) (whole : Selections) (b : ℕ) →
      ((t : List (List ℕ)) → IsSetOf t n []) → IsGathered shown s fs old now sets then n m p end whole →
      (IsGraphOf shown s now → (all : List ℕ) → IsSetOf (table_in shown now) m all → IsSetMade shown s now new then last all b) →
      IsSetGatheredAt shown s fs old new sets last p whole b
  set-gathered old now new sets then last n m p whole b none a make =
      let made = make a.grown.graph a.is (a.numbers [] (none (table_in shown old))) in
      let more = more-made shown s now new then last a.is b made in
      let c = leads-whole s fs (vertices_of shown now) (heads_of shown now) p whole a.is a.ms a.leads in
      let kept : Covers s (vertices_of shown now) (heads_of shown now) fs p whole made.kept = covers-kept s (vertices_of shown now)
      (heads_of shown now) fs p whole a.is made.kept c.0 made.alike in
      let stands = covers-more s (vertices_of shown now) (vertices_of shown new) (heads_of shown now)
      (heads_of shown new) fs more.grows p whole made.kept kept in (
        made.kept,
        made.there,
        record {
          grown = more-further shown s old now new a.grown more;
          bs = a.bs ++ b ∷ [];
          ms = a.ms ++ made.kept ∷ [];
          added = made.added ∙ (ap (λ l. l ++ b ∷ []) a.added ∙ append_assoc sets a.bs (b ∷ []));
          are = pairwise-both (λ c m. slice_get (table_in shown new) c ≡ Some m) a.bs (b ∷ []) a.ms (made.kept ∷ [])
              (sets-more (table_in shown now) (table_in shown new) more.more a.bs a.ms a.are)
              (pairwise-one (λ c m. slice_get (table_in shown new) c ≡ Some m) b made.kept made.there);
          stands = stands;
          covered = covered-from s fs (vertices_of shown new) (heads_of shown new) p whole a.is made.kept a.ms
              (covers-more s (vertices_of shown now) (vertices_of shown new) (heads_of shown now) (heads_of shown new) fs more.grows p whole a.is c.0) stands
              (covered-more-in s fs (vertices_of shown now) (vertices_of shown new) (heads_of shown now) (heads_of shown new) more.grows a.is
              (sets_below s p whole) a.ms
              c.1);
        },
      )

-- ## Selections, as the code has them

module _ {S : Type 0} (shown : S → Shown) (s : Schema) (fs : List Fragment) (ends : HasNoCycle fs) (held : Name → Option ℕ) (p : Name) where
  -- what was gathered of the selections before an index, and what is left is ready
  abbrev pub IsSoFar : FieldGraph S → FieldGraph S → List ℕ → List ℕ → Gathering → Gathering → List (Selection S) → ℕ → Type 0
  IsSoFar old now sets then n m selections i =
      IsGathered shown s fs old now sets then n m p (view_selections shown (drop i selections)) (view_selections shown selections)
      × IsReadyIn shown s fs now held (view_selections shown (drop i selections))

  pub so-far-none : (g : FieldGraph S) (sets : List ℕ) (n : Gathering) (selections : List (Selection S)) → IsGraphOf shown s g →
      IsReadyIn shown s fs g held (view_selections shown selections) →
      IsSoFar g g sets sets n n selections 0
  so-far-none g sets n selections is ready = (nothing-gathered shown s fs g sets n p (view_selections shown selections) is, ready)

  -- what follows a selection is ready where both are
  ready-behind : (g : FieldGraph S) (f : Selection-F S (Selection S) (FieldType S) (InlineType S)) (rest : Selections) →
      IsReadyIn shown s fs g held (put_selection shown (roll-Selection S f) rest) → IsReadyIn shown s fs g held rest
  unfolding roll-Selection denote.Hole.Carrier.roll
  ready-behind g (Selection-F.Field f) rest r =
      (ready-field s fs (vertices_of shown g) (heads_of shown g) (table_in shown g) held (view_field shown f) (view_set shown
      (out-Field S f.item).selection_set) rest
      (subst (IsReadyIn shown s fs g held) (put-Field shown f rest) r)).2
  ready-behind g (Selection-F.FragmentSpread f) rest r =
      (ready-spread s fs (vertices_of shown g) (heads_of shown g) (table_in shown g) held (view_spread_at shown f) rest
      (subst (IsReadyIn shown s fs g held) (put-FragmentSpread shown f rest) r)).1
  ready-behind g (Selection-F.InlineFragment f) rest r =
      (ready-inline s fs (vertices_of shown g) (heads_of shown g) (table_in shown g) held (view_inline shown f)
      (view_selections shown (out-InlineFragment S f.item).selection_set.items) rest
      (subst (IsReadyIn shown s fs g held) (put-InlineFragment shown f rest) r)).1

  rest-ready : (g : FieldGraph S) (x : Selection S) (rest : Selections) → IsReadyIn shown s fs g held (put_selection shown x rest) →
      IsReadyIn shown s fs g held rest
  rest-ready g x rest r =
      ready-behind g (out-Selection S x) rest (subst (λ y. IsReadyIn shown s fs g held (put_selection shown y rest)) (sym (roll-out-Selection S x)) r)

  pub so-far-next : (old now new : FieldGraph S) (sets then last : List ℕ) (n m k : Gathering) (selections : List (Selection S)) (i : ℕ)
      (x : Selection S) →
      i < length selections → x ≡ get_or selections i x → IsSoFar old now sets then n m selections i →
      ((rest : Selections) → IsReadyIn shown s fs now held (put_selection shown x rest) →
      IsGathered shown s fs now new then last m k p rest (put_selection shown x rest)) →
      IsSoFar old new sets last n k selections (i + 1)
  so-far-next old now new sets then last n m k selections i x below is a step =
      let rest = view_selections shown (drop (i + 1) selections) in
      let e : view_selections shown (drop i selections) ≡ put_selection shown x rest = ap (view_selections shown) (left-is selections i x below is) in
      let ready : IsReadyIn shown s fs now held (put_selection shown x rest) = subst (IsReadyIn shown s fs now held) e a.1 in
      let b = step rest ready in (
        gathered-further shown s fs old now new sets then last n m k p rest (put_selection shown x rest) (view_selections shown selections)
            (subst (λ t. IsGathered shown s fs old now sets then n m p t (view_selections shown selections)) e a.0) b,
        ready-more s fs (vertices_of shown now) (vertices_of shown new) (heads_of shown now) (heads_of shown new) (table_in shown now) (table_in shown new)
            b.grown.grows b.grown.more held rest
            (rest-ready now x rest ready),
      )

  pub so-far-all : (old now : FieldGraph S) (sets then : List ℕ) (n m : Gathering) (selections : List (Selection S)) (i : ℕ) →
      length selections ≤ i → IsSoFar old now sets then n m selections i →
      IsGathered shown s fs old now sets then n m p end (view_selections shown selections)
  so-far-all old now sets then n m selections i done a =
      let e : view_selections shown (drop i selections) ≡ end = ap (view_selections shown) (drop_all i selections done) in
      subst (λ t. IsGathered shown s fs old now sets then n m p t (view_selections shown selections)) e a.0

  -- ## Each kind of selection

  -- a field, by what was gathered of its set
  pub field-step : (old mid new : FieldGraph S) (sets then : List ℕ) (n m : Gathering) (rest : Selections) (x : Selection S)
      (f : Spanning (FieldType S) Span) (below : Selections) (inner : Option ℕ) →
      x ≡ Field f → view_set shown (out-Field S f.item).selection_set ≡ below → IsReadyIn shown s fs old held (put_selection shown x rest) →
      (IsReadyIn shown s fs old held below → IsBelowGathered shown s fs old mid sets then
      (innermost (declared_type (field_of s p (view_field shown f).name.item))) below inner) →
      (IsGraphOf shown s mid → arguments_repeat (written (view_field shown f).arguments) ≡ false →
      ((b : ℕ) → inner ≡ Some b → IsInside (table_in shown mid) b) →
      (i : ℕ) × IsPushed shown s mid new p (view_field shown f) inner i
      × ((t : List (List ℕ)) (all : List ℕ) → IsSetOf t n all → IsSetOf t m (all ++ i ∷ []))) →
      IsGathered shown s fs old new sets then n m p rest (put_selection shown x rest)
  field-step old mid new sets then n m rest x f below inner is set ready inside push =
      let e : put_selection shown x rest ≡ field (view_field shown f) below rest = ap (λ y. put_selection shown y rest) is
      ∙ (put-Field shown f rest ∙ ap (λ b. field (view_field shown f) b rest) set) in
      let r = ready-field s fs (vertices_of shown old) (heads_of shown old) (table_in shown old) held (view_field shown f) below rest
      (subst (IsReadyIn shown s fs old held) e ready) in
      let a = inside r.1 in
      let q = push a.1.grown.graph r.0 a.0 in
      subst (IsGathered shown s fs old new sets then n m p rest) (sym e)
      (field-gathered shown s fs old mid new sets then n m p (view_field shown f) below rest inner q.0 a q.1 q.2)

  -- a spread, by what is held at its name
  pub spread-step : (g : FieldGraph S) (sets : List ℕ) (n m : Gathering) (rest : Selections) (x : Selection S) (f : Spanning (SpreadType S) Span)
      (b : ℕ) →
      x ≡ FragmentSpread f → IsGraphOf shown s g → IsReadyIn shown s fs g held (put_selection shown x rest) →
      held (view_spread_at shown f).name.item ≡ Some b →
      IsPutTo (table_in shown g) n m b →
      IsGathered shown s fs g g sets sets n m p rest (put_selection shown x rest)
  spread-step g sets n m rest x f b is graph ready at numbers =
      let e : put_selection shown x rest ≡ spread (view_spread_at shown f) rest = ap (λ y. put_selection shown y rest) is ∙ put-FragmentSpread shown f rest in
      let r = ready-spread s fs (vertices_of shown g) (heads_of shown g) (table_in shown g) held (view_spread_at shown f) rest (subst
      (IsReadyIn shown s fs g held) e ready) in
      subst (IsGathered shown s fs g g sets sets n m p rest) (sym e)
      (spread-gathered shown s fs ends g sets n m held p (view_spread_at shown f) rest b graph r.0 at numbers)

  pub unknown-step : (g : FieldGraph S) (sets : List ℕ) (n : Gathering) (rest : Selections) (x : Selection S) (f : Spanning (SpreadType S) Span) →
      x ≡ FragmentSpread f → IsGraphOf shown s g → IsReadyIn shown s fs g held (put_selection shown x rest) → held (view_spread_at shown f).name.item ≡ None →
      IsGathered shown s fs g g sets sets n n p rest (put_selection shown x rest)
  unknown-step g sets n rest x f is graph ready at =
      let e : put_selection shown x rest ≡ spread (view_spread_at shown f) rest = ap (λ y. put_selection shown y rest) is ∙ put-FragmentSpread shown f rest in
      let r = ready-spread s fs (vertices_of shown g) (heads_of shown g) (table_in shown g) held (view_spread_at shown f) rest (subst
      (IsReadyIn shown s fs g held) e ready) in
      subst (IsGathered shown s fs g g sets sets n n p rest) (sym e)
      (unknown-gathered shown s fs ends g sets n held p (view_spread_at shown f) rest graph r.0 at)

  -- an inline fragment, by what was gathered of its set
  pub inline-step : (old new : FieldGraph S) (sets then : List ℕ) (n m : Gathering) (rest : Selections) (x : Selection S)
      (f : Spanning (InlineType S) Span) (below : Selections) →
      x ≡ InlineFragment f → view_selections shown (out-InlineFragment S f.item).selection_set.items ≡ below →
      IsReadyIn shown s fs old held (put_selection shown x rest) →
      (IsReadyIn shown s fs old held below → IsGathered shown s fs old new sets then n m (name_or (view_inline shown f).condition p) end below) →
      IsGathered shown s fs old new sets then n m p rest (put_selection shown x rest)
  inline-step old new sets then n m rest x f below is set ready inside =
      let e : put_selection shown x rest ≡ inline (view_inline shown f) below rest = ap (λ y. put_selection shown y rest) is
      ∙ (put-InlineFragment shown f rest ∙ ap (λ b. inline (view_inline shown f) b rest) set) in
      let r = ready-inline s fs (vertices_of shown old) (heads_of shown old) (table_in shown old) held (view_inline shown f) below rest
      (subst (IsReadyIn shown s fs old held) e ready) in
      subst (IsGathered shown s fs old new sets then n m p rest) (sym e)
      (inline-gathered shown s fs old new sets then n m p (view_inline shown f) below rest (inside r.0))
