-- The steps of a walk that holds fragments.
use Rattle.std.proofs.Common.{◌≡◌, ℕ, zero, ◌+◌, ◌<◌, ◌≤◌, cond, bytes_eq, List, [], ◌∷◌, ◌++◌, length, get_or, take, drop, map, Option, Some, None, Bor}
use Rattle.std.proofs.Common.{inl, inr, sym, ap, subst, ◌∙◌}
use Rattle.std.proofs.lemmas.Bool.{cases_Bool}
use Rattle.std.proofs.lemmas.List.{take_all}
use Rattle.graphql_spec.specs.Shown.{Shown, Name}
use Rattle.graphql_spec.specs.Documents as spec
use Rattle.graphql_spec.specs.Fragments.{HasNoCycle, fragment_of}
use Rattle.graphql_spec.proofs.Lists.{same_true}
use Rattle.graphql_spec.specs.Schema.{Schema}
use Rattle.juniper_syntax.specs.declared.position.Spanning.{Spanning}
use Rattle.juniper_syntax.specs.declared.position.Span.{Span}
use Rattle.juniper_written.specs.Order.{IsInOrder, StandBehind}
use Rattle.juniper_syntax.specs.DocumentView.{view_fragment}
use Rattle.juniper_syntax.specs.declared.ast.Fragment.{Fragment}
use Rattle.juniper_field_graph.specs.Gathering.{AllKnown, AreHeld, AreListed, AreWritten, IsHeld, IsListed, IsMore, IsReadyIn, IsSetGatheredAt, sets_in}
use Rattle.juniper_field_graph.specs.GraphView.{IsGraphOf, heads_of, table_in, vertices_of}
use Rattle.juniper_field_graph.specs.declared.graph.FieldGraph.{FieldGraph}
use Rattle.juniper_field_graph.proofs.HeldFragments.{held-all, held-next, held-none, held-ready, none-some}
use Rattle.juniper_field_graph.proofs.ListingSteps.{lists-more}
use Rattle.juniper_field_graph.proofs.More.{more-further, more-itself}
use Rattle.juniper_field_graph.proofs.Taken.{left-more, taken-more}

module _ {S : Type 0} (shown : S → Shown) (s : Schema) (fs : List spec.Fragment) where
  pub fragment-held : (old new : FieldGraph S) (sets then : List ℕ) (held more : Name → Option ℕ) (lists longer : Name → Option (List ℕ))
      (f : spec.Fragment) (n : ℕ) (bs : List ℕ) → IsSetGatheredAt shown s fs old new sets then f.condition.item f.selections n → sets ≡ [] → bs ≡ then →
      ((k : Name) → more k ≡ cond (bytes_eq f.name.item k) (Some n) (held k)) →
      ((k : Name) → longer k ≡ cond (bytes_eq f.name.item k) (Some bs) (lists k)) → IsHeld shown s fs old new held more lists longer f
  unfolding sets_in
  fragment-held old new sets then held more lists longer f n bs a none same put put' =
      let own : bs ≡ a.2.bs = same ∙ (a.2.added ∙ ap (λ l. l ++ a.2.bs) none) in
      record {
        grown = a.2.grown;
        set = n;
        added = put;
        holds = (a.0, a.1, a.2.stands);
        sets = bs;
        put = put';
        listed = subst (IsListed s fs (vertices_of shown new) (heads_of shown new) (table_in shown new) (spec.fragment f)) (sym own)
            (a.2.ms, a.2.are, a.2.covered);
      }

  -- a list more, of the fragment that its name finds
  list-put : (g : FieldGraph S) (lists longer : Name → Option (List ℕ)) (f : spec.Fragment) (bs : List ℕ) → fragment_of fs f.name.item ≡ Some f →
      ((k : Name) → longer k ≡ cond (bytes_eq f.name.item k) (Some bs) (lists k)) →
      IsListed s fs (vertices_of shown g) (heads_of shown g) (table_in shown g) (spec.fragment f) bs →
      AreListed s fs (vertices_of shown g) (heads_of shown g) (table_in shown g) lists →
      AreListed s fs (vertices_of shown g) (heads_of shown g) (table_in shown g) longer
  list-put g lists longer f bs first put own are k cs e = elim (cases_Bool (bytes_eq f.name.item k)) [
    | inl y ↦ (let z : Some bs ≡ Some cs = sym (put k ∙ ap (λ c. cond c (Some bs) (lists k)) y) ∙ e in (
      f,
      subst (λ i. fragment_of fs i ≡ Some f) (same_true f.name.item k y) first,
      subst (IsListed s fs (vertices_of shown g) (heads_of shown g) (table_in shown g) (spec.fragment f)) (some-same z) own,
    ))
    | inr y ↦ are k cs (sym (put k ∙ ap (λ c. cond c (Some bs) (lists k)) y) ∙ e)
  ]
    where
      some-same : {A : Type 0} {x y : A} → Some x ≡ Some y → x ≡ y
      some-same e = cc

  abbrev view : Bor (Spanning (Fragment S) Span) → spec.Fragment
  view f = view_fragment shown f.now

  -- the fragments before an index are held, and the others stand behind them
  pub record AreHeldSoFar (old now : FieldGraph S) (sets : Name → Option ℕ) (lists : Name → Option (List ℕ))
      (order : List (Bor (Spanning (Fragment S) Span))) (i : ℕ) : Type 0 where
    pub grown : IsMore shown s old now
    pub listed : AreListed s fs (vertices_of shown now) (heads_of shown now) (table_in shown now) lists
    pub held : AreHeld s fs (vertices_of shown now) (heads_of shown now) (table_in shown now) sets (map view (take i order))
    pub behind : StandBehind fs (map view (take i order)) (map view (drop i order))

  pub held-so-far-none : (g : FieldGraph S) (held : Name → Option ℕ) (lists : Name → Option (List ℕ)) (order : List (Bor (Spanning (Fragment S) Span))) →
      IsGraphOf shown s g → ((k : Name) → held k ≡ None) → ((k : Name) → lists k ≡ None) → IsInOrder fs (map view order) →
      AreHeldSoFar g g held lists order zero
  held-so-far-none g held lists order is none listless in_order = record {
    grown = more-itself shown s g is;
    listed = λ k bs e. absurd (none-some (sym (listless k) ∙ e));
    held = held-none s fs (vertices_of shown g) (heads_of shown g) (table_in shown g) held none;
    behind = in_order.behind;
  }

  module _ (old now : FieldGraph S) (held : Name → Option ℕ) (lists : Name → Option (List ℕ)) (order : List (Bor (Spanning (Fragment S) Span))) (i : ℕ)
      (x : Bor (Spanning (Fragment S) Span)) (below : i < length order) (is : x ≡ get_or order i x)
      (before : AreHeldSoFar old now held lists order i) where
    next-behind : StandBehind fs (map view (take i order)) (view x ∷ map view (drop (i + 1) order))
    next-behind = subst (StandBehind fs (map view (take i order))) (left-more view order i x below is) before.behind

    pub next-ready : AreWritten fs → IsReadyIn shown s fs now held (view x).selections
    next-ready once = held-ready s fs (vertices_of shown now) (heads_of shown now) (table_in shown now) held (map view (take i order)) (view x) before.held once
        next-behind.0

    pub held-so-far-next : (new : FieldGraph S) (more : Name → Option ℕ) (longer : Name → Option (List ℕ)) →
        IsHeld shown s fs now new held more lists longer (view x) → AreHeldSoFar old new more longer order (i + 1)
    held-so-far-next new more longer a = record {
      grown = more-further shown s old now new before.grown a.grown;
      listed = list-put new lists longer (view x) a.sets next-behind.0.first a.put a.listed (lists-more shown s fs now new a.grown lists before.listed);
      held = subst (AreHeld s fs (vertices_of shown new) (heads_of shown new) (table_in shown new) more) (sym (taken-more view order i x below is))
          (held-next s fs (vertices_of shown now) (vertices_of shown new) (heads_of shown now) (heads_of shown new) (table_in shown now) (table_in shown new)
          a.grown.grows a.grown.more held more (map view (take i order)) (view x) a.set next-behind.0.first a.added a.holds before.held);
      behind = subst (λ l. StandBehind fs l (map view (drop (i + 1) order))) (sym (taken-more view order i x below is)) next-behind.1;
    }

  pub held-so-far-all : (old now : FieldGraph S) (held : Name → Option ℕ) (lists : Name → Option (List ℕ))
      (order : List (Bor (Spanning (Fragment S) Span))) (i : ℕ) → length order ≤ i → HasNoCycle fs → IsInOrder fs (map view order) →
      AreHeldSoFar old now held lists order i → AllKnown shown s fs old now held lists
  held-so-far-all old now held lists order i done ends in_order a = record {
    grown = a.grown;
    listed = a.listed;
    known = held-all s fs (vertices_of shown now) (heads_of shown now) (table_in shown now) held (map view order) ends in_order
        (subst (λ l. AreHeld s fs (vertices_of shown now) (heads_of shown now) (table_in shown now) held (map view l)) (take_all i order done) a.held);
  }
