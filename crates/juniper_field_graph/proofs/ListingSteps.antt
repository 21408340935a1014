-- The steps of a loop that gathers the sets of definitions.
use Rattle.std.proofs.Common.{◌≡◌, ℕ, zero, ◌+◌, ◌<◌, ◌≤◌, List, [], ◌∷◌, ◌++◌, length, get_or, take, map, Option, Some, None, sym, ap, subst, ◌∙◌}
use Rattle.std.proofs.lemmas.List.{append-nil, take_all}
use Rattle.std.specs.List.{slice_get}
use Rattle.graphql_spec.specs.Shown.{Shown, Name}
use Rattle.graphql_spec.specs.Documents as spec
use Rattle.graphql_spec.specs.Documents.{Selections}
use Rattle.graphql_spec.specs.Schema.{Schema}
use Rattle.graphql_spec.specs.Laws.{In}
use Rattle.graphql_spec.specs.Placed.{root_type}
use Rattle.graphql_spec.specs.Written.{selections_of}
use Rattle.juniper_syntax.specs.DocumentView.{view_definition}
use Rattle.juniper_syntax.specs.declared.ast.Definition.{Definition}
use Rattle.graphql_spec.specs.Fragments.{fragment_of}
use Rattle.juniper_field_graph.specs.Gathering.{AreCovered, AreGathered, AreListed, IsDefinitionGathered, IsListed, IsListedAs, IsMore}
use Rattle.juniper_field_graph.specs.Gathering.{IsReadyIn, IsSetGatheredAt, Pairwise, sets_if}
use Rattle.juniper_field_graph.specs.Gathering.{sets_in}
use Rattle.juniper_field_graph.specs.GraphView.{IsGraphOf, heads_of, table_in, vertices_of}
use Rattle.juniper_field_graph.specs.declared.graph.FieldGraph.{FieldGraph}
use Rattle.juniper_field_graph.proofs.Leading.{covered-more, covered-none}
use Rattle.juniper_field_graph.proofs.More.{more-further, more-itself}
use Rattle.juniper_field_graph.proofs.Readiness.{ready-more}
use Rattle.juniper_field_graph.proofs.SetTables.{pairwise-both, pairwise-more, pairwise-none, pairwise-one, sets-more}
use Rattle.juniper_field_graph.proofs.Taken.{in-taken, taken-more}

module _ {S : Type 0} (shown : S → Shown) (s : Schema) (fs : List spec.Fragment) where
  -- what the numbers of a definition's sets say, they say in each graph that has more
  pub listed-more : (a b : FieldGraph S) → IsMore shown s a b → (x : spec.Definition) (bs : List ℕ) →
      IsListed s fs (vertices_of shown a) (heads_of shown a) (table_in shown a) x bs → IsListed s fs (vertices_of shown b) (heads_of shown b)
      (table_in shown b) x bs
  listed-more a b m x bs (ms, are, covered) = (
    ms,
    sets-more (table_in shown a) (table_in shown b) m.more bs ms are,
    covered-more s fs (vertices_of shown a) (vertices_of shown b) (heads_of shown a) (heads_of shown b) m.grows (sets_in s x) ms covered,
  )

  -- the sets of the definitions before an index are gathered
  abbrev pub AreGatheredSoFar : FieldGraph S → FieldGraph S → List (Definition S) → List (List ℕ) → ℕ → Type 0
  AreGatheredSoFar old now document lists i = AreGathered shown s fs old now (map (view_definition shown) (take i document)) lists

  pub gathered-so-far-none : (g : FieldGraph S) (document : List (Definition S)) (lists : List (List ℕ)) → IsGraphOf shown s g → lists ≡ [] →
      AreGatheredSoFar g g document lists zero
  gathered-so-far-none g document lists is none = record {
    grown = more-itself shown s g is;
    listed = subst (Pairwise (IsListed s fs (vertices_of shown g) (heads_of shown g) (table_in shown g)) []) (sym none)
        (pairwise-none (IsListed s fs (vertices_of shown g) (heads_of shown g) (table_in shown g)));
  }

  pub gathered-so-far-next : (old now new : FieldGraph S) (document : List (Definition S)) (lists more : List (List ℕ)) (bs : List ℕ) (i : ℕ)
      (x : Definition S) → i < length document → x ≡ get_or document i x → AreGatheredSoFar old now document lists i →
      IsMore shown s now new → IsListed s fs (vertices_of shown new) (heads_of shown new) (table_in shown new) (view_definition shown x) bs →
      more ≡ lists ++ bs ∷ [] → AreGatheredSoFar old new document more (i + 1)
  gathered-so-far-next old now new document lists more bs i x below is before grown own put =
      let Is : spec.Definition → List ℕ → Type 0 = IsListed s fs (vertices_of shown new) (heads_of shown new) (table_in shown new) in
      record {
        grown = more-further shown s old now new before.grown grown;
        listed = subst (λ xs. Pairwise Is xs more) (sym (taken-more (view_definition shown) document i x below is))
            (subst (Pairwise Is (map (view_definition shown) (take i document) ++ view_definition shown x ∷ [])) (sym put)
            (pairwise-both Is (map (view_definition shown) (take i document)) (view_definition shown x ∷ []) lists (bs ∷ [])
            (pairwise-more (IsListed s fs (vertices_of shown now) (heads_of shown now) (table_in shown now)) Is
            (listed-more now new grown) (map (view_definition shown) (take i document)) lists before.listed)
            (pairwise-one Is (view_definition shown x) bs own)));
      }

  -- what was gathered, from nothing, is the list
  pub gathered-listed : (old new : FieldGraph S) (sets then bs : List ℕ) (x : spec.Definition) → IsDefinitionGathered shown s fs old new sets then x →
      sets ≡ [] → bs ≡ then →
      IsMore shown s old new × IsListed s fs (vertices_of shown new) (heads_of shown new) (table_in shown new) x bs
  gathered-listed old new sets then bs x a none same =
      let own : bs ≡ a.bs = same ∙ (a.added ∙ ap (λ l. l ++ a.bs) none) in (
        a.grown,
        subst (IsListed s fs (vertices_of shown new) (heads_of shown new) (table_in shown new) x) (sym own) (a.ms, a.are, a.covered),
      )

  -- the list of the fragment that its name finds
  pub listed-own : (g : FieldGraph S) (lists : Name → Option (List ℕ)) (x : spec.Definition) (bs cs : List ℕ) → IsGraphOf shown s g →
      ((f : spec.Fragment) → x ≡ spec.fragment f → fragment_of fs f.name.item ≡ Some f) →
      AreListed s fs (vertices_of shown g) (heads_of shown g) (table_in shown g) lists → IsListedAs lists x bs → cs ≡ bs →
      IsMore shown s g g × IsListed s fs (vertices_of shown g) (heads_of shown g) (table_in shown g) x cs
  listed-own g lists x bs cs is finds are (f, own, there) same =
      let (y, found, listed) = are f.name.item bs there in
      let one : y ≡ f = some-same (sym found ∙ finds f own) in (
        more-itself shown s g is,
        subst (IsListed s fs (vertices_of shown g) (heads_of shown g) (table_in shown g) x) (sym same)
            (subst (λ z. IsListed s fs (vertices_of shown g) (heads_of shown g) (table_in shown g) z bs) (ap spec.fragment one ∙ sym own) listed),
      )
    where
      some-same : {A : Type 0} {x y : A} → Some x ≡ Some y → x ≡ y
      some-same e = cc

  -- lists stay right
  pub lists-more : (a b : FieldGraph S) → IsMore shown s a b → (lists : Name → Option (List ℕ)) →
      AreListed s fs (vertices_of shown a) (heads_of shown a) (table_in shown a) lists →
      AreListed s fs (vertices_of shown b) (heads_of shown b) (table_in shown b) lists
  lists-more a b m lists are k bs e = let (f, found, listed) = are k bs e in (f, found, listed-more a b m (spec.fragment f) bs listed)

  pub gathered-so-far-all : (old now : FieldGraph S) (document : List (Definition S)) (lists : List (List ℕ)) (i : ℕ) → length document ≤ i →
      AreGatheredSoFar old now document lists i → AreGathered shown s fs old now (map (view_definition shown) document) lists
  gathered-so-far-all old now document lists i done a =
      subst (λ ds. AreGathered shown s fs old now (map (view_definition shown) ds) lists) (take_all i document done) a

  -- what was ready at first is ready now
  pub definition-ready : (old now : FieldGraph S) (held : Name → Option ℕ) (document : List (Definition S)) (lists : List (List ℕ)) (i : ℕ)
      (x : Definition S) → i < length document → x ≡ get_or document i x →
      ((y : spec.Definition) → In y (map (view_definition shown) document) → IsReadyIn shown s fs old held (selections_of y)) →
      AreGatheredSoFar old now document lists i → IsReadyIn shown s fs now held (selections_of (view_definition shown x))
  definition-ready old now held document lists i x below is ready before =
      ready-more s fs (vertices_of shown old) (vertices_of shown now) (heads_of shown old) (heads_of shown now) (table_in shown old) (table_in shown now)
      before.grown.grows before.grown.more held (selections_of (view_definition shown x))
      (ready (view_definition shown x) (in-taken (view_definition shown) document i x below is))

  -- ## Each kind of definition

  module _ (old new : FieldGraph S) (held : Name → Option ℕ) (sets then : List ℕ) (x : spec.Definition) where
    -- by the set of its selections
    by-set : (p : Name) (set : Selections) (b : ℕ) → sets_in s x ≡ sets_if s (Some p) set → selections_of x ≡ set →
        IsReadyIn shown s fs old held (selections_of x) →
        (IsReadyIn shown s fs old held set → IsSetGatheredAt shown s fs old new sets then p set b) → IsDefinitionGathered shown s fs old new sets then x
    unfolding sets_if
    by-set p set b e f ready gathered =
        let a = (gathered (subst (IsReadyIn shown s fs old held) f ready)).2 in
        record {
          grown = a.grown;
          bs = a.bs;
          ms = a.ms;
          added = a.added;
          are = a.are;
          covered = subst (λ l. AreCovered s fs (vertices_of shown new) (heads_of shown new) l a.ms) (sym e) a.covered;
        }

    pub operation-as : (o : spec.Operation) (p : Name) (set : Selections) (b : ℕ) → x ≡ spec.operation o → o.selections ≡ set → Some p ≡ root_type s o.kind →
        IsReadyIn shown s fs old held (selections_of x) →
        (IsReadyIn shown s fs old held set → IsSetGatheredAt shown s fs old new sets then p set b) → IsDefinitionGathered shown s fs old new sets then x
    unfolding selections_of sets_in
    operation-as o p set b is same root =
        by-set p set b (ap (sets_in s) is ∙ (λ k. sets_if s (sym root k) (same k))) (ap selections_of is ∙ same)

    pub fragment-as : (f : spec.Fragment) (set : Selections) (b : ℕ) → x ≡ spec.fragment f → f.selections ≡ set →
        IsReadyIn shown s fs old held (selections_of x) →
        (IsReadyIn shown s fs old held set → IsSetGatheredAt shown s fs old new sets then f.condition.item set b) →
        IsDefinitionGathered shown s fs old new sets then x
    unfolding selections_of sets_in sets_if
    fragment-as f set b is same = by-set f.condition.item set b (ap (sets_in s) is ∙ ap (sets_if s (Some f.condition.item)) same) (ap selections_of is ∙ same)

  pub rootless-as : (g : FieldGraph S) (sets : List ℕ) (x : spec.Definition) (o : spec.Operation) → x ≡ spec.operation o → None ≡ root_type s o.kind →
      IsGraphOf shown s g → IsDefinitionGathered shown s fs g g sets sets x
  unfolding sets_in sets_if
  rootless-as g sets x o is none graph =
      let bare : sets_in s x ≡ [] = ap (sets_in s) is ∙ ap (λ r. sets_if s r o.selections) (sym none) in
      record {
        grown = more-itself shown s g graph;
        bs = [];
        ms = [];
        added = sym (append-nil sets);
        are = pairwise-none (λ b m. slice_get (table_in shown g) b ≡ Some m);
        covered = subst (λ l. AreCovered s fs (vertices_of shown g) (heads_of shown g) l []) (sym bare)
            (covered-none s fs (vertices_of shown g) (heads_of shown g));
      }
