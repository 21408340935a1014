-- A plan stands by the fragments and the values of variables alone: another collector with the same takes it as it is (6.3.2).
use Rattle.std.proofs.Common.{◌≡◌, ℕ, suc, Bool, List, [], ◌∷◌, string_bytes, refl, sym, ap, ap₂, ◌∙◌, subst}
use Rattle.graphql_spec.specs.Shown.{Shown, Name}
use Rattle.graphql_spec.specs.Documents.{Head, Selections}
use Rattle.graphql_spec.specs.Selections.{Occurrence, all_below, chain, occurrences}
use Rattle.juniper_syntax.specs.declared.position.Spanning.{Spanning}
use Rattle.juniper_syntax.specs.declared.position.Span.{Span}
use Rattle.juniper_syntax.specs.DocumentView.{view_selections}
use Rattle.juniper_syntax.specs.declared.ast.Field.{Field as FieldType}
use Rattle.juniper_lookahead.specs.declared.occurrences.Enclosing.{Enclosing}
use Rattle.juniper_lookahead.specs.declared.occurrences.Occurrence.{Occurrence as CodeOccurrence}
use Rattle.juniper_lookahead.specs.Collected.{expansion, view_all, view_collected}
use Rattle.juniper_lookahead.specs.declared.collecting.Collector.{Collector}
use Rattle.juniper_walk.specs.declared.plan.Below.{Below}
use Rattle.juniper_walk.specs.declared.plan.Group.{Group}
use Rattle.juniper_walk.specs.declared.plan.GroupRange.{GroupRange}
use Rattle.juniper_walk.specs.declared.plan.Plan.{Plan}
use Rattle.juniper_walk.specs.Plans.{AllRight, AreRight, IsRight, IsStanding, StandsFor, all_expanded, all_made, fields_at, fields_of, view_groups}

module _ {S P R : Type 0} (shown : S → Shown) (c : Collector S P) (d : Collector S R) (fragments : c.fragments.now ≡ d.fragments.now)
    (variables : c.variables.now ≡ d.variables.now) where
  same-expansion : (s : Selections) → expansion shown c s ≡ expansion shown d s
  unfolding expansion
  same-expansion s = rw (fragments, variables) refl

  same-collected : (f : Spanning (FieldType S) Span) → view_collected shown c f ≡ view_collected shown d f
  unfolding view_collected expansion
  same-collected f = rw (fragments, variables) refl

  pub same-all : (fs : List (CodeOccurrence S)) → view_all shown c fs ≡ view_all shown d fs
  same-all [] = refl
  same-all (f ∷ fs) = ap₂ (λ (x : Occurrence) (xs : List Occurrence). x ∷ xs) (same-collected f.field.now) (same-all fs)

  pub same-each : (es : List (Enclosing S)) → all_expanded shown c es ≡ all_expanded shown d es
  unfolding all_expanded
  same-each [] = refl
  same-each (e ∷ es) = ap₂ chain (same-expansion (view_selections shown e.selections.now)) (same-each es)

  same-groups : (os : List (CodeOccurrence S)) (gs : List Group) → view_groups shown c os gs ≡ view_groups shown d os gs
  unfolding view_groups
  same-groups os [] = refl
  same-groups os (g ∷ gs) =
      ap₂ (λ (x : Name × List Occurrence) (xs : List (Name × List Occurrence)). x ∷ xs) (ap (λ l. (g.key.now, l)) (same-all (fields_of os g)))
      (same-groups os gs)

module _ {S P R Q : Type 0} (shown : S → Shown) (c : Collector S P) (d : Collector S R) (fragments : c.fragments.now ≡ d.fragments.now)
    (variables : c.variables.now ≡ d.variables.now) (asks : Name → Head → Q → Type 0) where
  pub stands-elsewhere : (T : Name) (p : Plan S Q) (r : GroupRange) (os : List Occurrence) → StandsFor shown c asks T p r os → StandsFor shown d asks T p r os
  stands-elsewhere T p r os s = record {
    ordered = s.ordered;
    inside = s.inside;
    groups = sym (same-groups shown c d fragments variables p.occurrences.items _) ∙ s.groups;
    asked = s.asked;
  }

  module _ (possible : Name → Name → Bool) (p : Plan S Q) where
    right-elsewhere : (i : ℕ) (b : Below) → IsRight shown c asks possible p i b → IsRight shown d asks possible p i b
    right-elsewhere i b right = record {
      bound = right.bound;
      stands = stands-elsewhere (string_bytes b.concrete) p b.groups (occurrences possible (string_bytes b.concrete)
          (all_below (view_all shown d (fields_at p i))))
          (subst (λ l. StandsFor shown c asks (string_bytes b.concrete) p b.groups (occurrences possible (string_bytes b.concrete) (all_below l)))
          (same-all shown c d fragments variables (fields_at p i)) right.stands);
    }

    each-elsewhere : (i : ℕ) (bs : List Below) → AreRight shown c asks possible p i bs → AreRight shown d asks possible p i bs
    each-elsewhere i [] right = tt
    each-elsewhere i (b ∷ bs) (one, right) = (right-elsewhere i b one, each-elsewhere i bs right)

    all-elsewhere : (i : ℕ) (bss : List (List Below)) → AllRight shown c asks possible p i bss → AllRight shown d asks possible p i bss
    all-elsewhere i [] right = tt
    all-elsewhere i (bs ∷ bss) (one, right) = (each-elsewhere i bs one, all-elsewhere (suc i) bss right)

    pub standing-elsewhere : IsStanding shown c asks possible p → IsStanding shown d asks possible p
    standing-elsewhere s = record { within = s.within; counted = s.counted; asked = s.asked; below = all-elsewhere 0 (all_made p) s.below }
