-- Selections, one slice after the other (6.3.2, 6.4.3).
use Rattle.std.proofs.Common.{◌≡◌, ℕ, ◌+◌, ◌<◌, ◌≤◌, Bool, List, [], ◌∷◌, ◌++◌, length, get_or, take, refl, sym, ap, arith, ◌∙◌}
use Rattle.std.proofs.lemmas.List.{append-nil, map-append, take_more}
use Rattle.graphql_spec.specs.Shown.{Shown, Name}
use Rattle.graphql_spec.specs.Selections.{Forest, end, field, under, chain, all_below, occurrences}
use Rattle.graphql_spec.proofs.Lists.{all_below-append, chain_assoc, occurrences-chain}
use Rattle.juniper_syntax.specs.declared.position.Spanning.{Spanning}
use Rattle.juniper_syntax.specs.declared.position.Span.{Span}
use Rattle.juniper_syntax.specs.DocumentView.{view_selections, view_set}
use Rattle.juniper_syntax.specs.declared.ast.Field.{Field as FieldType, out-Field}
use Rattle.juniper_lookahead.specs.Collected.{expansion, view_all, view_collected}
use Rattle.juniper_lookahead.specs.declared.collecting.Collector.{Collector}
use Rattle.juniper_lookahead.specs.declared.occurrences.Occurrence.{Occurrence as CodeOccurrence}
use Rattle.juniper_lookahead.specs.declared.occurrences.Enclosing.{Enclosing}
use Rattle.juniper_walk.specs.Plans.{all_expanded}

pub chain-end : (s : Forest) → chain s end ≡ s
unfolding chain
chain-end end = refl
chain-end (field h below rest) = ap (field h below) (chain-end rest)
chain-end (under c below rest) = ap (under c below) (chain-end rest)

module _ {S P : Type 0} (shown : S → Shown) (c : Collector S P) where
  all-append : (xs ys : List (Enclosing S)) → all_expanded shown c (xs ++ ys) ≡ chain (all_expanded shown c xs) (all_expanded shown c ys)
  unfolding all_expanded chain
  all-append [] ys = refl
  all-append (x ∷ xs) ys = ap (chain (expansion shown c (view_selections shown x.selections.now))) (all-append xs ys)
      ∙ sym (chain_assoc (expansion shown c (view_selections shown x.selections.now)) (all_expanded shown c xs) (all_expanded shown c ys))

  pub none-selected : (xs : List (Enclosing S)) (fs : List (CodeOccurrence S)) → xs ≡ [] → fs ≡ [] → all_expanded shown c xs ≡ all_below (view_all shown c fs)
  unfolding all_expanded all_below
  none-selected xs fs a b = rw (a, b) refl

  below-is : (f : Spanning (FieldType S) Span) → (view_collected shown c f).below ≡ expansion shown c (view_set shown (out-Field S f.item).selection_set)
  unfolding view_collected
  below-is f = refl

  pub one-selected : (xs more : List (Enclosing S)) (e : Enclosing S) (fs : List (CodeOccurrence S)) (i : ℕ) (o : CodeOccurrence S) → i < length fs →
      o ≡ get_or fs i o → all_expanded shown c xs ≡ all_below (view_all shown c (take i fs)) → more ≡ xs ++ e ∷ [] →
      view_selections shown e.selections.now ≡ view_set shown (out-Field S o.field.now.item).selection_set →
      all_expanded shown c more ≡ all_below (view_all shown c (take (i + 1) fs))
  unfolding all_expanded all_below
  one-selected xs more e fs i o below is so_far pushed selected =
      let one : chain (expansion shown c (view_selections shown e.selections.now)) end ≡ chain (view_collected shown c o.field.now).below end =
      ap (λ s. chain (expansion shown c s) end) selected ∙ ap (λ s. chain s end) (sym (below-is o.field.now)) in
      ap (all_expanded shown c) pushed ∙ (all-append xs (e ∷ [])
      ∙ (ap (λ s. chain s (chain (expansion shown c (view_selections shown e.selections.now)) end)) so_far
      ∙ (ap (chain (all_below (view_all shown c (take i fs)))) one
      ∙ (sym (all_below-append (view_all shown c (take i fs)) (view_collected shown c o.field.now ∷ []))
      ∙ ap all_below (sym (ap (view_all shown c) (take_more fs i o below ∙ ap (λ y. take i fs ++ y ∷ []) (sym is))
      ∙ map-append (λ (x : CodeOccurrence S). view_collected shown c x.field.now) (take i fs) (o ∷ [])))))))

  module _ (possible : Name → Name → Bool) (T : Name) where
    pub none-collected : (fs : List (CodeOccurrence S)) (xs : List (Enclosing S)) → fs ≡ [] → xs ≡ [] →
        view_all shown c fs ≡ occurrences possible T (all_expanded shown c xs)
    unfolding all_expanded occurrences
    none-collected fs xs a b = rw (a, b) refl

    -- of one slice alone they are what it holds
    pub one-collected : (fs : List (CodeOccurrence S)) (xs : List (Enclosing S)) (e : Enclosing S) → 1 ≤ length xs → length xs < 2 → e ≡ get_or xs 0 e →
        view_all shown c fs ≡ occurrences possible T (expansion shown c (view_selections shown e.selections.now)) →
        view_all shown c fs ≡ occurrences possible T (all_expanded shown c xs)
    unfolding all_expanded
    one-collected fs [] e some few is found = absurd (omega (arith, some))
    one-collected fs (x ∷ []) e some few is found =
        found ∙ ap (occurrences possible T) (ap (λ (y : Enclosing S). expansion shown c (view_selections shown y.selections.now)) is
        ∙ sym (chain-end (expansion shown c (view_selections shown x.selections.now))))
    one-collected fs (x ∷ (y ∷ ys)) e some few is found = absurd (omega (arith, few))

    pub more-collected : (fs more all : List (CodeOccurrence S)) (xs : List (Enclosing S)) (i : ℕ) (e : Enclosing S) → i < length xs → e ≡ get_or xs i e →
        view_all shown c fs ≡ occurrences possible T (all_expanded shown c (take i xs)) →
        view_all shown c more ≡ occurrences possible T (expansion shown c (view_selections shown e.selections.now)) → all ≡ fs ++ more →
        view_all shown c all ≡ occurrences possible T (all_expanded shown c (take (i + 1) xs))
    unfolding all_expanded occurrences
    more-collected fs more all xs i e below is so_far found joined =
        let s = expansion shown c (view_selections shown e.selections.now) in
        ap (view_all shown c) joined ∙ (map-append (λ (x : CodeOccurrence S). view_collected shown c x.field.now) fs more
        ∙ (ap (λ l. l ++ view_all shown c more) so_far
        ∙ (ap (λ l. occurrences possible T (all_expanded shown c (take i xs)) ++ l) (found ∙ (sym (append-nil (occurrences possible T s))
        ∙ sym (occurrences-chain possible T s end)))
        ∙ (sym (occurrences-chain possible T (all_expanded shown c (take i xs)) (chain s end))
        ∙ ap (occurrences possible T) (sym (ap (all_expanded shown c) (take_more xs i e below ∙ ap (λ y. take i xs ++ y ∷ []) (sym is))
        ∙ all-append (take i xs) (e ∷ [])))))))
