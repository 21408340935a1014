-- Spreads and type conditions, one selection behind the other.
use Rattle.std.proofs.Common.{◌≡◌, ℕ, ◌+◌, ◌<◌, ◌≤◌, List, [], ◌∷◌, ◌++◌, length, get_or, drop, Option, Some, None, Vec, Global, refl, sym, ap, ◌∙◌}
use Rattle.std.proofs.lemmas.List.{append_assoc, append-nil, drop_all}
use Rattle.graphql_spec.specs.Shown.{Shown}
use Rattle.graphql_spec.specs.Documents as spec
use Rattle.graphql_spec.specs.Documents.{Word, Selections, end, field, spread, inline}
use Rattle.graphql_spec.specs.Written.{selections_of}
use Rattle.juniper_syntax.specs.declared.position.Spanning.{Spanning}
use Rattle.juniper_syntax.specs.declared.position.Span.{Span}
use Rattle.juniper_syntax.specs.DocumentView.{put_selection, view_field, view_selections, view_set}
use Rattle.juniper_syntax.specs.declared.ast.Field.{Field as FieldType, out-Field}
use Rattle.juniper_syntax.specs.declared.ast.InlineFragment.{InlineFragment as InlineType, out-InlineFragment}
use Rattle.juniper_syntax.specs.declared.ast.FragmentSpread.{FragmentSpread as SpreadType}
use Rattle.juniper_syntax.specs.declared.ast.Selection.{Selection, Field, FragmentSpread, InlineFragment}
use Rattle.juniper_syntax.proofs.Documents.{put-Field, put-FragmentSpread, put-InlineFragment}
use Rattle.juniper_syntax.proofs.Lists.{left-is}
use Rattle.juniper_written.specs.WrittenView.{view_inline, view_spread_at}
use Rattle.juniper_explain.specs.Words.{Words, condition_words, inline_words, joined, spread_words, word_list, words_in, words_of}

-- ## Both lists

abbrev pub made : List Word → List Word → Words
made a b = record { spreads = a; conditions = b }

same-words : (a a' b b' : List Word) → a ≡ a' → b ≡ b' → made a b ≡ made a' b'
same-words a a' b b' p q = ap (λ x. made x b) p ∙ ap (λ x. made a' x) q

pub joined-assoc : (p q r : Words) → joined (joined p q) r ≡ joined p (joined q r)
unfolding joined
joined-assoc p q r = same-words _ _ _ _ (append_assoc p.spreads q.spreads r.spreads) (append_assoc p.conditions q.conditions r.conditions)

pub joined-none : (p : Words) → joined p (made [] []) ≡ p
unfolding joined
joined-none p = same-words _ _ _ _ (append-nil p.spreads) (append-nil p.conditions)

joined-end : (p : Words) → joined p (words_in end) ≡ p
unfolding words_in spread_words inline_words
joined-end p = joined-none p

pub adds-spread-word : (old : Words) (w : Word) (ws : List Word) → ws ≡ old.spreads ++ w ∷ [] → made ws old.conditions ≡ joined old (made (w ∷ []) [])
unfolding joined
adds-spread-word old w ws e = same-words _ _ _ _ e (sym (append-nil old.conditions))

pub adds-condition-word : (old : Words) (o : Option Word) (w : Word) (ws : List Word) → o ≡ Some w → ws ≡ old.conditions ++ w ∷ [] →
    made old.spreads ws ≡ joined old (made [] (word_list o))
unfolding joined word_list
adds-condition-word old o w ws is e =
    same-words _ _ _ _ (sym (append-nil old.spreads)) (e ∙ ap (λ x. old.conditions ++ word_list x) (sym is))

pub adds-no-word : (old : Words) (o : Option Word) → o ≡ None → old ≡ joined old (made [] (word_list o))
unfolding word_list
adds-no-word old o is = sym (joined-none old) ∙ ap (λ x. joined old (made [] (word_list x))) (sym is)

-- ## A selection before the rest

field-words : (h : spec.Head) (below rest : Selections) → words_in (field h below rest) ≡ joined (words_in below) (words_in rest)
unfolding joined words_in spread_words inline_words
field-words h below rest = refl

spread-words : (x : spec.Spread) (rest : Selections) → words_in (spread x rest) ≡ joined (made (x.name ∷ []) []) (words_in rest)
unfolding joined words_in spread_words inline_words
spread-words x rest = refl

inline-words : (x : spec.Inline) (below rest : Selections) →
    words_in (inline x below rest) ≡ joined (joined (made [] (word_list x.condition)) (words_in below)) (words_in rest)
unfolding joined words_in spread_words inline_words
inline-words x below rest = refl

-- ## A selection of the code

module _ {S : Type 0} (shown : S → Shown) (x : Selection S) (old new : Words) where
  -- what was added stands before what follows
  abbrev pub IsAdded : Type 0
  IsAdded = (rest : Selections) → joined new (words_in rest) ≡ joined old (words_in (put_selection shown x rest))

  at-field : (s : Spanning (FieldType S) Span) (o : Option (Vec (Selection S) Global)) (rest : Selections) → x ≡ Field s →
      (out-Field S s.item).selection_set ≡ o →
      words_in (put_selection shown x rest) ≡ joined (words_in (view_set shown o)) (words_in rest)
  at-field s o rest is set =
      ap (λ y. words_in (put_selection shown y rest)) is ∙ (ap words_in (put-Field shown s rest)
      ∙ (field-words (view_field shown s) (view_set shown (out-Field S s.item).selection_set) rest
      ∙ ap (λ v. joined (words_in (view_set shown v)) (words_in rest)) set))

  pub adds-leaf : (s : Spanning (FieldType S) Span) → x ≡ Field s → (out-Field S s.item).selection_set ≡ None → new ≡ old → IsAdded
  adds-leaf s is none e = λ rest.
      ap (λ p. joined p (words_in rest)) (e ∙ sym (joined-end old)) ∙ (joined-assoc old (words_in end) (words_in rest)
      ∙ ap (joined old) (sym (at-field s None rest is none)))

  pub adds-set : (s : Spanning (FieldType S) Span) (v : Vec (Selection S) Global) (within : List (Selection S)) → x ≡ Field s →
      (out-Field S s.item).selection_set ≡ Some v →
      within ≡ v.items → new ≡ joined old (words_in (view_selections shown within)) → IsAdded
  adds-set s v within is some same e = λ rest.
      ap (λ p. joined p (words_in rest)) e
      ∙ (joined-assoc old (words_in (view_selections shown within)) (words_in rest)
      ∙ ap (joined old) (ap (λ l. joined (words_in (view_selections shown l)) (words_in rest)) same ∙ sym (at-field s (Some v) rest is some)))

  pub adds-spread : (s : Spanning (SpreadType S) Span) → x ≡ FragmentSpread s → new ≡ joined old (made ((view_spread_at shown s).name ∷ []) []) → IsAdded
  adds-spread s is e = λ rest.
      ap (λ p. joined p (words_in rest)) e ∙ (joined-assoc old (made ((view_spread_at shown s).name ∷ []) []) (words_in rest)
      ∙ ap (joined old) (sym (ap (λ y. words_in (put_selection shown y rest)) is
      ∙ (ap words_in (put-FragmentSpread shown s rest) ∙ spread-words (view_spread_at shown s) rest))))

  pub adds-inline : (s : Spanning (InlineType S) Span) (within : List (Selection S)) (m : Words) → x ≡ InlineFragment s →
      within ≡ (out-InlineFragment S s.item).selection_set.items →
      m ≡ joined old (made [] (word_list (view_inline shown s).condition)) → new ≡ joined m (words_in (view_selections shown within)) → IsAdded
  adds-inline s within m is same first e = λ rest.
      let head : Words = made [] (word_list (view_inline shown s).condition) in
      let below : Words = words_in (view_selections shown within) in
      ap (λ p. joined p (words_in rest)) (e ∙ ap (λ p. joined p below) first)
      ∙ (ap (λ p. joined p (words_in rest)) (joined-assoc old head below)
      ∙ (joined-assoc old (joined head below) (words_in rest)
      ∙ ap (joined old) (ap (λ l. joined (joined head (words_in (view_selections shown l))) (words_in rest)) same
      ∙ sym (ap (λ y. words_in (put_selection shown y rest)) is ∙ (ap words_in (put-InlineFragment shown s rest)
      ∙ inline-words (view_inline shown s) (view_selections shown (out-InlineFragment S s.item).selection_set.items) rest)))))

-- ## Selections of the code

module _ {S : Type 0} (shown : S → Shown) (xs : List (Selection S)) (old : Words) where
  -- what was added, with what is left, is the whole
  abbrev pub IsSoFar : ℕ → Words → Type 0
  IsSoFar i p = joined p (words_in (view_selections shown (drop i xs))) ≡ joined old (words_in (view_selections shown xs))

  pub adds-next : (i : ℕ) (x : Selection S) (p made : Words) → i < length xs → x ≡ get_or xs i x → IsSoFar i p → IsAdded shown x p made → IsSoFar (i + 1) made
  adds-next i x p made below is so_far one =
      one (view_selections shown (drop (i + 1) xs)) ∙ (ap (λ l. joined p (words_in (view_selections shown l))) (sym (left-is xs i x below is)) ∙ so_far)

  pub adds-all : (i : ℕ) (p : Words) → length xs ≤ i → IsSoFar i p → p ≡ joined old (words_in (view_selections shown xs))
  adds-all i p past so_far =
      let none : joined p (words_in (view_selections shown (drop i xs))) ≡ p = rw (drop_all i xs past) (joined-end p) in
      sym none ∙ so_far

-- ## Definitions

pub operation-words : (o : spec.Operation) (v p : Words) (within : Selections) → v ≡ made [] [] → within ≡ o.selections → p ≡ joined v (words_in within) →
    p ≡ words_of (spec.operation o)
unfolding joined words_in words_of condition_words selections_of
operation-words o v p within none same e =
    e ∙ (ap (λ q. joined q (words_in within)) none ∙ ap (λ x. made (spread_words x) (inline_words x)) same)

pub fragment-words : (f : spec.Fragment) (v p : Words) (ws : List Word) (within : Selections) → v ≡ made [] [] → ws ≡ v.conditions ++ f.condition ∷ [] →
    within ≡ f.selections → p ≡ joined (made v.spreads ws) (words_in within) → p ≡ words_of (spec.fragment f)
unfolding joined words_in words_of condition_words selections_of
fragment-words f v p ws within none condition same e =
    let own : ws ≡ f.condition ∷ [] = condition ∙ ap (λ (q : Words). q.conditions ++ f.condition ∷ []) none in
    e ∙ (ap (λ (q : Words). joined (made q.spreads ws) (words_in within)) none
    ∙ (ap (λ l. joined (made [] l) (words_in within)) own ∙ ap (λ x. made (spread_words x) (f.condition ∷ inline_words x)) same))
