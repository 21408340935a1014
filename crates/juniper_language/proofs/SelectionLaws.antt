-- Selections that are read are spelled so, and those that are spelled so are read.
use Rattle.std.proofs.Common.{inl, inr, ◌≡◌, ◌≢◌, ℕ, zero, suc, false, List, [], ◌∷◌, length, Option, Some, None, is_some, refl, ap, sym, ◌∙◌, subst}
use Rattle.std.proofs.lemmas.Option.{none-some, same_Some}
use Rattle.std.proofs.lemmas.Bool.{false≢true}
use Rattle.std.proofs.lemmas.Slice.Eq.{bytes_eq-Decides}
use Rattle.std.specs.Str.{bytes_eq}
use Rattle.graphql_spec.specs.Shown.{Name}
use Rattle.graphql_spec.specs.Documents.{Word, Selections}
use Rattle.graphql_spec.specs.Grammar.{At, Mark, IsWord, Opt, Many, span_of, Set, OptSet, IsField, IsSpread, IsInline, TypeCondition, AreSelections, is_end}
use Rattle.graphql_spec.specs.Grammar.{on_word}
use Rattle.juniper_language.specs.Readers.{Reader, and_then, pure, refuse, sees, expect, a_name, some_until, optional}
use Rattle.juniper_language.specs.Reading.{label, given, directives, Node, field_node, spread_node, inline_node, selections_of, set_by, below_of, head_of}
use Rattle.juniper_language.specs.Reading.{field_by, first_word, start_of, inline_by, spread_by, dotted, selection, selections, inside_of}
use Rattle.juniper_language.proofs.StepLaws.{bind_some, from_pure, chosen, mark_seen, expect_sound, name_sound, until_sound, IsSound}
use Rattle.juniper_language.proofs.LabelLaws.{label_sound}
use Rattle.juniper_language.proofs.ValueLaws.{differ}
use Rattle.juniper_language.proofs.DirectiveLaws.{given_sound, directives_sound}

abbrev pub IsNode : ℕ → Node → At → At → Type 0
IsNode n (field_node h below) s t = IsField h below (AreSelections below) n s t
IsNode n (spread_node x) s t = IsSpread x n s t
IsNode n (inline_node x below) s t = IsInline x below (AreSelections below) n s t

-- the name that a word is comes next
pub word_first : (x : Word) (s t : At) → IsWord x s t → first_word s.ahead ≡ Some x.item
word_first x s t h = rw h.token refl

-- ## What is read is spelled so

-- what braces hold is spelled so
abbrev SetsAre : ℕ → Reader Selections → Type 0
SetsAre n inside = (s t : At) (x : Selections) → set_by inside s ≡ Some (x, t) → Set x (AreSelections x) n s t

module _ (n : ℕ) (inside : Reader Selections) (sets : SetsAre n inside) where
  set_there : (s t : At) (o : Option Selections) → optional 123 (set_by inside) s ≡ Some (o, t) →
      OptSet (is_some o) (below_of o) (AreSelections (below_of o)) n s t
  set_there s t o e = elim (chosen (sees 123 s) _ _ (o, t) e) [
    | inl there ↦
        let q = bind_some (set_by inside s) _ (o, t) there.1 in
        from_pure (λ y u. OptSet (is_some y) (below_of y) (AreSelections (below_of y)) n s u) (Some q.0.0) o q.0.1 t q.2 (sets s q.0.1 q.0.0 q.1)
    | inr none ↦ from_pure (λ y u. OptSet (is_some y) (below_of y) (AreSelections (below_of y)) n s u) None o s t none.1 (refl, refl)
  ]

  field_sound : (s t : At) (x : Node) → field_by n inside s ≡ Some (x, t) → IsNode n x s t
  field_sound s t x e =
      let l = bind_some (label s) _ (x, t) e in
      let g = bind_some (given false n l.0.1) _ (x, t) l.2 in
      let d = bind_some (directives false n g.0.1) _ (x, t) g.2 in
      let o = bind_some (optional 123 (set_by inside) d.0.1) _ (x, t) d.2 in
      let labelled = label_sound s l.0.1 l.0.0 l.1 in
      from_pure (λ y u. IsNode n y s u) (field_node (head_of l.0.0 g.0.0 d.0.0 (is_some o.0.0) (span_of s o.0.1)) (below_of o.0.0)) x o.0.1 t o.2 (
        labelled.0,
        l.0.1,
        g.0.1,
        d.0.1,
        labelled.1,
        labelled.2,
        given_sound false n l.0.1 g.0.1 g.0.0 g.1,
        directives_sound false n g.0.1 d.0.1 d.0.0 d.1,
        set_there d.0.1 o.0.1 o.0.0 o.1,
        refl,
      )

  inline_sound : (o : Option Word) (s a b t : At) (x : Node) → Mark 46 s a → Opt TypeCondition o a b → inline_by n inside (start_of s) o b ≡ Some (x, t) →
      IsNode n x s t
  unfolding span_of
  inline_sound o s a b t x dots condition e =
      let d = bind_some (directives false n b) _ (x, t) e in
      let i = bind_some (set_by inside d.0.1) _ (x, t) d.2 in
      from_pure (λ y u. IsNode n y s u) (inline_node (record { condition = o; directives = d.0.0; span = span_of s i.0.1 }) i.0.0) x i.0.1 t i.2
      (a, b, d.0.1, dots, condition, directives_sound false n b d.0.1 d.0.0 d.1, sets d.0.1 i.0.1 i.0.0 i.1, refl)

  spread_sound : (w : Word) (s a b t : At) (x : Node) → Mark 46 s a → IsWord w a b → w.item ≢ on_word → spread_by n (start_of s) w b ≡ Some (x, t) →
      IsNode n x s t
  unfolding span_of
  spread_sound w s a b t x dots word other e =
      let d = bind_some (directives false n b) _ (x, t) e in
      from_pure (λ y u. IsNode n y s u) (spread_node (record { name = w; directives = d.0.0; span = span_of s d.0.1 })) x d.0.1 t d.2
      (a, b, dots, word, other, directives_sound false n b d.0.1 d.0.0 d.1, refl)

  dotted_sound : (o : Option Name) (s a t : At) (x : Node) → o ≡ first_word a.ahead → Mark 46 s a → dotted n inside (start_of s) o a ≡ Some (x, t) →
      IsNode n x s t
  dotted_sound None s a t x is dots e = inline_sound None s a a t x dots refl e
  dotted_sound (Some w) s a t x is dots e = elim (chosen (bytes_eq w on_word) _ _ (x, t) e) [
    | inl on ↦
        let q = bind_some (a_name a) _ (x, t) on.1 in
        let r = bind_some (a_name q.0.1) _ (x, t) q.2 in
        let word = name_sound a q.0.1 q.0.0 q.1 in
        let same : q.0.0.item ≡ on_word = same_Some q.0.0.item w (sym (word_first q.0.0 a q.0.1 word) ∙ sym is) ∙ (bytes_eq-Decides w on_word).0 on.0 in
        inline_sound (Some r.0.0) s a r.0.1 t x dots (
          q.0.1,
          (q.0.0.span, subst (λ y. IsWord (record { item = y; span = q.0.0.span }) a q.0.1) same word),
          name_sound q.0.1 r.0.1 r.0.0 r.1,
        ) r.2
    | inr off ↦
        let q = bind_some (a_name a) _ (x, t) off.1 in
        let word = name_sound a q.0.1 q.0.0 q.1 in
        let same : w ≡ q.0.0.item = same_Some w q.0.0.item (is ∙ word_first q.0.0 a q.0.1 word) in
        spread_sound q.0.0 s a q.0.1 t x dots word (subst (λ y. y ≢ on_word) same (differ w on_word off.0)) q.2
  ]

  selection_sound : IsSound (selection n inside) (IsNode n)
  unfolding selection
  selection_sound s t x e = elim (chosen (sees 46 s) _ _ (x, t) e) [
    | inl there ↦ let q = bind_some (expect 46 s) _ (x, t) there.1 in
        dotted_sound (first_word q.0.1.ahead) s q.0.1 t x refl (expect_sound 46 s q.0.1 q.0.0 q.1) q.2
    | inr none ↦ field_sound s t x none.1
  ]

all_from : (n : ℕ) (xs : List Node) (s t : At) → Many (IsNode n) xs s t → AreSelections (selections_of xs) n s t
all_from n [] s t h = h
all_from n (field_node g below ∷ xs) s t h = (h.0, h.1, all_from n xs h.0 t h.2)
all_from n (spread_node x ∷ xs) s t h = (h.0, h.1, all_from n xs h.0 t h.2)
all_from n (inline_node x below ∷ xs) s t h = (h.0, h.1, all_from n xs h.0 t h.2)

some_there : (m n : ℕ) (xs : List Node) (s b t : At) → Many (IsNode n) xs s b → Mark m b t → sees m s ≡ false → is_end (selections_of xs) ≡ false
unfolding is_end
some_there m n [] s b t h last other = absurd (false≢true (sym other ∙ ap (sees m) h ∙ mark_seen m b t last))
some_there m n (field_node g below ∷ xs) s b t h last other = refl
some_there m n (spread_node x ∷ xs) s b t h last other = refl
some_there m n (inline_node x below ∷ xs) s b t h last other = refl

-- selections, and the closing brace
pub record Braced (x : Selections) (n : ℕ) (s t : At) : Type 0 where
  pub before_brace : At
  pub inside : AreSelections x n s before_brace
  pub closes : Mark 125 before_brace t
  pub some : is_end x ≡ false

braced : (n : ℕ) (inside : Reader Selections) → SetsAre n inside → (s t : At) (x : Selections) →
    and_then (some_until 125 (selection n inside) s) (λ xs. pure (selections_of xs)) ≡ Some (x, t) → Braced x n s t
unfolding some_until
braced n inside sets s t x e =
    let q = bind_some (some_until 125 (selection n inside) s) _ (x, t) e in
    elim (chosen (sees 125 s) _ _ q.0 q.1) [
      | inl none ↦ absurd (none-some q.0 none.1)
      | inr some ↦
          let h = until_sound 125 (selection n inside) (IsNode n) (selection_sound n inside sets) (length s.ahead) s q.0.1 q.0.0 some.1 in
          from_pure (λ y u. Braced y n s u) (selections_of q.0.0) x q.0.1 t q.2
          (record { before_brace = h.0; inside = all_from n q.0.0 s h.0 h.1; closes = h.2; some = some_there 125 n q.0.0 s h.0 q.0.1 h.1 h.2 some.0 })
    ]

nothing_inside : SetsAre zero refuse
nothing_inside s t x e = let q = bind_some (expect 123 s) _ (x, t) e in absurd (none-some (x, t) q.2)

set_from : (n : ℕ) (inside : Reader Selections) → ((s t : At) (x : Selections) → inside s ≡ Some (x, t) → Braced x n s t) → SetsAre (suc n) inside
set_from n inside is s t x e =
    let q = bind_some (expect 123 s) _ (x, t) e in
    let h = is q.0.1 t x q.2 in
    (h.some, q.0.1, h.before_brace, expect_sound 123 s q.0.1 q.0.0 q.1, h.inside, h.closes)

pub selections_sound : (n : ℕ) (s t : At) (x : Selections) → selections n s ≡ Some (x, t) → Braced x n s t
unfolding selections
selections_sound zero s t x e = braced zero refuse nothing_inside s t x e
selections_sound (suc n) s t x e = braced (suc n) (selections n) (set_from n (selections n) (selections_sound n)) s t x e

pub set_sound : (n : ℕ) → SetsAre n (inside_of n)
set_sound zero = nothing_inside
set_sound (suc n) = set_from n (selections n) (selections_sound n)
