-- A field's name and its alias that are read are spelled so, and those that are spelled so are read.
use Rattle.std.proofs.Common.{inl, inr, ◌≡◌, ℕ, ◌≤◌, false, length, Option, Some, None, refl, ap, sym, ◌∙◌, subst, arith}
use Rattle.graphql_spec.specs.Tokens.{mark, name}
use Rattle.graphql_spec.specs.Documents.{Word}
use Rattle.graphql_spec.specs.Grammar.{At, IsWord, Opt, Alias}
use Rattle.juniper_language.specs.Readers.{next, sees, a_name}
use Rattle.juniper_language.specs.Reading.{label}
use Rattle.juniper_language.proofs.StepLaws.{bind_some, pure_some, chosen, fewer, mark_seen, seen_mark, takes_next, name_sound, name_read, name_first, IsSound}

abbrev pub Label : Option Word × Word → At → At → Type 0
Label l s t = (a : At) × Opt Alias l.0 s a × IsWord l.1 a t

pub label_sound : IsSound label Label
unfolding label
label_sound s t l e =
    let q = bind_some (a_name s) _ (l, t) e in
    elim (chosen (sees 58 q.0.1) _ _ (l, t) q.2) [
      | inl there ↦
          let c = bind_some (next q.0.1) _ (l, t) there.1 in
          let y = bind_some (a_name c.0.1) _ (l, t) c.2 in
          let same = pure_some (Some q.0.0, y.0.0) l y.0.1 t y.2 in
          let colon = seen_mark 58 q.0.1 c.0 there.0 c.1 in
          let made : Label (Some q.0.0, y.0.0) s y.0.1 = (c.0.1, (q.0.1, name_sound s q.0.1 q.0.0 q.1, colon), name_sound c.0.1 y.0.1 y.0.0 y.1) in
          subst (λ z. Label z s t) same.0 (subst (λ u. Label (Some q.0.0, y.0.0) s u) same.1 made)
      | inr other ↦
          let same = pure_some (None, q.0.0) l q.0.1 t other.1 in
          let made : Label (None, q.0.0) s q.0.1 = (s, refl, name_sound s q.0.1 q.0.0 q.1) in
          subst (λ z. Label z s t) same.0 (subst (λ u. Label (None, q.0.0) s u) same.1 made)
    ]

pub label_read : (alias : Option Word) (x : Word) (s a t : At) → Opt Alias alias s a → IsWord x a t → sees 58 t ≡ false → label s ≡ Some ((alias, x), t)
unfolding label
label_read None x s a t h called other = let named : IsWord x s t = subst (λ u. IsWord x u t) (sym h) called in rw (name_read x s t named, other) refl
label_read (Some y) x s a t h called other =
    rw (name_read y s h.0 h.1, mark_seen 58 h.0 a h.2, takes_next (mark 58) h.2.0 h.0 a h.2.1, name_read x a t called) refl

pub alias_first : (m : ℕ) (alias : Option Word) (x : Word) (s a t : At) → Opt Alias alias s a → IsWord x a t → sees m s ≡ false
alias_first m None x s a t h called = ap (sees m) h ∙ name_first m x a t called
alias_first m (Some y) x s a t h called = name_first m y s h.0 h.1

pub alias_fewer : (alias : Option Word) (s a : At) → Opt Alias alias s a → length a.ahead ≤ length s.ahead
alias_fewer None s a h = omega (arith, ap (λ (u : At). length u.ahead) h)
alias_fewer (Some y) s a h = omega (arith, fewer (name y.item) y.span s h.0 h.1, fewer (mark 58) h.2.0 h.0 a h.2.1)
