-- Types that are read are spelled so, and those that are spelled so are read.
use Rattle.std.proofs.Common.{inl, inr, ◌≡◌, ℕ, zero, suc, ◌<◌, ◌≤◌, Bool, true, false, length, Some, None, refl, ap, sym, ◌∙◌, arith}
use Rattle.graphql_spec.specs.Shown.{Name}
use Rattle.graphql_spec.specs.Tokens.{mark, name}
use Rattle.graphql_spec.specs.Types.{TypeRef, named, list_of}
use Rattle.graphql_spec.specs.Grammar.{At, Keyword, Bang, IsType}
use Rattle.juniper_language.specs.Readers.{next, sees, expect, a_name}
use Rattle.juniper_language.specs.Reading.{bang, named_type, type_ref}
use Rattle.juniper_language.proofs.StepLaws.{bind_some, from_pure, chosen, takes_next, fewer, mark_seen, other_seen, seen_mark, expect_sound, expect_read}
use Rattle.juniper_language.proofs.StepLaws.{name_sound, name_read, name_first}

bang_sound : (s t : At) (r : Bool) → bang s ≡ Some (r, t) → Bang r s t
bang_sound s t r e = elim (chosen (sees 33 s) _ _ (r, t) e) [
  | inl there ↦ let q = bind_some (next s) _ (r, t) there.1 in from_pure (λ y u. Bang y s u) true r q.0.1 t q.2 (seen_mark 33 s q.0 there.0 q.1)
  | inr none ↦ from_pure (λ y u. Bang y s u) false r s t none.1 refl
]

bang_read : (r : Bool) (s t : At) → Bang r s t → sees 33 t ≡ false → bang s ≡ Some (r, t)
bang_read true s t h other = rw (mark_seen 33 s t h, takes_next (mark 33) h.0 s t h.1) refl
bang_read false s t h other = let none : sees 33 s ≡ false = ap (sees 33) h ∙ other in rw none (ap (λ u. Some (false, u)) h)

bang_fewer : (r : Bool) (s t : At) → Bang r s t → length t.ahead ≤ length s.ahead
bang_fewer true s t h = omega (arith, fewer (mark 33) h.0 s t h.1)
bang_fewer false s t h = omega (arith, ap (λ (u : At). length u.ahead) h)

name_type_sound : (n : ℕ) (s t : At) (u : TypeRef) → named_type s ≡ Some (u, t) → IsType u n s t
name_type_sound n s t u e =
    let q = bind_some (a_name s) _ (u, t) e in
    let r = bind_some (bang q.0.1) _ (u, t) q.2 in
    from_pure (λ y z. IsType y n s z) (named r.0.0 q.0.0.item) u r.0.1 t r.2
    (q.0.1, (q.0.0.span, name_sound s q.0.1 q.0.0 q.1), bang_sound q.0.1 r.0.1 r.0.0 r.1)

pub type_sound : (n : ℕ) (s t : At) (u : TypeRef) → type_ref n s ≡ Some (u, t) → IsType u n s t
unfolding type_ref
type_sound zero s t u e = name_type_sound zero s t u e
type_sound (suc n) s t u e = elim (chosen (sees 91 s) _ _ (u, t) e) [
  | inl there ↦
      let q = bind_some (next s) _ (u, t) there.1 in
      let i = bind_some (type_ref n q.0.1) _ (u, t) q.2 in
      let c = bind_some (expect 93 i.0.1) _ (u, t) i.2 in
      let r = bind_some (bang c.0.1) _ (u, t) c.2 in
      from_pure (λ y z. IsType y (suc n) s z) (list_of r.0.0 None i.0.0) u r.0.1 t r.2 (
        refl,
        q.0.1,
        i.0.1,
        c.0.1,
        seen_mark 91 s q.0 there.0 q.1,
        type_sound n q.0.1 i.0.1 i.0.0 i.1,
        expect_sound 93 i.0.1 c.0.1 c.0.0 c.1,
        bang_sound c.0.1 r.0.1 r.0.0 r.1,
      )
  | inr none ↦ name_type_sound (suc n) s t u none.1
]

name_type_read : (r : Bool) (x : Name) (s a t : At) → Keyword x s a → Bang r a t → sees 33 t ≡ false → named_type s ≡ Some (named r x, t)
name_type_read r x s a t word banged other = rw (name_read (record { item = x; span = word.0 }) s a word.1, bang_read r a t banged other) refl

pub type_read : (u : TypeRef) (n : ℕ) (s t : At) → IsType u n s t → sees 33 t ≡ false → type_ref n s ≡ Some (u, t)
unfolding type_ref
type_read (named r x) zero s t (a, word, banged) other = name_type_read r x s a t word banged other
type_read (named r x) (suc n) s t (a, word, banged) other =
    let no_list : sees 91 s ≡ false = name_first 91 (record { item = x; span = word.0 }) s a word.1 in rw no_list (name_type_read r x s a t word banged other)
type_read (list_of r size u) zero s t h other = absurd h
type_read (list_of r size u) (suc n) s t (free, a, b, d, opens, inside, closes, banged) other =
    rw (
      mark_seen 91 s a opens,
      takes_next (mark 91) opens.0 s a opens.1,
      type_read u n a b inside (other_seen 93 33 b d refl closes),
      expect_read 93 b d closes,
      bang_read r d t banged other,
    )
    (ap (λ z. Some (list_of r z u, t)) (sym free))

pub type_fewer : (u : TypeRef) (n : ℕ) (s t : At) → IsType u n s t → length t.ahead < length s.ahead
type_fewer (named r x) n s t (a, word, banged) = omega (arith, fewer (name x) word.0 s a word.1, bang_fewer r a t banged)
type_fewer (list_of r size u) zero s t h = absurd h
type_fewer (list_of r size u) (suc n) s t (free, a, b, d, opens, inside, closes, banged) =
    omega (arith, fewer (mark 91) opens.0 s a opens.1, type_fewer u n a b inside, fewer (mark 93) closes.0 b d closes.1, bang_fewer r d t banged)
