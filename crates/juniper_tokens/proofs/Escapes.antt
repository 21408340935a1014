-- What a string stands for, part by part.
use Rattle.std.proofs.Common.{inl, inr, ◌≡◌, ◌≢◌, ℕ, suc, ◌+◌, ◌*◌, ◌<◌, ◌≤◌, ◌==◌, true, false, List, [], ◌∷◌, ◌++◌, length, take, drop, Option, Some, None}
use Rattle.std.proofs.Common.{refl, ap, sym, ◌∙◌, arith, subst, append_assoc, append-nil}
use Rattle.std.proofs.lemmas.Bool.{cases_Bool, cases_eq, eqb-true, eq-eqb, ne_eqb, false≢true, not-true, and_parts, or_parts}
use Rattle.std.proofs.lemmas.Bool.Decides.{nat_tests}
use Rattle.std.proofs.lemmas.Option.{none-some, same_Some}
use Rattle.std.proofs.lemmas.List.{length-drop}
use Rattle.std.proofs.lemmas.List.Sums.{prefix_len-le-length}
use Rattle.std.proofs.lemmas.Str.{IsUtf8-drop, IsCharBoundary-after_ascii, encode_ascii}
use Rattle.std.specs.Str.{IsUtf8}
use Rattle.std.specs.List.{prefix_len}
use Rattle.std.specs.Char.{encode_utf8}
use Rattle.graphql_spec.specs.Shown.{Text}
use Rattle.graphql_spec.specs.Tokens.{Mode, characters, after_backslash, hex_digits, escaped, hex_value, is_surrogate, add_digit, read_byte, before}
use Rattle.graphql_spec.specs.Tokens.{decode_from, is_source_byte, quote}
use Rattle.juniper_tokens.specs.Strings.{backslash, is_plain, join, escape_from, escape, first_part}
use Rattle.juniper_tokens.proofs.Bytes.{run_suc, run_zero}

-- ---- one byte

pub decode_stops : (m : Mode) (b : ℕ) (bs : List ℕ) → read_byte m b ≡ None → decode_from m (b ∷ bs) ≡ None
unfolding decode_from
decode_stops characters b bs e = rw (e, decode_from) refl
decode_stops after_backslash b bs e = rw (e, decode_from) refl
decode_stops (hex_digits k n) b bs e = rw (e, decode_from) refl

pub decode_goes : (m : Mode) (b : ℕ) (bs : List ℕ) (p : Mode × Text) → read_byte m b ≡ Some p → decode_from m (b ∷ bs) ≡ before p.1 (decode_from p.0 bs)
unfolding decode_from
decode_goes characters b bs p e = rw (e, decode_from) refl
decode_goes after_backslash b bs p e = rw (e, decode_from) refl
decode_goes (hex_digits k n) b bs p e = rw (e, decode_from) refl

-- in the middle of an escape
abbrev pub IsInside : Mode → Type 0
IsInside characters = ⊥
IsInside after_backslash = Unit {0}
IsInside (hex_digits k n) = Unit {0}

pub escape_stops : (m : Mode) → IsInside m → (b : ℕ) (bs : List ℕ) → read_byte m b ≡ None → escape_from m (b ∷ bs) ≡ None
unfolding escape_from
escape_stops characters inside b bs e = absurd inside
escape_stops after_backslash inside b bs e = rw (e, escape_from) refl
escape_stops (hex_digits k n) inside b bs e = rw (e, escape_from) refl

pub escape_goes : (m : Mode) → IsInside m → (b : ℕ) (bs : List ℕ) (p : Mode × Text) → read_byte m b ≡ Some p →
    escape_from m (b ∷ bs) ≡ join p.1 (escape_from p.0 bs)
unfolding escape_from
escape_goes characters inside b bs p e = absurd inside
escape_goes after_backslash inside b bs p e = rw (e, escape_from) refl
escape_goes (hex_digits k n) inside b bs p e = rw (e, escape_from) refl

pub escape_done : (bs : List ℕ) → escape_from characters bs ≡ Some ([], bs)
unfolding escape_from
escape_done bs = refl

-- ---- texts put before one another

pub before_nil : (o : Option Text) → before [] o ≡ o
unfolding before
before_nil None = refl
before_nil (Some t) = refl

pub before_append : (s t : Text) (o : Option Text) → before s (before t o) ≡ before (s ++ t) o
unfolding before
before_append s t None = refl
before_append s t (Some u) = ap Some (sym (append_assoc s t u))

-- what is left is decoded behind what is read
abbrev pub decoded_behind : Option (Text × Text) → Option Text
decoded_behind None = None
decoded_behind (Some q) = before q.0 (decode_from characters q.1)

before_none : (s : Text) → before s None ≡ None
unfolding before
before_none s = refl

before_joined : (s : Text) (o : Option (Text × Text)) → before s (decoded_behind o) ≡ decoded_behind (join s o)
before_joined s None = before_none s
before_joined s (Some q) = before_append s q.0 (decode_from characters q.1)

-- ---- parts

-- one byte of an escape, and what follows it
byte_decoded : (m : Mode) → IsInside m → (b : ℕ) (bs : List ℕ) (o : Option (Mode × Text)) → read_byte m b ≡ o →
    ((k : Mode) → decode_from k bs ≡ decoded_behind (escape_from k bs))
    → decode_from m (b ∷ bs) ≡ decoded_behind (escape_from m (b ∷ bs))
byte_decoded m inside b bs None e more = decode_stops m b bs e ∙ sym (ap decoded_behind (escape_stops m inside b bs e))
byte_decoded m inside b bs (Some p) e more =
    decode_goes m b bs p e ∙ ap (before p.1) (more p.0) ∙ before_joined p.1 (escape_from p.0 bs) ∙ sym (ap decoded_behind (escape_goes m inside b bs p e))

escape_decoded : (bs : List ℕ) (m : Mode) → decode_from m bs ≡ decoded_behind (escape_from m bs)
unfolding decode_from escape_from
escape_decoded bs characters = sym (before_nil (decode_from characters bs))
escape_decoded [] after_backslash = refl
escape_decoded [] (hex_digits k n) = refl
escape_decoded (b ∷ bs) after_backslash = byte_decoded after_backslash tt b bs (read_byte after_backslash b) refl (λ m. escape_decoded bs m)
escape_decoded (b ∷ bs) (hex_digits k n) = byte_decoded (hex_digits k n) tt b bs (read_byte (hex_digits k n) b) refl (λ m. escape_decoded bs m)

pub read_plain : (b : ℕ) → is_plain b ≡ true → read_byte characters b ≡ Some (characters, b ∷ [])
unfolding is_plain read_byte
read_plain b e =
    let parts = and_parts (is_source_byte b) _ e in
    let others = or_parts (b == quote) (b == backslash) (not-true _ parts.1) in
    rw (others.1, parts.0, others.0) refl

pub read_other : (b : ℕ) → is_plain b ≡ false → b == backslash ≡ false → read_byte characters b ≡ None
unfolding is_plain read_byte
read_other b e f = elim (cases_Bool (is_source_byte b)) [
  | inl g ↦ elim (cases_Bool (b == quote)) [
    | inl h ↦ rw (f, g, h) refl
    | inr h ↦ absurd (false≢true (sym e ∙ rw (g, h, f) refl))
  ]
  | inr g ↦ rw (f, g) refl
]

pub read_backslash : (b : ℕ) → b == backslash ≡ true → read_byte characters b ≡ Some (after_backslash, [])
unfolding read_byte
read_backslash b e = rw e refl

plain_decoded : (bs : List ℕ) → decode_from characters bs ≡ before (take (prefix_len is_plain bs) bs)
    (decode_from characters (drop (prefix_len is_plain bs) bs))
unfolding decode_from before
plain_decoded [] = refl
plain_decoded (b ∷ bs) = elim (cases_Bool (is_plain b)) [
  | inl e ↦
      let n = prefix_len is_plain bs in
      rw (run_suc is_plain b bs e)
      (decode_goes characters b bs (characters, b ∷ []) (read_plain b e) ∙ ap (before (b ∷ [])) (plain_decoded bs)
      ∙ before_append (b ∷ []) (take n bs) (decode_from characters (drop n bs)))
  | inr e ↦ rw (run_zero is_plain b bs e) (sym (before_nil (decode_from characters (b ∷ bs))))
]

pub not_plain : (b : ℕ) (bs : List ℕ) → prefix_len is_plain (b ∷ bs) ≡ 0 → is_plain b ≡ false
not_plain b bs none = elim (cases_Bool (is_plain b)) [
  | inl e ↦ absurd (omega (arith, none, run_suc is_plain b bs e))
  | inr e ↦ e
]

front_decoded : (b : ℕ) (bs : List ℕ) → is_plain b ≡ false → decode_from characters (b ∷ bs) ≡ decoded_behind (escape (b ∷ bs))
unfolding escape
front_decoded b bs e = elim (cases_Bool (b == backslash)) [
  | inl f ↦ rw f (decode_goes characters b bs (after_backslash, []) (read_backslash b f) ∙ before_nil (decode_from after_backslash bs)
      ∙ escape_decoded bs after_backslash)
  | inr f ↦ rw f (decode_stops characters b bs (read_other b e f))
]

pub part_decoded : (bs : List ℕ) → length bs ≢ 0 → decode_from characters bs ≡ decoded_behind (first_part bs)
unfolding first_part
part_decoded [] some = absurd (some refl)
part_decoded (b ∷ bs) some = elim (cases_eq (prefix_len is_plain (b ∷ bs)) 0) [
  | inl none ↦ rw (eq-eqb (prefix_len is_plain (b ∷ bs)) 0 none) (front_decoded b bs (not_plain b bs none))
  | inr run ↦ rw (ne_eqb (prefix_len is_plain (b ∷ bs)) 0 run) (plain_decoded (b ∷ bs))
]

-- ---- what is left

joined : (s : Text) (o : Option (Text × Text)) (q : Text × Text) → join s o ≡ Some q → (r : Text × Text) × (o ≡ Some r) × (r.1 ≡ q.1)
joined s None q e = absurd (none-some q e)
joined s (Some r) q e = (r, refl, ap (λ (x : Text × Text). x.1) (same_Some (s ++ r.0, r.1) q e))

byte_shorter : (m : Mode) → IsInside m → (b : ℕ) (bs : List ℕ) (o : Option (Mode × Text)) → read_byte m b ≡ o → (q : Text × Text) →
    escape_from m (b ∷ bs) ≡ Some q
    → ((k : Mode) (r : Text × Text) → escape_from k bs ≡ Some r → length r.1 ≤ length bs) → length q.1 ≤ suc (length bs)
byte_shorter m inside b bs None e q is more = absurd (none-some q (sym (escape_stops m inside b bs e) ∙ is))
byte_shorter m inside b bs (Some p) e q is more =
    let r = joined p.1 (escape_from p.0 bs) q (sym (escape_goes m inside b bs p e) ∙ is) in
    let less = more p.0 r.0 r.1 in
    omega (arith, less, ap length r.2)

escape_from_shorter : (bs : List ℕ) (m : Mode) (q : Text × Text) → escape_from m bs ≡ Some q → length q.1 ≤ length bs
unfolding escape_from
escape_from_shorter bs characters q e = omega (arith, ap length (ap (λ (x : Text × Text). x.1) (same_Some ([], bs) q e)))
escape_from_shorter [] after_backslash q e = absurd (none-some q e)
escape_from_shorter [] (hex_digits k n) q e = absurd (none-some q e)
escape_from_shorter (b ∷ bs) after_backslash q e =
    byte_shorter after_backslash tt b bs (read_byte after_backslash b) refl q e (λ k r. escape_from_shorter bs k r)
escape_from_shorter (b ∷ bs) (hex_digits k n) q e =
    byte_shorter (hex_digits k n) tt b bs (read_byte (hex_digits k n) b) refl q e (λ j r. escape_from_shorter bs j r)

escape_shorter : (bs : List ℕ) (q : Text × Text) → escape bs ≡ Some q → length q.1 < length bs
unfolding escape
escape_shorter [] q e = absurd (none-some q e)
escape_shorter (b ∷ bs) q e = elim (cases_Bool (b == backslash)) [
  | inl f ↦ let less = escape_from_shorter bs after_backslash q (rw f at e) in omega (arith, less)
  | inr f ↦ absurd (none-some q (rw f at e))
]

pub part_shorter : (bs : List ℕ) (q : Text × Text) → first_part bs ≡ Some q → length q.1 < length bs
unfolding first_part
part_shorter bs q e = elim (cases_eq (prefix_len is_plain bs) 0) [
  | inl none ↦ escape_shorter bs q (rw (eq-eqb (prefix_len is_plain bs) 0 none) at e)
  | inr run ↦
      let n = prefix_len is_plain bs in
      let same = same_Some (take n bs, drop n bs) q (rw (ne_eqb n 0 run) at e) in
      omega (arith, ap length (ap (λ (x : Text × Text). x.1) same), length-drop n bs, prefix_len-le-length is_plain bs, run)
]

-- ---- an escape is ASCII, so what is left is a text

escaped_small : (b c : ℕ) → escaped b ≡ Some c → b < 128
unfolding escaped
escaped_small b c e = grind (arith, nat_tests)

pub escaped_ascii : (b c : ℕ) → escaped b ≡ Some c → c < 128
unfolding escaped
escaped_ascii b c e = grind (arith, nat_tests)

hex_small : (b d : ℕ) → hex_value b ≡ Some d → b < 128
unfolding hex_value
hex_small b d e = grind (arith, nat_tests)

letter_small : (b : ℕ) (o : Option ℕ) (p : Mode × Text) → escaped b ≡ o → read_byte after_backslash b ≡ Some p → b < 128
unfolding read_byte
letter_small b None p is e = elim (cases_Bool (b == 117)) [
  | inl f ↦ omega (arith, eqb-true b 117 f)
  | inr f ↦ absurd (none-some p (rw (f, is) at e))
]
letter_small b (Some c) p is e = escaped_small b c is

digit_none : (k n b : ℕ) → hex_value b ≡ None → read_byte (hex_digits k n) b ≡ None
unfolding read_byte
digit_none k n b e = rw (e, read_byte) refl

digit_some : (k n b d : ℕ) → hex_value b ≡ Some d → read_byte (hex_digits k n) b ≡ add_digit k n d
unfolding read_byte
digit_some k n b d e = rw (e, read_byte) refl

digit_small : (k n b : ℕ) (o : Option ℕ) (p : Mode × Text) → hex_value b ≡ o → read_byte (hex_digits k n) b ≡ Some p → b < 128
digit_small k n b None p is e = absurd (none-some p (sym (digit_none k n b is) ∙ e))
digit_small k n b (Some d) p is e = hex_small b d is

inside_small : (m : Mode) → IsInside m → (b : ℕ) (p : Mode × Text) → read_byte m b ≡ Some p → b < 128
inside_small characters inside b p e = absurd inside
inside_small after_backslash inside b p e = letter_small b (escaped b) p refl e
inside_small (hex_digits k n) inside b p e = digit_small k n b (hex_value b) p refl e

pub behind_small : (b : ℕ) (bs : List ℕ) → b < 128 → IsUtf8 (b ∷ bs) → IsUtf8 bs
behind_small b bs small u = IsUtf8-drop (b ∷ bs) 1 u (IsCharBoundary-after_ascii (b ∷ bs) 0 u (omega arith) small)

byte_utf8 : (m : Mode) → IsInside m → (b : ℕ) (bs : List ℕ) (o : Option (Mode × Text)) → read_byte m b ≡ o → (q : Text × Text) →
    escape_from m (b ∷ bs) ≡ Some q → IsUtf8 (b ∷ bs)
    → ((k : Mode) (r : Text × Text) → escape_from k bs ≡ Some r → IsUtf8 bs → IsUtf8 r.1) → IsUtf8 q.1
byte_utf8 m inside b bs None e q is u more = absurd (none-some q (sym (escape_stops m inside b bs e) ∙ is))
byte_utf8 m inside b bs (Some p) e q is u more =
    let r = joined p.1 (escape_from p.0 bs) q (sym (escape_goes m inside b bs p e) ∙ is) in
    subst (λ x. IsUtf8 x) r.2 (more p.0 r.0 r.1 (behind_small b bs (inside_small m inside b p e) u))

pub escape_from_utf8 : (bs : List ℕ) (m : Mode) (q : Text × Text) → escape_from m bs ≡ Some q → IsUtf8 bs → IsUtf8 q.1
unfolding escape_from
escape_from_utf8 bs characters q e u = subst (λ (x : Text × Text). IsUtf8 x.1) (same_Some ([], bs) q e) u
escape_from_utf8 [] after_backslash q e u = absurd (none-some q e)
escape_from_utf8 [] (hex_digits k n) q e u = absurd (none-some q e)
escape_from_utf8 (b ∷ bs) after_backslash q e u = byte_utf8 after_backslash tt b bs (read_byte after_backslash b) refl q e u (λ k r. escape_from_utf8 bs k r)
escape_from_utf8 (b ∷ bs) (hex_digits k n) q e u = byte_utf8 (hex_digits k n) tt b bs (read_byte (hex_digits k n) b) refl q e u (λ j r. escape_from_utf8 bs j r)

-- ---- the escapes by what stands there

pub letter_read : (b c : ℕ) (bs : List ℕ) → b == 117 ≡ false → escaped b ≡ Some c → escape_from after_backslash (b ∷ bs) ≡ Some (encode_utf8 c, bs)
unfolding read_byte
letter_read b c bs f e =
    let reads : read_byte after_backslash b ≡ Some (characters, c ∷ []) = rw (f, e) refl in
    escape_goes after_backslash tt b bs (characters, c ∷ []) reads ∙ ap (join (c ∷ [])) (escape_done bs)
    ∙ ap (λ t. Some (t, bs)) (sym (encode_ascii c (escaped_ascii b c e)))

pub letter_unread : (b : ℕ) (bs : List ℕ) → b == 117 ≡ false → escaped b ≡ None → escape_from after_backslash (b ∷ bs) ≡ None
unfolding read_byte
letter_unread b bs f e = let reads : read_byte after_backslash b ≡ None = rw (f, e) refl in escape_stops after_backslash tt b bs reads

join_nil : (o : Option (Text × Text)) → join [] o ≡ o
join_nil None = refl
join_nil (Some q) = refl

pub unicode_read : (bs : List ℕ) → escape_from after_backslash (117 ∷ bs) ≡ escape_from (hex_digits 0 0) bs
unfolding read_byte
unicode_read bs = let reads : read_byte after_backslash 117 ≡ Some (hex_digits 0 0, []) = refl in
    escape_goes after_backslash tt 117 bs (hex_digits 0 0, []) reads ∙ join_nil (escape_from (hex_digits 0 0) bs)

pub digit_unread : (k n b : ℕ) (bs : List ℕ) → hex_value b ≡ None → escape_from (hex_digits k n) (b ∷ bs) ≡ None
digit_unread k n b bs e = escape_stops (hex_digits k n) tt b bs (digit_none k n b e)

more_digits : (k n d : ℕ) → k == 3 ≡ false → add_digit k n d ≡ Some (hex_digits (k + 1) (n * 16 + d), [])
unfolding add_digit
more_digits k n d e = rw e refl

last_digit : (n d : ℕ) → is_surrogate (n * 16 + d) ≡ false → add_digit 3 n d ≡ Some (characters, encode_utf8 (n * 16 + d))
unfolding add_digit
last_digit n d e = rw (e, add_digit) refl

no_character : (n d : ℕ) → is_surrogate (n * 16 + d) ≡ true → add_digit 3 n d ≡ None
unfolding add_digit
no_character n d e = rw (e, add_digit) refl

pub digit_read : (k n b d : ℕ) (bs : List ℕ) → hex_value b ≡ Some d → k == 3 ≡ false →
    escape_from (hex_digits k n) (b ∷ bs) ≡ escape_from (hex_digits (k + 1) (n * 16 + d)) bs
digit_read k n b d bs e f =
    let more = hex_digits (k + 1) (n * 16 + d) in
    escape_goes (hex_digits k n) tt b bs (more, []) (digit_some k n b d e ∙ more_digits k n d f) ∙ join_nil (escape_from more bs)

last_read : (n b d : ℕ) (bs : List ℕ) → hex_value b ≡ Some d → is_surrogate (n * 16 + d) ≡ false →
    escape_from (hex_digits 3 n) (b ∷ bs) ≡ Some (encode_utf8 (n * 16 + d), bs)
last_read n b d bs e f =
    let word = encode_utf8 (n * 16 + d) in
    escape_goes (hex_digits 3 n) tt b bs (characters, word) (digit_some 3 n b d e ∙ last_digit n d f) ∙ ap (join word) (escape_done bs)
    ∙ ap (λ t. Some (t, bs)) (append-nil word)

surrogate_unread : (n b d : ℕ) (bs : List ℕ) → hex_value b ≡ Some d → is_surrogate (n * 16 + d) ≡ true → escape_from (hex_digits 3 n) (b ∷ bs) ≡ None
surrogate_unread n b d bs e f = escape_stops (hex_digits 3 n) tt b bs (digit_some 3 n b d e ∙ no_character n d f)

-- fewer than four digits
few_digits : (k n b : ℕ) (bs : List ℕ) (o : Option ℕ) → hex_value b ≡ o → k == 3 ≡ false → ((d : ℕ) → escape_from (hex_digits (k + 1) (n * 16 + d)) bs ≡ None)
    → escape_from (hex_digits k n) (b ∷ bs) ≡ None
few_digits k n b bs None e some more = digit_unread k n b bs e
few_digits k n b bs (Some d) e some more = digit_read k n b d bs e some ∙ more d

pub too_few : (bs : List ℕ) (k n : ℕ) → length bs + k < 4 → escape_from (hex_digits k n) bs ≡ None
unfolding escape_from
too_few [] k n few = refl
too_few (b ∷ bs) k n few = few_digits k n b bs (hex_value b) refl (ne_eqb k 3 (λ three. omega arith)) (λ d. too_few bs (k + 1) (n * 16 + d) (omega arith))

-- the first of four digits, all of them but the last, and all of them
two_read : (a b w x : ℕ) (bs : List ℕ) → hex_value a ≡ Some w → hex_value b ≡ Some x →
    escape_from (hex_digits 0 0) (a ∷ b ∷ bs) ≡ escape_from (hex_digits 2 (w * 16 + x)) bs
two_read a b w x bs e f =
    digit_read 0 0 a w (b ∷ bs) e refl ∙ digit_read 1 (0 * 16 + w) b x bs f refl ∙ ap (λ n. escape_from (hex_digits 2 n) bs) (omega arith)

three_read : (a b c w x y : ℕ) (bs : List ℕ) → hex_value a ≡ Some w → hex_value b ≡ Some x → hex_value c ≡ Some y
    → escape_from (hex_digits 0 0) (a ∷ b ∷ c ∷ bs) ≡ escape_from (hex_digits 3 (w * 256 + x * 16 + y)) bs
three_read a b c w x y bs e f g =
    two_read a b w x (c ∷ bs) e f ∙ digit_read 2 (w * 16 + x) c y bs g refl ∙ ap (λ n. escape_from (hex_digits 3 n) bs) (omega arith)

abbrev pub code_of : ℕ → ℕ → ℕ → ℕ → ℕ
code_of w x y z = w * 4096 + x * 256 + y * 16 + z

code_is : (w x y z : ℕ) → (w * 256 + x * 16 + y) * 16 + z ≡ code_of w x y z
code_is w x y z = omega arith

pub four_read : (a b c d w x y z : ℕ) (bs : List ℕ) → hex_value a ≡ Some w → hex_value b ≡ Some x → hex_value c ≡ Some y → hex_value d ≡ Some z →
    is_surrogate (code_of w x y z) ≡ false
    → escape_from (hex_digits 0 0) (a ∷ b ∷ c ∷ d ∷ bs) ≡ Some (encode_utf8 (code_of w x y z), bs)
four_read a b c d w x y z bs e f g h single =
    three_read a b c w x y (d ∷ bs) e f g ∙ last_read (w * 256 + x * 16 + y) d z bs h (ap is_surrogate (code_is w x y z) ∙ single)
    ∙ ap (λ n. Some (encode_utf8 n, bs)) (code_is w x y z)

pub surrogate_read : (a b c d w x y z : ℕ) (bs : List ℕ) → hex_value a ≡ Some w → hex_value b ≡ Some x → hex_value c ≡ Some y → hex_value d ≡ Some z →
    is_surrogate (code_of w x y z) ≡ true
    → escape_from (hex_digits 0 0) (a ∷ b ∷ c ∷ d ∷ bs) ≡ None
surrogate_read a b c d w x y z bs e f g h surrogate =
    three_read a b c w x y (d ∷ bs) e f g ∙ surrogate_unread (w * 256 + x * 16 + y) d z bs h (ap is_surrogate (code_is w x y z) ∙ surrogate)

pub second_unread : (a b w : ℕ) (bs : List ℕ) → hex_value a ≡ Some w → hex_value b ≡ None → escape_from (hex_digits 0 0) (a ∷ b ∷ bs) ≡ None
second_unread a b w bs e f = digit_read 0 0 a w (b ∷ bs) e refl ∙ digit_unread 1 (0 * 16 + w) b bs f

pub third_unread : (a b c w x : ℕ) (bs : List ℕ) → hex_value a ≡ Some w → hex_value b ≡ Some x → hex_value c ≡ None →
    escape_from (hex_digits 0 0) (a ∷ b ∷ c ∷ bs) ≡ None
third_unread a b c w x bs e f g = two_read a b w x (c ∷ bs) e f ∙ digit_unread 2 (w * 16 + x) c bs g

pub fourth_unread : (a b c d w x y : ℕ) (bs : List ℕ) → hex_value a ≡ Some w → hex_value b ≡ Some x → hex_value c ≡ Some y → hex_value d ≡ None
    → escape_from (hex_digits 0 0) (a ∷ b ∷ c ∷ d ∷ bs) ≡ None
fourth_unread a b c d w x y bs e f g h = three_read a b c w x y (d ∷ bs) e f g ∙ digit_unread 3 (w * 256 + x * 16 + y) d bs h
