-- The parts of a string, as its readers take them.
use Rattle.std.proofs.Common.{inl, inr, ◌≡◌, ◌≢◌, ℕ, ◌<◌, ◌≤◌, false, List, [], ◌∷◌, ◌++◌, length, take, drop, get_or, Option, Some, None, refl, ap, sym, ◌∙◌}
use Rattle.std.proofs.Common.{arith, append-nil, subst, ◌==◌}
use Rattle.std.proofs.lemmas.Bool.{cases_Bool, cases_eq, cases_lt, eqb-true, eq-eqb, ne_eqb}
use Rattle.std.proofs.lemmas.Option.{none-some, same_Some}
use Rattle.std.proofs.lemmas.Bool.Decides.{nat_tests}
use Rattle.std.proofs.lemmas.List.Sums.{prefix_len-le-length, prefix_len_stops}
use Rattle.std.proofs.lemmas.Str.{IsUtf8-drop, IsCharBoundary-before_ascii, IsCharBoundary-end}
use Rattle.std.specs.List.{prefix_len}
use Rattle.std.specs.Str.{IsUtf8, IsCharBoundary}
use Rattle.graphql_spec.specs.Shown.{Text}
use Rattle.graphql_spec.specs.Tokens.{characters, after_backslash, before, decode_from, decoded_string, is_source_byte}
use Rattle.juniper_tokens.specs.Strings.{backslash, is_plain, escape, first_part}
use Rattle.juniper_tokens.proofs.Escapes.{decoded_behind, part_decoded, part_shorter, before_append, before_nil, behind_small, escape_from_utf8}

other_small : (b : ℕ) → is_plain b ≡ false → b < 128
unfolding is_plain is_source_byte
other_small b e = grind (arith, nat_tests)

-- a text may be cut before what does not stand for itself
pub plain_boundary : (bs : List ℕ) → IsCharBoundary bs (prefix_len is_plain bs)
plain_boundary bs = elim (cases_lt (prefix_len is_plain bs) (length bs)) [
  | inl less ↦ IsCharBoundary-before_ascii bs (prefix_len is_plain bs) less
      (other_small (get_or bs (prefix_len is_plain bs) 0) (prefix_len_stops is_plain bs 0 less))
  | inr most ↦ let same : prefix_len is_plain bs ≡ length bs = omega (arith, prefix_len-le-length is_plain bs) in rw same (IsCharBoundary-end bs)
]

pub plain_first : (bs : List ℕ) (n : ℕ) → n ≡ prefix_len is_plain bs → 0 < n → Some (take n bs, drop n bs) ≡ first_part bs
unfolding first_part
plain_first bs n is some = rw is (rw (ne_eqb (prefix_len is_plain bs) 0 (λ none. omega arith)) refl)

pub escape_first : (bs : List ℕ) (n : ℕ) → n ≡ prefix_len is_plain bs → n ≤ 0 → escape bs ≡ first_part bs
unfolding first_part
escape_first bs n is none = rw (eq-eqb (prefix_len is_plain bs) 0 (omega arith)) refl

-- ---- what the loop that decodes keeps: what is decoded, put before what is left, is the whole

pub decodes_start : (bs : List ℕ) → before [] (decode_from characters bs) ≡ decoded_string bs
unfolding decoded_string
decodes_start bs = before_nil (decode_from characters bs)

pub decodes_on : (found more : List ℕ) (bs : List ℕ) (q : Text × Text) (o : Option Text) → length bs ≢ 0 → Some q ≡ first_part bs → more ≡ found ++ q.0
    → before found (decode_from characters bs) ≡ o → before more (decode_from characters q.1) ≡ o
decodes_on found more bs q o some e is kept =
    ap (λ x. before x (decode_from characters q.1)) is ∙ sym (before_append found q.0 (decode_from characters q.1))
    ∙ ap (before found) (ap decoded_behind e ∙ sym (part_decoded bs some)) ∙ kept

pub decodes_none : (found bs : List ℕ) (o : Option Text) → length bs ≢ 0 → None ≡ first_part bs → before found (decode_from characters bs) ≡ o → o ≡ None
unfolding before
decodes_none found bs o some e kept = sym kept ∙ ap (before found) (part_decoded bs some ∙ ap decoded_behind (sym e))

pub decodes_end : (found bs : List ℕ) (o : Option Text) → length bs ≡ 0 → before found (decode_from characters bs) ≡ o → o ≡ Some found
unfolding decode_from before
decodes_end found [] o none kept = sym kept ∙ ap Some (append-nil found)
decodes_end found (b ∷ bs) o none kept = absurd (omega (arith, none))

pub decodes_less : (bs : List ℕ) (q : Text × Text) → Some q ≡ first_part bs → length q.1 < length bs
decodes_less bs q e = part_shorter bs q (sym e)

-- what is left is a text
escape_utf8 : (bs : List ℕ) (q : Text × Text) → escape bs ≡ Some q → IsUtf8 bs → IsUtf8 q.1
unfolding escape
escape_utf8 [] q e u = absurd (none-some q e)
escape_utf8 (b ∷ bs) q e u = elim (cases_Bool (b == backslash)) [
  | inl f ↦ escape_from_utf8 bs after_backslash q (rw f at e) (behind_small b bs (omega (arith, eqb-true b backslash f)) u)
  | inr f ↦ absurd (none-some q (rw f at e))
]

part_utf8 : (bs : List ℕ) (q : Text × Text) → first_part bs ≡ Some q → IsUtf8 bs → IsUtf8 q.1
unfolding first_part
part_utf8 bs q e u = elim (cases_eq (prefix_len is_plain bs) 0) [
  | inl none ↦ escape_utf8 bs q (rw (eq-eqb (prefix_len is_plain bs) 0 none) at e) u
  | inr run ↦
      let n = prefix_len is_plain bs in
      subst (λ (x : Text × Text). IsUtf8 x.1) (same_Some (take n bs, drop n bs) q (rw (ne_eqb n 0 run) at e)) (IsUtf8-drop bs n u (plain_boundary bs))
]

pub leaves_text : (bs : List ℕ) (q : Text × Text) → Some q ≡ first_part bs → IsUtf8 bs → IsUtf8 q.1
leaves_text bs q e u = part_utf8 bs q (sym e) u
