-- A text is written run by run: an escape ends the run of bytes that stand for themselves.
use Rattle.std.proofs.Common.{◌≡◌, ℕ, ◌+◌, ◌-◌, ◌<◌, ◌≤◌, true, false, List, [], ◌∷◌, ◌++◌, length, get_or, take, drop, length-drop, get_or-drop, append_assoc}
use Rattle.std.proofs.Common.{codes, ◌≢◌, ◌^◌, nat_lt, ne_eqb, arith}
use Rattle.std.specs.List.{flat_map}
use Rattle.std.proofs.lemmas.Bool.Decides.{nat_tests}
use Rattle.std.proofs.lemmas.List.{drop_more, take_more}
use Rattle.std.proofs.lemmas.Fmt.{hex_byte}
use Rattle.std.specs.Fmt.{digits, padded_integral, format_spec}
use Rattle.graphql_spec.specs.Display.{written_byte, hex_digit}
use Rattle.juniper_syntax.specs.Escapes.{is_escaped}

-- only ASCII bytes are escaped
pub escaped_ascii : (b : ℕ) → is_escaped b ≡ true → b < 128
escaped_ascii b h = grind (arith, nat_tests)

-- a byte that is not escaped stands for itself
pub written_plain : (b : ℕ) → is_escaped b ≡ false → written_byte b ≡ b ∷ []
unfolding written_byte
written_plain b h = grind (arith, nat_tests)

back_up : (a b : ℕ) → a ≤ b → a + (b - a) ≡ b
back_up a b h = omega arith

-- a byte that stands for itself joins the run
pub keep_byte : (s done all : List ℕ) (start i : ℕ) → start ≤ i → i < length s → is_escaped (get_or s i 0) ≡ false
    → done ++ (take (i - start) (drop start s) ++ flat_map written_byte (drop i s)) ≡ all
    → done ++ (take (i + 1 - start) (drop start s) ++ flat_map written_byte (drop (i + 1) s)) ≡ all
keep_byte s done all start i low within plain whole =
    let at : get_or (drop start s) (i - start) 0 ≡ get_or s i 0 = rw (get_or-drop start s (i - start) 0, back_up start i low) in
    let more = take_more (drop start s) (i - start) 0 (omega (arith, length-drop start s)) in
    let next : i + 1 - start ≡ i - start + 1 = omega arith in
    rw (next, more, at) (simp append_assoc (rw (drop_more s i 0 within, written_plain (get_or s i 0) plain) at whole))

-- an escape ends the run
pub escape_byte : (s done all : List ℕ) (start i : ℕ) → i < length s
    → done ++ (take (i - start) (drop start s) ++ flat_map written_byte (drop i s)) ≡ all
    → (done ++ (take (i - start) (drop start s) ++ written_byte (get_or s i 0)))
    ++ (take (i + 1 - (i + 1)) (drop (i + 1) s) ++ flat_map written_byte (drop (i + 1) s)) ≡ all
escape_byte s done all start i within whole =
    let zero : i + 1 - (i + 1) ≡ 0 = omega arith in
    let read = rw (drop_more s i 0 within) at whole in
    rw zero (simp append_assoc read)

-- a control character without a letter of its own is written in hex
pub control_text : (b : ℕ) → is_escaped b ≡ true → b ≢ 34 → b ≢ 92 → b ≢ 8 → b ≢ 12 → b ≢ 10 → b ≢ 13 → b ≢ 9
    → codes "\\u00" ++ padded_integral (format_spec 32 0 4 2 (2 ^ 64 - 1)) false [] (digits 16 true b) ≡ written_byte b
unfolding written_byte hex_digit
control_text b h quote backslash backspace feed line return tab =
    let below : nat_lt b 32 ≡ true = grind (arith, nat_tests) in
    let low : b < 256 = omega (arith, escaped_ascii b h) in
    rw (
      hex_byte true b low,
      ne_eqb b 34 quote,
      ne_eqb b 92 backslash,
      ne_eqb b 8 backspace,
      ne_eqb b 12 feed,
      ne_eqb b 10 line,
      ne_eqb b 13 return,
      ne_eqb b 9 tab,
      below,
    )
