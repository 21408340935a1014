-- What is ignored at the front of a text, and the text after it.
use Rattle.std.proofs.Common.{inl, inr, ◌≡◌, ◌≢◌, ℕ, suc, ◌+◌, ◌==◌, true, false, Some, None, List, [], ◌∷◌, ◌++◌, take, drop, refl, ap, sym, ◌∙◌, arith, subst}
use Rattle.std.proofs.lemmas.Bool.{cases_Bool, eqb-true, false≢true}
use Rattle.std.specs.List.{prefix_len}
use Rattle.graphql_spec.specs.Tokens.{is_nil, is_blank, is_line_end, is_source_byte, is_ignored, between, in_comment, first_of_mark, second_of_mark}
use Rattle.graphql_spec.specs.Tokens.{ignore_byte}
use Rattle.juniper_tokens.specs.Lexing.{order_mark, ignored_len}
use Rattle.juniper_tokens.proofs.Bytes.{at_token, source_no_end, end_blank, no_gap, begins_source, begins_no_gap, run_suc, run_zero}
use Rattle.juniper_tokens.proofs.Fronts.{IsIgnored, blank, comment, byte_order}

blank_goes : (b : ℕ) → is_blank b ≡ true → ignore_byte between b ≡ Some between
unfolding ignore_byte
blank_goes b e = rw e refl

source_goes : (b : ℕ) → is_source_byte b ≡ true → ignore_byte in_comment b ≡ Some in_comment
unfolding ignore_byte
source_goes b e = rw (source_no_end b e, e) refl

end_goes : (b : ℕ) → is_line_end b ≡ true → ignore_byte in_comment b ≡ Some between
unfolding ignore_byte
end_goes b e = rw e refl

comment_stops : (b : ℕ) → is_source_byte b ≡ false → is_line_end b ≡ false → ignore_byte in_comment b ≡ None
unfolding ignore_byte
comment_stops b e f = rw (f, e) refl

gap_stops : (b : ℕ) → is_blank b ≡ false → b == 35 ≡ false → b == 239 ≡ false → ignore_byte between b ≡ None
unfolding ignore_byte
gap_stops b e f g = rw (e, f, g) refl

-- one byte of what is ignored
past_blank : (b : ℕ) (bs tail : List ℕ) → is_blank b ≡ true → is_ignored between (b ∷ bs) tail ≡ is_ignored between bs tail
unfolding is_ignored
past_blank b bs tail e = rw (blank_goes b e, is_ignored) refl

past_hash : (bs tail : List ℕ) → is_ignored between (35 ∷ bs) tail ≡ is_ignored in_comment bs tail
unfolding is_ignored ignore_byte is_blank
past_hash bs tail = refl

past_mark : (bs tail : List ℕ) → is_ignored between (order_mark ++ bs) tail ≡ is_ignored between bs tail
unfolding is_ignored ignore_byte is_blank
past_mark bs tail = refl

past_source : (b : ℕ) (bs tail : List ℕ) → is_source_byte b ≡ true → is_ignored in_comment (b ∷ bs) tail ≡ is_ignored in_comment bs tail
unfolding is_ignored
past_source b bs tail e = rw (source_goes b e, is_ignored) refl

past_end : (b : ℕ) (bs tail : List ℕ) → is_line_end b ≡ true → is_ignored in_comment (b ∷ bs) tail ≡ is_ignored between bs tail
unfolding is_ignored
past_end b bs tail e = rw (end_goes b e, is_ignored) refl

stops_comment : (b : ℕ) (bs tail : List ℕ) → is_source_byte b ≡ false → is_line_end b ≡ false → is_ignored in_comment (b ∷ bs) tail ≡ false
unfolding is_ignored
stops_comment b bs tail e f = rw (comment_stops b e f, is_ignored) refl

stops_gap : (b : ℕ) (bs tail : List ℕ) → is_blank b ≡ false → b == 35 ≡ false → b == 239 ≡ false → is_ignored between (b ∷ bs) tail ≡ false
unfolding is_ignored
stops_gap b bs tail e f g = rw (gap_stops b e f g, is_ignored) refl

in_comment_nil : (tail : List ℕ) → is_ignored in_comment [] tail ≡ is_nil tail
unfolding is_ignored
in_comment_nil tail = refl

between_nil : (tail : List ℕ) → is_ignored between [] tail ≡ true
unfolding is_ignored
between_nil tail = refl

nil_from : (tail : List ℕ) → is_nil tail ≡ true → tail ≡ []
unfolding is_nil
nil_from [] e = refl
nil_from (b ∷ bs) e = absurd (false≢true e)

nil_is : is_nil [] ≡ true
unfolding is_nil
nil_is = refl

-- ---- what is ignored goes before a text

-- a comment's end is what ends its line, or the end of the text
comment_ends : (b : ℕ) (rest gap tail : List ℕ) → is_source_byte b ≡ false → b ∷ rest ≡ gap ++ tail → is_ignored between gap tail ≡ true →
    at_token tail ≡ true → is_ignored in_comment gap tail ≡ true
unfolding at_token
comment_ends b rest [] [] e is ign starts = absurd (cc)
comment_ends b rest [] (c ∷ tail) e is ign starts =
    let same : b ≡ c = cc in
    absurd (false≢true (sym e ∙ ap is_source_byte same ∙ begins_source c starts))
comment_ends b rest (c ∷ gap) tail e is ign starts =
    let same : c ≡ b = cc in
    let none : is_source_byte c ≡ false = ap is_source_byte same ∙ e in
    elim (cases_Bool (is_line_end c)) [
      | inl ends ↦ past_end c gap tail ends ∙ sym (past_blank c gap tail (end_blank c ends)) ∙ ign
      | inr goes ↦ let n = no_gap c none goes in absurd (false≢true (sym (stops_gap c gap tail n.0 n.1 n.2) ∙ ign))
    ]

comment_joins : (rest gap tail : List ℕ) → drop (prefix_len is_source_byte rest) rest ≡ gap ++ tail → is_ignored between gap tail ≡ true → at_token tail ≡ true
    → is_ignored in_comment (take (prefix_len is_source_byte rest) rest ++ gap) tail ≡ true
comment_joins [] [] [] is ign starts = in_comment_nil [] ∙ nil_is
comment_joins [] [] (c ∷ tail) is ign starts = absurd (cc)
comment_joins [] (c ∷ gap) tail is ign starts = absurd (cc)
comment_joins (b ∷ rest) gap tail is ign starts = elim (cases_Bool (is_source_byte b)) [
  | inl e ↦
      let run = run_suc is_source_byte b rest e in
      let left : drop (prefix_len is_source_byte rest) rest ≡ gap ++ tail = rw run at is in
      rw run (past_source b (take (prefix_len is_source_byte rest) rest ++ gap) tail e ∙ comment_joins rest gap tail left ign starts)
  | inr e ↦
      let run = run_zero is_source_byte b rest e in
      let left : b ∷ rest ≡ gap ++ tail = rw run at is in
      rw run (comment_ends b rest gap tail e left ign starts)
]

pub joins : (bs : List ℕ) (n : ℕ) → IsIgnored bs n → (gap tail : List ℕ) → drop n bs ≡ gap ++ tail → is_ignored between gap tail ≡ true → at_token tail ≡ true
    → is_ignored between (take n bs ++ gap) tail ≡ true
joins bs n (blank b rest is one e) gap tail left ign starts = rw (is, one) (past_blank b gap tail e ∙ ign)
joins bs n (comment rest is run) gap tail left ign starts =
    let count : n ≡ suc (prefix_len is_source_byte rest) = omega (arith, run) in
    let more : drop (prefix_len is_source_byte rest) rest ≡ gap ++ tail = rw (is, count) at left in
    rw (is, count) (past_hash (take (prefix_len is_source_byte rest) rest ++ gap) tail ∙ comment_joins rest gap tail more ign starts)
joins bs n (byte_order rest is three) gap tail left ign starts = rw (is, three) (past_mark gap tail ∙ ign)

-- ---- what is ignored goes off a gap

-- what is left of a gap
pub record Left (bs gap tail : List ℕ) (n : ℕ) : Type 0 where
  pub gap_left : List ℕ
  pub front : gap ≡ take n bs ++ gap_left
  pub back : drop n bs ≡ gap_left ++ tail
  pub ignored : is_ignored between gap_left tail ≡ true

comment_splits : (gap rest tail : List ℕ) → rest ≡ gap ++ tail → is_ignored in_comment gap tail ≡ true → Left rest gap tail (prefix_len is_source_byte rest)
comment_splits [] rest tail is ign =
    let none : tail ≡ [] = nil_from tail (sym (in_comment_nil tail) ∙ ign) in
    let empty : rest ≡ [] = is ∙ none in
    rw (empty, none) (record { gap_left = []; front = refl; back = refl; ignored = between_nil [] })
comment_splits (c ∷ gap) rest tail is ign = elim (cases_Bool (is_source_byte c)) [
  | inl e ↦
      let run = run_suc is_source_byte c (gap ++ tail) e in
      let more = comment_splits gap (gap ++ tail) tail refl (sym (past_source c gap tail e) ∙ ign) in
      rw (is, run) (record { gap_left = more.gap_left; front = ap (λ g. c ∷ g) more.front; back = more.back; ignored = more.ignored })
  | inr e ↦ elim (cases_Bool (is_line_end c)) [
    | inl ends ↦
        let run = run_zero is_source_byte c (gap ++ tail) e in
        rw (is, run) (record {
          gap_left = c ∷ gap;
          front = refl;
          back = refl;
          ignored = past_blank c gap tail (end_blank c ends) ∙ sym (past_end c gap tail ends) ∙ ign;
        })
    | inr goes ↦ absurd (false≢true (sym (stops_comment c gap tail e goes) ∙ ign))
  ]
]

no_blank_tail : (b : ℕ) (rest : List ℕ) → at_token (b ∷ rest) ≡ true → (is_blank b ≡ false) × (b == 35 ≡ false) × (b == 239 ≡ false)
unfolding at_token
no_blank_tail b rest starts = begins_no_gap b starts

-- a gap that begins with U+FEFF holds all of it
third_goes : (bs tail : List ℕ) → is_ignored first_of_mark (187 ∷ 191 ∷ bs) tail ≡ is_ignored between bs tail
unfolding is_ignored ignore_byte
third_goes bs tail = refl

third_waits : (tail : List ℕ) → is_ignored first_of_mark (187 ∷ []) tail ≡ false
unfolding is_ignored ignore_byte
third_waits tail = refl

mark_second : (gap rest tail : List ℕ) → 187 ∷ 191 ∷ rest ≡ gap ++ tail → is_ignored first_of_mark gap tail ≡ true
    → (h : List ℕ) × (gap ≡ 187 ∷ 191 ∷ h) × (rest ≡ h ++ tail) × (is_ignored between h tail ≡ true)
unfolding is_ignored
mark_second [] rest tail is ign = absurd (false≢true ign)
mark_second (c ∷ []) rest tail is ign =
    let first : c ≡ 187 = cc in
    absurd (false≢true (sym (third_waits tail) ∙ ap (λ x. is_ignored first_of_mark (x ∷ []) tail) (sym first) ∙ ign))
mark_second (c ∷ d ∷ h) rest tail is ign =
    let first : c ≡ 187 = cc in
    let second : d ≡ 191 = cc in
    let back : rest ≡ h ++ tail = cc in
    let whole : c ∷ d ∷ h ≡ 187 ∷ 191 ∷ h = cc in
    (h, whole, back, sym (third_goes h tail) ∙ ap (λ g. is_ignored first_of_mark g tail) (sym whole) ∙ ign)

first_goes : (bs tail : List ℕ) → is_ignored between (239 ∷ bs) tail ≡ is_ignored first_of_mark bs tail
unfolding is_ignored ignore_byte is_blank
first_goes bs tail = refl

mark_splits : (gap rest tail : List ℕ) → order_mark ++ rest ≡ gap ++ tail → is_ignored between gap tail ≡ true → at_token tail ≡ true →
    Left (order_mark ++ rest) gap tail 3
mark_splits [] rest tail is ign starts =
    let h = no_blank_tail 239 (187 ∷ 191 ∷ rest) (ap at_token is ∙ starts) in absurd (false≢true (sym h.2))
mark_splits (c ∷ gap) rest tail is ign starts =
    let first : c ≡ 239 = cc in
    let back : 187 ∷ 191 ∷ rest ≡ gap ++ tail = cc in
    let more = mark_second gap rest tail back (sym (first_goes gap tail) ∙ ap (λ x. is_ignored between (x ∷ gap) tail) (sym first) ∙ ign) in
    record { gap_left = more.0; front = ap (λ x. x ∷ gap) first ∙ ap (λ g. 239 ∷ g) more.1; back = more.2; ignored = more.3 }

pub splits : (bs : List ℕ) (n : ℕ) → IsIgnored bs n → (gap tail : List ℕ) → bs ≡ gap ++ tail → is_ignored between gap tail ≡ true → at_token tail ≡ true →
    Left bs gap tail n
splits bs n (blank b rest is one e) [] tail whole ign starts =
    let h = no_blank_tail b rest (ap at_token (sym is ∙ whole) ∙ starts) in absurd (false≢true (sym h.0 ∙ e))
splits bs n (blank b rest is one e) (c ∷ gap) tail whole ign starts =
    let same : b ≡ c = cc in
    let blank_c : is_blank c ≡ true = ap is_blank (sym same) ∙ e in
    rw (whole, one) (record { gap_left = gap; front = refl; back = refl; ignored = sym (past_blank c gap tail blank_c) ∙ ign })
splits bs n (comment rest is run) [] tail whole ign starts =
    let h = no_blank_tail 35 rest (ap at_token (sym is ∙ whole) ∙ starts) in absurd (false≢true (sym h.1))
splits bs n (comment rest is run) (c ∷ gap) tail whole ign starts =
    let same : c ≡ 35 = cc in
    let back : rest ≡ gap ++ tail = cc in
    let count : n ≡ suc (prefix_len is_source_byte rest) = omega (arith, run) in
    let within : is_ignored in_comment gap tail ≡ true = sym (past_hash gap tail) ∙ ap (λ x. is_ignored between (x ∷ gap) tail) (sym same) ∙ ign in
    let more = comment_splits gap rest tail back within in
    rw (is, count, same) (record { gap_left = more.gap_left; front = ap (λ g. 35 ∷ g) more.front; back = more.back; ignored = more.ignored })
splits bs n (byte_order rest is three) gap tail whole ign starts = rw (is, three) (mark_splits gap rest tail (sym is ∙ whole) ign starts)

-- nothing is ignored where no gap is seen
first_stops : (c : ℕ) (gap tail : List ℕ) → c == 187 ≡ false → is_ignored first_of_mark (c ∷ gap) tail ≡ false
unfolding is_ignored ignore_byte
first_stops c gap tail e = let stops : ignore_byte first_of_mark c ≡ None = rw e refl in rw (stops, is_ignored) refl

second_stops : (c : ℕ) (gap tail : List ℕ) → c == 191 ≡ false → is_ignored second_of_mark (c ∷ gap) tail ≡ false
unfolding is_ignored ignore_byte
second_stops c gap tail e = let stops : ignore_byte second_of_mark c ≡ None = rw e refl in rw (stops, is_ignored) refl

second_goes : (gap tail : List ℕ) → is_ignored first_of_mark (187 ∷ gap) tail ≡ is_ignored second_of_mark gap tail
unfolding is_ignored ignore_byte
second_goes gap tail = refl

marked_last : (gap tail : List ℕ) → is_ignored second_of_mark gap tail ≡ true → (h : List ℕ) × (gap ≡ 191 ∷ h)
unfolding is_ignored
marked_last [] tail ign = absurd (false≢true ign)
marked_last (c ∷ gap) tail ign = elim (cases_Bool (c == 191)) [
  | inl e ↦ (gap, ap (λ x. x ∷ gap) (eqb-true c 191 e))
  | inr e ↦ absurd (false≢true (sym (second_stops c gap tail e) ∙ ign))
]

marked : (gap tail : List ℕ) → is_ignored first_of_mark gap tail ≡ true → (h : List ℕ) × (gap ≡ 187 ∷ 191 ∷ h)
unfolding is_ignored
marked [] tail ign = absurd (false≢true ign)
marked (c ∷ gap) tail ign = elim (cases_Bool (c == 187)) [
  | inl e ↦
      let same = eqb-true c 187 e in
      let more = marked_last gap tail (sym (second_goes gap tail) ∙ ap (λ x. is_ignored first_of_mark (x ∷ gap) tail) (sym same) ∙ ign) in
      (more.0, ap (λ x. x ∷ gap) same ∙ ap (λ g. 187 ∷ g) more.1)
  | inr e ↦ absurd (false≢true (sym (first_stops c gap tail e) ∙ ign))
]

len_of_mark : (bs : List ℕ) → ignored_len (order_mark ++ bs) ≡ 3
unfolding ignored_len is_blank
len_of_mark bs = refl

pub seen : (c : ℕ) (gap tail : List ℕ) → is_ignored between (c ∷ gap) tail ≡ true → ignored_len ((c ∷ gap) ++ tail) ≢ 0
unfolding ignored_len
seen c gap tail ign none = elim (cases_Bool (is_blank c)) [
  | inl e ↦ let one : 1 ≡ 0 = rw e at none in absurd (omega (arith, one))
  | inr e ↦ elim (cases_Bool (c == 35)) [
    | inl f ↦ let some : prefix_len is_source_byte (gap ++ tail) + 1 ≡ 0 = rw (e, f) at none in absurd (omega (arith, some))
    | inr f ↦ elim (cases_Bool (c == 239)) [
      | inl g ↦
          let first = eqb-true c 239 g in
          let more = marked gap tail (sym (first_goes gap tail) ∙ ap (λ x. is_ignored between (x ∷ gap) tail) (sym first) ∙ ign) in
          let three : ignored_len (order_mark ++ (more.0 ++ tail)) ≡ 0 = subst (λ x. ignored_len (x ++ tail) ≡ 0)
          (ap (λ x. x ∷ gap) first ∙ ap (λ g. 239 ∷ g) more.1) none in
          absurd (omega (arith, three, len_of_mark (more.0 ++ tail)))
      | inr g ↦ absurd (false≢true (sym (stops_gap c gap tail e f g) ∙ ign))
    ]
  ]
]
