-- The ranges of a text, part by part, and the weights of its parameters.
use Rattle.std.proofs.Common.{◌≡◌, ℕ, ◌==◌, ◌<◌, nat_lt, true, false, Option, Some, None, List, [], ◌∷◌, ◌++◌, length, if◌then◌else◌}
use Rattle.std.proofs.Common.{inl, inr, refl, sym, ap, ◌∙◌, append_assoc, append-nil, arith}
use Rattle.std.proofs.lemmas.Bool.{cases_Bool}
use Rattle.std.proofs.lemmas.Bool.Decides.{nat_tests}
use Rattle.std.proofs.lemmas.List.Sums.{AllPass-from_list_all, list_all-from_AllPass}
use Rattle.std.specs.List.{after_first, before_first, cons_option, position_or_len}
use Rattle.std.specs.Option.{option_to_list}
use Rattle.http_header.specs.FieldValue.{FieldValue, IsVisibleAscii, is_visible_text}
use Rattle.http_header.specs.Token.{is_visible_or_blank}
use Rattle.juniper_http.specs.Accept.{Ranged, cut_at, field_ranges, first_or_full, range_of, ranges_in, ranges_of, weight_by, weight_given, weights_in}
use Rattle.juniper_http.proofs.Pieces.{pieces_step}

cons_list : {A : Type 0} (o : Option A) (xs : List A) → cons_option o xs ≡ option_to_list o ++ xs
cons_list None xs = refl
cons_list (Some x) xs = refl

-- one part more
pub next_part : (made next whole : List Ranged) (rest part after : List ℕ) → part ≡ before_first (λ b. b == 44) rest → after ≡ after_first (λ b. b == 44) rest
    → next ≡ made ++ option_to_list (range_of part) → made ++ ranges_in rest ≡ whole → next ++ ranges_in after ≡ whole
next_part made next whole rest part after is_part is_after is_next so_far =
    let step : ranges_in rest ≡ option_to_list (range_of part) ++ ranges_in after
    = rw is_part (rw is_after (pieces_step range_of (λ b. b == 44) rest refl
    ∙ cons_list (range_of (before_first (λ b. b == 44) rest)) (ranges_in (after_first (λ b. b == 44) rest)))) in
    ap (λ l. l ++ ranges_in after) is_next ∙ append_assoc made (option_to_list (range_of part)) (ranges_in after) ∙ ap (λ l. made ++ l) (sym step) ∙ so_far

pub no_part : (made whole : List Ranged) (rest : List ℕ) → length rest ≡ 0 → made ++ ranges_in rest ≡ whole → made ≡ whole
no_part made whole [] e so_far = sym (append-nil made) ∙ so_far
no_part made whole (b ∷ rest) e so_far = absurd (omega (arith, e))

-- a line that is visible ASCII, and one that is not
pub visible_line : (v : FieldValue) (text : List ℕ) → IsVisibleAscii v.bytes → text ≡ v.bytes → ranges_in text ≡ field_ranges v
visible_line v text visible e =
    rw e (sym (ap (λ b. if b then ranges_in v.bytes else []) (list_all-from_AllPass is_visible_or_blank v.bytes visible)))

pub hidden_line : (v : FieldValue) → ¬ (IsVisibleAscii v.bytes) → [] ≡ field_ranges v
hidden_line v hidden =
    elim (cases_Bool (is_visible_text v.bytes)) [
      | inl shown ↦ absurd (hidden (AllPass-from_list_all is_visible_or_blank v.bytes shown))
      | inr not_shown ↦ sym (ap (λ b. if b then ranges_in v.bytes else []) not_shown)
    ]

-- one line more
pub next_line : (made next whole : List Ranged) (left rest : List FieldValue) (v : FieldValue) → left ≡ v ∷ rest
    → next ≡ made ++ field_ranges v → made ++ ranges_of left ≡ whole → next ++ ranges_of rest ≡ whole
next_line made next whole left rest v is_left is_next so_far =
    ap (λ l. l ++ ranges_of rest) is_next ∙ append_assoc made (field_ranges v) (ranges_of rest) ∙ sym (ap (λ l. made ++ ranges_of l) is_left) ∙ so_far

pub no_line : (made whole : List Ranged) (left : List FieldValue) → left ≡ [] → made ++ ranges_of left ≡ whole → made ≡ whole
no_line made whole left e so_far = sym (append-nil made) ∙ sym (ap (λ l. made ++ ranges_of l) e) ∙ so_far

weights_step : (rest part after : List ℕ) → part ≡ before_first (λ b. b == 59) rest → after ≡ after_first (λ b. b == 59) rest
    → weights_in rest ≡ cons_option (weight_given part) (weights_in after)
weights_step rest part after is_part is_after = rw is_part (rw is_after (pieces_step weight_given (λ b. b == 59) rest refl))

-- a parameter that gives no weight
pub weighs_next : (rest part after parameters : List ℕ) (given : Option ℕ)
    → part ≡ before_first (λ b. b == 59) rest → after ≡ after_first (λ b. b == 59) rest
    → given ≡ weight_given part → given ≡ None → weights_in rest ≡ weights_in parameters → weights_in after ≡ weights_in parameters
weighs_next rest part after parameters given is_part is_after is_given none so_far =
    sym (ap (λ o. cons_option o (weights_in after)) (sym is_given ∙ none)) ∙ sym (weights_step rest part after is_part is_after) ∙ so_far

-- the first that gives one
pub weighs_here : (rest part after parameters : List ℕ) (given : Option ℕ) (w : ℕ)
    → part ≡ before_first (λ b. b == 59) rest → after ≡ after_first (λ b. b == 59) rest
    → given ≡ weight_given part → given ≡ Some w → weights_in rest ≡ weights_in parameters → w ≡ weight_by parameters
weighs_here rest part after parameters given w is_part is_after is_given some so_far =
    sym (ap (λ o. first_or_full (cons_option o (weights_in after))) (sym is_given ∙ some))
    ∙ sym (ap first_or_full (weights_step rest part after is_part is_after)) ∙ ap first_or_full so_far

pub weighs_full : (rest parameters : List ℕ) → length rest ≡ 0 → weights_in rest ≡ weights_in parameters → 1000 ≡ weight_by parameters
weighs_full [] parameters e so_far = ap first_or_full so_far
weighs_full (b ∷ rest) parameters e so_far = absurd (omega (arith, e))

-- what `split_once` gives
pub cut_some : (c : ℕ) (text before after : List ℕ) → before ≡ before_first (λ b. b == c) text → after ≡ after_first (λ b. b == c) text
    → position_or_len (λ b. b == c) text < length text → Some (before, after) ≡ cut_at c text
cut_some c text before after is_before is_after l =
    let test : nat_lt (position_or_len (λ b. b == c) text) (length text) ≡ true = grind (arith, nat_tests) in
    rw is_before (rw is_after (rw test refl))

pub cut_none : (c : ℕ) (text : List ℕ) → position_or_len (λ b. b == c) text ≡ length text → None ≡ cut_at c text
cut_none c text e =
    let test : nat_lt (position_or_len (λ b. b == c) text) (length text) ≡ false = grind (arith, nat_tests) in
    rw test refl
