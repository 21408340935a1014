-- Where a string ends.
use Rattle.std.proofs.Common.{inl, inr, ◌≡◌, ◌≢◌, ℕ, suc, ◌+◌, ◌-◌, ◌<◌, ◌≤◌, ◌==◌, nat_eq, Bool, true, false, IsSome, List, [], ◌∷◌, ◌++◌, length, drop}
use Rattle.std.proofs.Common.{Option, Some, None, is_some, option_map, MatchOption, Bor, refl, ap, sym, ◌∙◌, arith, subst, length-append}
use Rattle.std.proofs.lemmas.Bool.{cases_Bool, cases_eq, eqb-true, eq-eqb, ne_eqb, false≢true, not-true, and_parts, or_parts}
use Rattle.std.proofs.lemmas.Option.{none-some, same_Some}
use Rattle.std.specs.List.{prefix_len, starts_with}
use Rattle.graphql_spec.specs.Shown.{Text}
use Rattle.graphql_spec.specs.Tokens.{Mode, characters, after_backslash, hex_digits, read_byte, before, decode_from, is_source_byte, quote}
use Rattle.juniper_tokens.specs.Strings.{backslash, is_plain, join, escape_from, escape, first_part, three_quotes, behind_quote, closes, closing, string_len}
use Rattle.juniper_tokens.specs.Strings.{without_last_quote, without_quotes}
use Rattle.juniper_tokens.proofs.Bytes.{run_suc, run_zero}
use Rattle.juniper_tokens.proofs.Escapes.{IsInside, read_plain, read_other, read_backslash, not_plain, escape_stops, escape_goes, decode_goes}

pub closing_ends : (m : Mode) (b : ℕ) (bs : List ℕ) → closes m b ≡ true → closing m (b ∷ bs) ≡ Some (b ∷ bs)
unfolding closing
closing_ends m b bs e = rw e refl

closing_stops : (m : Mode) (b : ℕ) (bs : List ℕ) → closes m b ≡ false → read_byte m b ≡ None → closing m (b ∷ bs) ≡ None
unfolding closing
closing_stops m b bs e f = rw (e, f) refl

pub closing_goes : (m : Mode) (b : ℕ) (bs : List ℕ) (p : Mode × Text) → closes m b ≡ false → read_byte m b ≡ Some p → closing m (b ∷ bs) ≡ closing p.0 bs
unfolding closing
closing_goes m b bs p e f = rw (e, f) refl

inside_open : (m : Mode) → IsInside m → (b : ℕ) → closes m b ≡ false
inside_open characters inside b = absurd inside
inside_open after_backslash inside b = refl
inside_open (hex_digits k n) inside b = refl

-- ---- part by part

-- the string ends in what is left
abbrev pub closing_left : Option (Text × Text) → Option Text
closing_left None = None
closing_left (Some q) = closing characters q.1

left_joined : (s : Text) (o : Option (Text × Text)) → closing_left o ≡ closing_left (join s o)
left_joined s None = refl
left_joined s (Some q) = refl

byte_closing : (m : Mode) → IsInside m → (b : ℕ) (bs : List ℕ) (o : Option (Mode × Text)) → read_byte m b ≡ o →
    ((k : Mode) → closing k bs ≡ closing_left (escape_from k bs))
    → closing m (b ∷ bs) ≡ closing_left (escape_from m (b ∷ bs))
byte_closing m inside b bs None e more = closing_stops m b bs (inside_open m inside b) e ∙ sym (ap closing_left (escape_stops m inside b bs e))
byte_closing m inside b bs (Some p) e more =
    closing_goes m b bs p (inside_open m inside b) e ∙ more p.0 ∙ left_joined p.1 (escape_from p.0 bs) ∙ sym (ap closing_left (escape_goes m inside b bs p e))

escape_closing : (bs : List ℕ) (m : Mode) → closing m bs ≡ closing_left (escape_from m bs)
unfolding escape_from closing
escape_closing bs characters = refl
escape_closing [] after_backslash = refl
escape_closing [] (hex_digits k n) = refl
escape_closing (b ∷ bs) after_backslash = byte_closing after_backslash tt b bs (read_byte after_backslash b) refl (λ m. escape_closing bs m)
escape_closing (b ∷ bs) (hex_digits k n) = byte_closing (hex_digits k n) tt b bs (read_byte (hex_digits k n) b) refl (λ m. escape_closing bs m)

plain_open : (b : ℕ) → is_plain b ≡ true → b == quote ≡ false
unfolding is_plain
plain_open b e = (or_parts (b == quote) (b == backslash) (not-true _ (and_parts (is_source_byte b) _ e).1)).0

plain_closing : (bs : List ℕ) → closing characters bs ≡ closing characters (drop (prefix_len is_plain bs) bs)
plain_closing [] = refl
plain_closing (b ∷ bs) = elim (cases_Bool (is_plain b)) [
  | inl e ↦ rw (run_suc is_plain b bs e) (closing_goes characters b bs (characters, b ∷ []) (plain_open b e) (read_plain b e) ∙ plain_closing bs)
  | inr e ↦ rw (run_zero is_plain b bs e) refl
]

front_closing : (b : ℕ) (bs : List ℕ) → is_plain b ≡ false → b == quote ≡ false → closing characters (b ∷ bs) ≡ closing_left (escape (b ∷ bs))
unfolding escape
front_closing b bs e goes = elim (cases_Bool (b == backslash)) [
  | inl f ↦ rw f (closing_goes characters b bs (after_backslash, []) goes (read_backslash b f) ∙ escape_closing bs after_backslash)
  | inr f ↦ rw f (closing_stops characters b bs goes (read_other b e f))
]

no_quote : (b : ℕ) (bs : List ℕ) → behind_quote (b ∷ bs) ≡ None → b == quote ≡ false
unfolding behind_quote
no_quote b bs e = elim (cases_Bool (b == quote)) [
  | inl f ↦ absurd (none-some bs (sym e ∙ rw f refl))
  | inr f ↦ f
]

pub part_closing : (bs : List ℕ) → length bs ≢ 0 → behind_quote bs ≡ None → closing characters bs ≡ closing_left (first_part bs)
unfolding first_part
part_closing [] some goes = absurd (some refl)
part_closing (b ∷ bs) some goes = elim (cases_eq (prefix_len is_plain (b ∷ bs)) 0) [
  | inl none ↦ rw (eq-eqb (prefix_len is_plain (b ∷ bs)) 0 none) (front_closing b bs (not_plain b bs none) (no_quote b bs goes))
  | inr run ↦ rw (ne_eqb (prefix_len is_plain (b ∷ bs)) 0 run) (plain_closing (b ∷ bs))
]

pub quote_closing : (bs rest : List ℕ) → Some rest ≡ behind_quote bs → closing characters bs ≡ Some bs
unfolding behind_quote
quote_closing [] rest e = absurd (none-some rest (sym e))
quote_closing (b ∷ bs) rest e = elim (cases_Bool (b == quote)) [
  | inl f ↦ closing_ends characters b bs f
  | inr f ↦ absurd (none-some rest (sym (e ∙ rw f refl)))
]

pub nothing_closing : (m : Mode) (bs : List ℕ) → length bs ≡ 0 → closing m bs ≡ None
unfolding closing
nothing_closing m [] none = refl
nothing_closing m (b ∷ bs) none = absurd (omega (arith, none))

-- ---- what stands before the quote that ends a string

pub record IsClosed (m : Mode) (bs rest : List ℕ) : Type 0 where
  pub raw : Text
  pub more : List ℕ
  pub ends : rest ≡ quote ∷ more
  pub whole : bs ≡ raw ++ rest
  pub decodes : IsSome (decode_from m raw)

some_before : (s : Text) (o : Option Text) → IsSome o → IsSome (before s o)
unfolding before
some_before s None h = absurd (false≢true h)
some_before s (Some t) h = refl

nothing_decodes : IsSome (decode_from characters [])
unfolding decode_from
nothing_decodes = refl

ends_here : (m : Mode) (b : ℕ) (bs rest : List ℕ) → closes m b ≡ true → closing m (b ∷ bs) ≡ Some rest → IsClosed m (b ∷ bs) rest
ends_here characters b bs rest e is =
    let same : b ∷ bs ≡ rest = same_Some (b ∷ bs) rest (sym (closing_ends characters b bs e) ∙ is) in
    record { raw = []; more = bs; ends = sym same ∙ ap (λ x. x ∷ bs) (eqb-true b quote e); whole = same; decodes = nothing_decodes }
ends_here after_backslash b bs rest e is = absurd (false≢true e)
ends_here (hex_digits k n) b bs rest e is = absurd (false≢true e)

goes_past : (m : Mode) (b : ℕ) (bs rest : List ℕ) (o : Option (Mode × Text)) → closes m b ≡ false → read_byte m b ≡ o → closing m (b ∷ bs) ≡ Some rest
    → ((k : Mode) → closing k bs ≡ Some rest → IsClosed k bs rest) → IsClosed m (b ∷ bs) rest
goes_past m b bs rest None e f is more = absurd (none-some rest (sym (closing_stops m b bs e f) ∙ is))
goes_past m b bs rest (Some p) e f is more =
    let h = more p.0 (sym (closing_goes m b bs p e f) ∙ is) in
    record {
      raw = b ∷ h.raw;
      more = h.more;
      ends = h.ends;
      whole = ap (λ x. b ∷ x) h.whole;
      decodes = subst (λ o. IsSome o) (sym (decode_goes m b h.raw p f)) (some_before p.1 (decode_from p.0 h.raw) h.decodes);
    }

pub closing_is : (bs : List ℕ) (m : Mode) (rest : List ℕ) → closing m bs ≡ Some rest → IsClosed m bs rest
unfolding closing
closing_is [] m rest is = absurd (none-some rest is)
closing_is (b ∷ bs) m rest is = elim (cases_Bool (closes m b)) [
  | inl e ↦ ends_here m b bs rest e is
  | inr e ↦ goes_past m b bs rest (read_byte m b) e refl is (λ k. closing_is bs k rest)
]

pub closing_bounds : (bs rest : List ℕ) → closing characters bs ≡ Some rest → (0 < length rest) × (length rest ≤ length bs)
closing_bounds bs rest is =
    let h = closing_is bs characters rest is in
    (omega (arith, ap length h.ends), omega (arith, ap length h.whole, length-append h.raw rest))

-- ---- what the readers of a string's quotes answer

pub behind_is : (bs : List ℕ) (r : Option (Bor (List ℕ))) → MatchOption r ((rest : List ℕ) → bs ≢ 34 ∷ rest) (λ x. bs ≡ 34 ∷ x.now) →
    option_map (λ (x : Bor (List ℕ)). x.now) r ≡ behind_quote bs
unfolding behind_quote
behind_is [] None h = refl
behind_is (b ∷ bs) None h = elim (cases_Bool (b == quote)) [
  | inl e ↦ absurd (h bs (ap (λ x. x ∷ bs) (eqb-true b quote e)))
  | inr e ↦ rw e refl
]
behind_is bs (Some x) h = rw h refl

mapped_some : {A B : Type 0} (f : A → B) (r : Option A) → is_some (option_map f r) ≡ is_some r
mapped_some f None = refl
mapped_some f (Some x) = refl

-- whether a quote stands at the front, from what is found behind it
pub found_quote : (bs : List ℕ) (r : Option (Bor (List ℕ))) (b : Bool) → option_map (λ (x : Bor (List ℕ)). x.now) r ≡ behind_quote bs → b ≡ is_some r →
    is_some (behind_quote bs) ≡ b
found_quote bs r b e f = ap (λ o. is_some o) (sym e) ∙ mapped_some (λ (x : Bor (List ℕ)). x.now) r ∙ sym f

quote_from : (bs : List ℕ) (o : Option Text) → behind_quote bs ≡ o → is_some o ≡ true → closing characters bs ≡ Some bs
quote_from bs None e some = absurd (false≢true some)
quote_from bs (Some rest) e some = quote_closing bs rest (sym e)

no_quote_from : (o : Option Text) → is_some o ≡ false → o ≡ None
no_quote_from None none = refl
no_quote_from (Some t) none = absurd (false≢true (sym none))

pub closes_here : (bs : List ℕ) → is_some (behind_quote bs) ≡ true → closing characters bs ≡ Some bs
closes_here bs e = quote_from bs (behind_quote bs) refl e

pub closes_later : (bs : List ℕ) (q : Text × Text) → length bs ≢ 0 → is_some (behind_quote bs) ≡ false → Some q ≡ first_part bs →
    closing characters q.1 ≡ closing characters bs
closes_later bs q some none e = sym (part_closing bs some (no_quote_from (behind_quote bs) none) ∙ ap closing_left (sym e))

pub closes_nowhere : (bs : List ℕ) → length bs ≢ 0 → is_some (behind_quote bs) ≡ false → None ≡ first_part bs → closing characters bs ≡ None
closes_nowhere bs some none e = part_closing bs some (no_quote_from (behind_quote bs) none) ∙ ap closing_left (sym e)

-- the length of a string token
pub three_len : (bs : List ℕ) → true ≡ starts_with nat_eq bs three_quotes → 0 ≡ string_len bs
unfolding string_len
three_len bs e = rw (← e) refl

pub none_len : (bs : List ℕ) → false ≡ starts_with nat_eq bs three_quotes → None ≡ behind_quote bs → 0 ≡ string_len bs
unfolding string_len
none_len bs e f = rw (← e, ← f) refl

pub open_len : (bs behind : List ℕ) → false ≡ starts_with nat_eq bs three_quotes → Some behind ≡ behind_quote bs → closing characters behind ≡ None →
    0 ≡ string_len bs
unfolding string_len
open_len bs behind e f g = rw (← e, ← f, g) refl

pub closed_len : (bs behind rest : List ℕ) → false ≡ starts_with nat_eq bs three_quotes → Some behind ≡ behind_quote bs → closing characters behind ≡ Some rest
    → (length bs - length rest) + 1 ≡ string_len bs
unfolding string_len
closed_len bs behind rest e f g = rw (← e, ← f, g) refl

behind_length : (bs behind : List ℕ) → Some behind ≡ behind_quote bs → length bs ≡ suc (length behind)
unfolding behind_quote
behind_length [] behind e = absurd (none-some behind (sym e))
behind_length (b ∷ bs) behind e = elim (cases_Bool (b == quote)) [
  | inl f ↦ let same : behind ≡ bs = same_Some behind bs (e ∙ rw f refl) in omega (arith, ap length same)
  | inr f ↦ absurd (none-some behind (sym (e ∙ rw f refl)))
]

pub closed_bounds : (bs behind rest : List ℕ) → Some behind ≡ behind_quote bs → closing characters behind ≡ Some rest →
    (0 < length rest) × (length rest ≤ length bs)
closed_bounds bs behind rest e f = let h = closing_bounds behind rest f in (h.0, omega (arith, h.1, behind_length bs behind e))

-- ---- what stands between the quotes

last_cons : (b : ℕ) (cs : List ℕ) → cs ≢ [] → without_last_quote (b ∷ cs) ≡ b ∷ without_last_quote cs
unfolding without_last_quote
last_cons b [] some = absurd (some refl)
last_cons b (c ∷ cs) some = refl

some_behind : (raw : List ℕ) (b : ℕ) → raw ++ b ∷ [] ≢ []
some_behind [] b e = cc
some_behind (c ∷ raw) b e = cc

pub last_off : (raw : List ℕ) → without_last_quote (raw ++ quote ∷ []) ≡ raw
unfolding without_last_quote
last_off [] = refl
last_off (b ∷ raw) = last_cons b (raw ++ quote ∷ []) (some_behind raw quote) ∙ ap (λ x. b ∷ x) (last_off raw)

last_on : (bs : List ℕ) → ((front : List ℕ) → bs ≢ front ++ quote ∷ []) → bs ≡ without_last_quote bs
unfolding without_last_quote
last_on [] other = refl
last_on (b ∷ []) other = elim (cases_Bool (b == quote)) [
  | inl e ↦ absurd (other [] (ap (λ x. x ∷ []) (eqb-true b quote e)))
  | inr e ↦ rw e refl
]
last_on (b ∷ c ∷ cs) other = ap (λ x. b ∷ x) (last_on (c ∷ cs) (λ front e. other (b ∷ front) (ap (λ x. b ∷ x) e)))

pub last_is : (bs : List ℕ) (r : Option (Bor (List ℕ))) → MatchOption r ((front : List ℕ) → bs ≢ front ++ (34 ∷ [])) (λ x. bs ≡ x.now ++ (34 ∷ []))
    → MatchOption r (bs ≡ without_last_quote bs) (λ x. x.now ≡ without_last_quote bs)
last_is bs None h = last_on bs h
last_is bs (Some x) h = sym (last_off x.now) ∙ ap without_last_quote (sym h)

pub quotes_none : (word : List ℕ) → None ≡ behind_quote word → word ≡ without_quotes word
unfolding without_quotes
quotes_none word e = rw (← e) refl

pub quotes_some : (word rest : List ℕ) → Some rest ≡ behind_quote word → without_last_quote rest ≡ without_quotes word
unfolding without_quotes
quotes_some word rest e = rw (← e) refl
