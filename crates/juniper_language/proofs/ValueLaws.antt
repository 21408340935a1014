-- Values of the whole grammar that are read are spelled so, and those that are spelled so are read.
use Rattle.std.proofs.Common.{inl, inr, ◌≡◌, ◌≢◌, ℕ, zero, suc, ◌<◌, ◌≤◌, ◌==◌, Bool, true, false, ℤ, cond, List, [], ◌∷◌, length, Option, Some, None}
use Rattle.std.proofs.Common.{option_map, refl, ap, sym, ◌∙◌, subst, arith}
use Rattle.std.proofs.lemmas.Option.{none-some}
use Rattle.std.proofs.lemmas.Bool.{eqb-true}
use Rattle.std.proofs.lemmas.Slice.Eq.{bytes_eq-Decides}
use Rattle.std.specs.Str.{bytes_eq}
use Rattle.graphql_spec.specs.Shown.{Name, Text, boolean, text, int as int_shown}
use Rattle.graphql_spec.specs.Positions.{Span, Spanned}
use Rattle.graphql_spec.specs.Tokens.{Lexeme, mark, name, int, string, decoded_int, decoded_string}
use Rattle.graphql_spec.specs.Inputs.{Input, null, scalar, enumerated, variable, list, object, InputItems, no_items, item, InputFields, no_fields, input_field}
use Rattle.graphql_spec.specs.Documents.{Argument}
use Rattle.graphql_spec.specs.Grammar.{At, Takes, Mark, Keyword, IsWord, Many, span_of, IsValue, AreItems, AreFields, IsArgument, IsEnumName, true_word}
use Rattle.graphql_spec.specs.Grammar.{false_word, null_word, boolean_word}
use Rattle.juniper_language.specs.Readers.{Reader, and_then, pure, refuse, next, sees, expect, a_name, until, with_span, spanned, known}
use Rattle.juniper_language.specs.Reading.{word_value, items_of, fields_of, named, list_by, object_by, variable_if, value_by, value}
use Rattle.juniper_language.proofs.RuleSteps.{value_is}
use Rattle.juniper_language.proofs.StepLaws.{bind_some, from_pure, chosen, next_takes, takes_next, fewer, other_seen, expect_sound, expect_read, name_sound}
use Rattle.juniper_language.proofs.StepLaws.{name_read, name_first, spanned_is, until_sound, until_read, IsSound, IsPart}

-- ## Words

pub differ : (w u : Name) → bytes_eq w u ≡ false → w ≢ u
differ w u e same = let f : bytes_eq w u ≡ true = (bytes_eq-Decides w u).1 same in cc

pub differs : (w u : Name) → w ≢ u → bytes_eq w u ≡ false
differs w u other = go (bytes_eq w u) (bytes_eq-Decides w u).0
  where
    go : (b : Bool) → (b ≡ true → w ≡ u) → b ≡ false
    go true same = absurd (other (same refl))
    go false same = refl

-- the first of three tests that is passed decides
pub picked_of : {A : Type 0} (P : A → Type 0) (x y z u : A) (a b c : Bool) → (a ≡ true → P x) → (b ≡ true → P y) → (c ≡ true → P z) →
    (a ≡ false → b ≡ false → c ≡ false → P u) → P (cond a x (cond b y (cond c z u)))
picked_of P x y z u true b c f g h k = f refl
picked_of P x y z u false true c f g h k = g refl
picked_of P x y z u false false true f g h k = h refl
picked_of P x y z u false false false f g h k = k refl refl refl

word_sound : (c : Bool) (n : ℕ) (w : Name) (s t : At) → Keyword w s t → IsValue c (word_value w) n s t
unfolding boolean_word
word_sound c n w s t h =
    picked_of (λ v. IsValue c v n s t) (scalar (boolean true)) (scalar (boolean false)) null (enumerated w) (bytes_eq w true_word) (bytes_eq w false_word)
    (bytes_eq w null_word)
    (λ e. subst (λ x. Keyword x s t) ((bytes_eq-Decides w true_word).0 e) h)
    (λ e. subst (λ x. Keyword x s t) ((bytes_eq-Decides w false_word).0 e) h)
    (λ e. subst (λ x. Keyword x s t) ((bytes_eq-Decides w null_word).0 e) h)
    (λ e f g. (h, record { not_true = differ w true_word e; not_false = differ w false_word f; not_null = differ w null_word g }))

boolean_stands : (b : Bool) → word_value (boolean_word b) ≡ scalar (boolean b)
unfolding boolean_word
boolean_stands true = refl
boolean_stands false = refl

enum_stands : (w : Name) → IsEnumName w → word_value w ≡ enumerated w
enum_stands w h = rw (differs w true_word h.not_true, differs w false_word h.not_false, differs w null_word h.not_null) refl

-- ## Parts

-- an item of a list
abbrev IsItem : Bool → ℕ → Spanned Input → At → At → Type 0
IsItem c n v s t = IsValue c v.item n s t × (v.span ≡ span_of s t)

items_from : (c : Bool) (n : ℕ) (vs : List (Spanned Input)) (s t : At) → Many (IsItem c n) vs s t → AreItems c (items_of vs) n s t
items_from c n [] s t h = h
items_from c n (v ∷ vs) s t (a, (is, place), rest) = (a, is, place, items_from c n vs a t rest)

fields_from : (c : Bool) (n : ℕ) (xs : List Argument) (s t : At) → Many (IsArgument c n) xs s t → AreFields c (fields_of xs) n s t
fields_from c n [] s t h = h
fields_from c n (x ∷ xs) s t (d, (a, b, word, colon, is, place), rest) = (a, b, d, word, colon, is, place, fields_from c n xs d t rest)

-- ## What is read is spelled so

abbrev Sound : Bool → ℕ → Type 0
Sound c n = (s t : At) (v : Input) → value c n s ≡ Some (v, t) → IsValue c v n s t

item_sound : (c : Bool) (n : ℕ) → Sound c n → IsSound (spanned (value c n)) (IsItem c n)
item_sound c n sound s t x e = let p = spanned_is s (value c n s) (x, t) e in (sound s t x.item p.0, p.1)

argued_sound : (c : Bool) (n : ℕ) → Sound c n → IsSound (named (value c n)) (IsArgument c n)
argued_sound c n sound s t x e =
    let q = bind_some (a_name s) _ (x, t) e in
    let r = bind_some (expect 58 q.0.1) _ (x, t) q.2 in
    let v = bind_some (spanned (value c n) r.0.1) _ (x, t) r.2 in
    let placed = spanned_is r.0.1 (value c n r.0.1) v.0 v.1 in
    from_pure (λ y u. IsArgument c n y s u) (record { name = q.0.0; value = v.0.0 }) x v.0.1 t v.2
    (q.0.1, r.0.1, name_sound s q.0.1 q.0.0 q.1, expect_sound 58 q.0.1 r.0.1 r.0.0 r.1, sound r.0.1 v.0.1 v.0.0.item placed.0, placed.1)

list_sound : (c : Bool) (n : ℕ) → Sound c n → (s a t : At) (v : Input) → Mark 91 s a → list_by (value c n) a ≡ Some (v, t) → IsValue c v (suc n) s t
list_sound c n sound s a t v opens e =
    let q = bind_some (until 93 (spanned (value c n)) (length a.ahead) a) _ (v, t) e in
    let all = until_sound 93 (spanned (value c n)) (IsItem c n) (item_sound c n sound) (length a.ahead) a q.0.1 q.0.0 q.1 in
    from_pure (λ y u. IsValue c y (suc n) s u) (list (items_of q.0.0)) v q.0.1 t q.2 (a, all.0, opens, items_from c n q.0.0 a all.0 all.1, all.2)

object_sound : (c : Bool) (n : ℕ) → Sound c n → (s a t : At) (v : Input) → Mark 123 s a → object_by (value c n) a ≡ Some (v, t) → IsValue c v (suc n) s t
object_sound c n sound s a t v opens e =
    let q = bind_some (until 125 (named (value c n)) (length a.ahead) a) _ (v, t) e in
    let all = until_sound 125 (named (value c n)) (IsArgument c n) (argued_sound c n sound) (length a.ahead) a q.0.1 q.0.0 q.1 in
    from_pure (λ y u. IsValue c y (suc n) s u) (object (fields_of q.0.0)) v q.0.1 t q.2 (a, all.0, opens, fields_from c n q.0.0 a all.0 all.1, all.2)

variable_sound : (c : Bool) (n : ℕ) (s a t : At) (v : Input) → Mark 36 s a → variable_if c a ≡ Some (v, t) → IsValue c v n s t
variable_sound true n s a t v opens e = absurd (none-some (v, t) e)
variable_sound false n s a t v opens e =
    let q = bind_some (a_name a) _ (v, t) e in
    from_pure (λ y u. IsValue false y n s u) (variable q.0.0.item) v q.0.1 t q.2 (refl, a, opens, (q.0.0.span, name_sound a q.0.1 q.0.0 q.1))

number_sound : (c : Bool) (n : ℕ) (w : Text) (place : Span) (o : Option ℤ) (s a t : At) (v : Input) → Takes (int w) place s a → decoded_int w ≡ o →
    known (option_map (λ i. scalar (int_shown i)) o) a ≡ Some (v, t) → IsValue c v n s t
number_sound c n w place None s a t v h is e = absurd (none-some (v, t) e)
number_sound c n w place (Some i) s a t v h is e = from_pure (λ y u. IsValue c y n s u) (scalar (int_shown i)) v a t e (w, place, h, is)

string_sound : (c : Bool) (n : ℕ) (w : Text) (place : Span) (o : Option Text) (s a t : At) (v : Input) → Takes (string w) place s a → decoded_string w ≡ o →
    known (option_map (λ x. scalar (text x)) o) a ≡ Some (v, t) → IsValue c v n s t
string_sound c n w place None s a t v h is e = absurd (none-some (v, t) e)
string_sound c n w place (Some x) s a t v h is e = from_pure (λ y u. IsValue c y n s u) (scalar (text x)) v a t e (w, place, h, is)

module _ (c : Bool) (n : ℕ) (items fields : Reader Input) (lists : (s a t : At) (v : Input) → Mark 91 s a → items a ≡ Some (v, t) → IsValue c v n s t)
    (objects : (s a t : At) (v : Input) → Mark 123 s a → fields a ≡ Some (v, t) → IsValue c v n s t) where
  opened : (m k : ℕ) (place : Span) (s a : At) → Takes (mark m) place s a → m == k ≡ true → Mark k s a
  opened m k place s a h e = (place, subst (λ x. Takes (mark x) place s a) (eqb-true m k e) h)

  by_sound : (l : Lexeme) (place : Span) (s a t : At) (v : Input) → Takes l place s a → value_by c items fields l a ≡ Some (v, t) → IsValue c v n s t
  by_sound (mark m) place s a t v h e = elim (chosen (m == 36) _ _ (v, t) e) [
    | inl here ↦ variable_sound c n s a t v (opened m 36 place s a h here.0) here.1
    | inr other ↦ elim (chosen (m == 91) _ _ (v, t) other.1) [
      | inl here ↦ lists s a t v (opened m 91 place s a h here.0) here.1
      | inr more ↦ elim (chosen (m == 123) _ _ (v, t) more.1) [
        | inl here ↦ objects s a t v (opened m 123 place s a h here.0) here.1
        | inr none ↦ absurd (none-some (v, t) none.1)
      ]
    ]
  ]
  by_sound (name w) place s a t v h e = from_pure (λ y u. IsValue c y n s u) (word_value w) v a t e (word_sound c n w s a (place, h))
  by_sound (int w) place s a t v h e = number_sound c n w place (decoded_int w) s a t v h refl e
  by_sound (string w) place s a t v h e = string_sound c n w place (decoded_string w) s a t v h refl e

value_sound : (c : Bool) (n : ℕ) → Sound c n
unfolding value
value_sound c zero s t v e =
    let q = bind_some (next s) _ (v, t) e in
    by_sound c zero refuse refuse (λ b a d y h none. absurd (none-some (y, d) none))
    (λ b a d y h none. absurd (none-some (y, d) none)) q.0.0.lexeme q.0.0.span s q.0.1 t v (next_takes s q.0 q.1) q.2
value_sound c (suc n) s t v e =
    let q = bind_some (next s) _ (v, t) e in
    by_sound c (suc n) (list_by (value c n)) (object_by (value c n)) (list_sound c n (value_sound c n))
    (object_sound c n (value_sound c n)) q.0.0.lexeme q.0.0.span s q.0.1 t v (next_takes s q.0 q.1) q.2

pub value_spelled : (c : Bool) (n : ℕ) (s t : At) (v : Input) → value c n s ≡ Some (v, t) → IsValue c v n s t
value_spelled c n = value_sound c n

pub argument_sound : (c : Bool) (n : ℕ) → IsSound (named (value c n)) (IsArgument c n)
argument_sound c n = argued_sound c n (value_sound c n)

-- ## What is spelled so is read

-- a value begins with none of the other punctuators
pub value_first : (c : Bool) (v : Input) (n m : ℕ) (s t : At) → 36 == m ≡ false → 91 == m ≡ false → 123 == m ≡ false → IsValue c v n s t → sees m s ≡ false
value_first c null n m s t a b d h = rw h.1.token refl
value_first c (scalar (int_shown i)) n m s t a b d h = rw h.2.token refl
value_first c (scalar (text x)) n m s t a b d h = rw h.2.token refl
value_first c (scalar (boolean x)) n m s t a b d h = rw h.1.token refl
value_first c (enumerated w) n m s t a b d h = rw h.0.1.token refl
value_first c (variable x) n m s t a b d h = other_seen 36 m s h.1 a h.2
value_first c (list is) zero m s t a b d h = absurd h
value_first c (list is) (suc n) m s t a b d h = other_seen 91 m s h.0 b h.2
value_first c (object fs) zero m s t a b d h = absurd h
value_first c (object fs) (suc n) m s t a b d h = other_seen 123 m s h.0 d h.2

mutual
  pub value_fewer : (c : Bool) (v : Input) (n : ℕ) (s t : At) → IsValue c v n s t → length t.ahead < length s.ahead
  value_fewer c null n s t h = fewer (name null_word) h.0 s t h.1
  value_fewer c (scalar (int_shown i)) n s t h = fewer (int h.0) h.1 s t h.2
  value_fewer c (scalar (text x)) n s t h = fewer (string h.0) h.1 s t h.2
  value_fewer c (scalar (boolean b)) n s t h = fewer (name (boolean_word b)) h.0 s t h.1
  value_fewer c (enumerated w) n s t h = fewer (name w) h.0.0 s t h.0.1
  value_fewer c (variable x) n s t (free, a, dollar, word) = omega (arith, fewer (mark 36) dollar.0 s a dollar.1, fewer (name x) word.0 a t word.1)
  value_fewer c (list is) zero s t h = absurd h
  value_fewer c (list is) (suc n) s t (a, b, opens, inside, closes) =
      omega (arith, fewer (mark 91) opens.0 s a opens.1, items_fewer c is n a b inside, fewer (mark 93) closes.0 b t closes.1)
  value_fewer c (object fs) zero s t h = absurd h
  value_fewer c (object fs) (suc n) s t (a, b, opens, inside, closes) =
      omega (arith, fewer (mark 123) opens.0 s a opens.1, fields_fewer c fs n a b inside, fewer (mark 125) closes.0 b t closes.1)

  items_fewer : (c : Bool) (is : InputItems) (n : ℕ) (s t : At) → AreItems c is n s t → length t.ahead ≤ length s.ahead
  items_fewer c no_items n s t h = omega (arith, ap (λ (u : At). length u.ahead) h)
  items_fewer c (item v at rest) n s t (a, is, place, more) = omega (arith, value_fewer c v n s a is, items_fewer c rest n a t more)

  fields_fewer : (c : Bool) (fs : InputFields) (n : ℕ) (s t : At) → AreFields c fs n s t → length t.ahead ≤ length s.ahead
  fields_fewer c no_fields n s t h = omega (arith, ap (λ (u : At). length u.ahead) h)
  fields_fewer c (input_field k k_at v v_at rest) n s t (a, b, d, word, colon, is, place, more) =
      omega (arith, fewer (name k) k_at s a word, fewer (mark 58) colon.0 a b colon.1, value_fewer c v n b d is, fields_fewer c rest n d t more)

-- the parts that an input is made of
abbrev parts_of : InputItems → List (Spanned Input)
parts_of no_items = []
parts_of (item v at rest) = record { item = v; span = at } ∷ parts_of rest

abbrev members_of : InputFields → List Argument
members_of no_fields = []
members_of (input_field k k_at v v_at rest) = record { name = record { item = k; span = k_at }; value = record { item = v; span = v_at } } ∷ members_of rest

items_back : (is : InputItems) → items_of (parts_of is) ≡ is
items_back no_items = refl
items_back (item v at rest) = ap (item v at) (items_back rest)

fields_back : (fs : InputFields) → fields_of (members_of fs) ≡ fs
fields_back no_fields = refl
fields_back (input_field k k_at v v_at rest) = ap (input_field k k_at v v_at) (fields_back rest)

variable_read : (c : Bool) (x : Name) (a t : At) → c ≡ false → Keyword x a t → variable_if c a ≡ Some (variable x, t)
variable_read true x a t free word = cc
variable_read false x a t free word = rw (name_read (record { item = x; span = word.0 }) a t word.1) refl

named_read : (c : Bool) (n : ℕ) (x : Argument) (s a b t : At) → IsWord x.name s a → Mark 58 a b → value c n b ≡ Some (x.value.item, t) →
    x.value.span ≡ span_of b t → named (value c n) s ≡ Some (x, t)
named_read c n x s a b t word colon is place =
    rw (name_read x.name s a word, expect_read 58 a b colon, is) (ap (λ p. Some (record { name = x.name; value = record { item = x.value.item; span = p } }, t))
    (sym place))

mutual
  pub value_read : (c : Bool) (v : Input) (n : ℕ) (s t : At) → IsValue c v n s t → value c n s ≡ Some (v, t)
  value_read c null n s t h = rw (value_is c n s, takes_next (name null_word) h.0 s t h.1) refl
  value_read c (scalar (int_shown i)) n s t h =
      rw (value_is c n s, takes_next (int h.0) h.1 s t h.2) (ap (λ o. known (option_map (λ j. scalar (int_shown j)) o) t) h.3)
  value_read c (scalar (text x)) n s t h =
      rw (value_is c n s, takes_next (string h.0) h.1 s t h.2) (ap (λ o. known (option_map (λ y. scalar (text y)) o) t) h.3)
  value_read c (scalar (boolean b)) n s t h = rw (value_is c n s, takes_next (name (boolean_word b)) h.0 s t h.1) (ap (λ v. Some (v, t)) (boolean_stands b))
  value_read c (enumerated w) n s t h = rw (value_is c n s, takes_next (name w) h.0.0 s t h.0.1) (ap (λ v. Some (v, t)) (enum_stands w h.1))
  value_read c (variable x) n s t (free, a, dollar, word) = rw (value_is c n s, takes_next (mark 36) dollar.0 s a dollar.1) (variable_read c x a t free word)
  value_read c (list is) zero s t h = absurd h
  value_read c (list is) (suc n) s t (a, b, opens, inside, closes) =
      rw (value_is c (suc n) s, takes_next (mark 91) opens.0 s a opens.1)
      (ap (λ o. and_then o (λ vs. pure (list (items_of vs)))) (until_read 93 (spanned (value c n)) (parts_of is) (length a.ahead) a b t
      (items_parts c is n a b inside) closes (omega arith)) ∙ ap (λ js. Some (list js, t)) (items_back is))
  value_read c (object fs) zero s t h = absurd h
  value_read c (object fs) (suc n) s t (a, b, opens, inside, closes) =
      rw (value_is c (suc n) s, takes_next (mark 123) opens.0 s a opens.1)
      (ap (λ o. and_then o (λ xs. pure (object (fields_of xs)))) (until_read 125 (named (value c n)) (members_of fs) (length a.ahead) a b t
      (fields_parts c fs n a b inside) closes (omega arith)) ∙ ap (λ gs. Some (object gs, t)) (fields_back fs))

  items_parts : (c : Bool) (is : InputItems) (n : ℕ) (s t : At) → AreItems c is n s t → Many (IsPart 93 false (spanned (value c n))) (parts_of is) s t
  items_parts c no_items n s t h = h
  items_parts c (item v at rest) n s t (a, is, place, more) = (
    a,
    record {
      reads = ap (with_span s) (value_read c v n s a is) ∙ ap (λ p. Some (record { item = v; span = p }, a)) (sym place);
      less = value_fewer c v n s a is;
      first = value_first c v n 93 s a refl refl refl is;
    },
    items_parts c rest n a t more,
  )

  fields_parts : (c : Bool) (fs : InputFields) (n : ℕ) (s t : At) → AreFields c fs n s t → Many (IsPart 125 false (named (value c n))) (members_of fs) s t
  fields_parts c no_fields n s t h = h
  fields_parts c (input_field k k_at v v_at rest) n s t (a, b, d, word, colon, is, place, more) = (
    d,
    record {
      reads = named_read c n (record { name = record { item = k; span = k_at }; value = record { item = v; span = v_at } }) s a b d word colon
          (value_read c v n b d is) place;
      less = omega (arith, fewer (name k) k_at s a word, fewer (mark 58) colon.0 a b colon.1, value_fewer c v n b d is);
      first = name_first 125 (record { item = k; span = k_at }) s a word;
    },
    fields_parts c rest n d t more,
  )

-- an argument is read, of several tokens
pub argument_part : (c : Bool) (n : ℕ) (x : Argument) (s t : At) → IsArgument c n x s t → IsPart 41 false (named (value c n)) x s t
argument_part c n x s t (a, b, word, colon, is, place) = record {
  reads = named_read c n x s a b t word colon (value_read c x.value.item n b t is) place;
  less = omega (arith, fewer (name x.name.item) x.name.span s a word, fewer (mark 58) colon.0 a b colon.1, value_fewer c x.value.item n b t is);
  first = name_first 41 x.name s a word;
}
