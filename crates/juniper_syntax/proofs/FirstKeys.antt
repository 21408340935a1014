-- Keys of which the first count, each beside its value: a search of them, and a key more or a value changed.
use Rattle.std.proofs.Common.{◌≡◌, ℕ, zero, suc, ◌+◌, ◌<◌, ◌≤◌, List, [], ◌∷◌, ◌++◌, length, take, zip, position, slice_get, slice_set, Option, Some, None}
use Rattle.std.proofs.Common.{inl, inr, option_map, String, Global, string_bytes, Bool, true, false, cond, not, ◌||◌, nat_lt}
use Rattle.std.proofs.Common.{refl, sym, ap, ap₂, subst, ◌∙◌, arith}
use Rattle.std.proofs.lemmas.Bool.{cases_lt, cases_Bool, lt-ltb, le-ltb}
use Rattle.std.proofs.lemmas.List.{length-set, length-take-le, length-map, map-append, take-map, take_more, length_push}
use Rattle.std.proofs.lemmas.Option.{slice_get_within, get_or_from_slice_get}
use Rattle.std.proofs.lemmas.Slice.Zip.{firsts-zip, seconds-zip}
use Rattle.std.specs.List.{position_or_len, list_any, IsDistinct}
use Rattle.std.specs.Map.{keys_of, values_of, lookup, set_value}
use Rattle.std.specs.Str.{bytes_eq}
use Rattle.std.specs.String.{string_eq}
use Rattle.indexmap.specs.IndexMap.{insert_entry}
use Rattle.juniper_syntax.specs.FieldWords.{is_key, names, texts, said, IsKeyAdded}
use Rattle.juniper_syntax.specs.Indexes.{AreSame, says, stands_at}
use Rattle.juniper_syntax.proofs.Columns.{found, put, missing, place_of, insert-found, insert-new}
use Rattle.juniper_syntax.proofs.Indexes.{position-cons, before, same_text}

module _ {K X : Type 0} where
  pub zip-none : (ks : List K) (vs : List X) → vs ≡ [] → zip ks vs ≡ []
  zip-none [] vs none = refl
  zip-none (k ∷ ks) [] none = refl
  zip-none (k ∷ ks) (v ∷ vs) none = cc

  -- the keys that have no value do not count
  pub first-zip : (ks : List K) (vs : List X) → zip (take (length vs) ks) vs ≡ zip ks vs
  first-zip [] [] = refl
  first-zip [] (v ∷ vs) = refl
  first-zip (k ∷ ks) [] = refl
  first-zip (k ∷ ks) (v ∷ vs) = ap (λ es. (k, v) ∷ es) (first-zip ks vs)

  pub first-long : (ks : List K) (vs : List X) → length vs ≤ length ks → length vs ≡ length (take (length vs) ks)
  first-long ks vs enough = sym (length-take-le (length vs) ks enough)

  pub first-keys : (ks : List K) (vs : List X) → length vs ≤ length ks → keys_of (zip ks vs) ≡ take (length vs) ks
  first-keys ks vs enough = ap keys_of (sym (first-zip ks vs)) ∙ firsts-zip (take (length vs) ks) vs (first-long ks vs enough)

  pub first-values : (ks : List K) (vs : List X) → length vs ≤ length ks → values_of (zip ks vs) ≡ vs
  first-values ks vs enough = ap values_of (sym (first-zip ks vs)) ∙ seconds-zip (take (length vs) ks) vs (first-long ks vs enough)

  pub zip-long : (ks : List K) (vs : List X) → length vs ≤ length ks → length (zip ks vs) ≡ length vs
  zip-long ks vs enough = sym (length-map (zip ks vs) (λ e. e.1)) ∙ ap length (first-values ks vs enough)

-- where a key stands among the first
abbrev pub bounded : ℕ → Option ℕ → Option ℕ
bounded n None = None
bounded n (Some i) = cond (nat_lt i n) (Some i) None

bounded-start : (n : ℕ) → Some 0 ≡ bounded (suc n) (Some 0)
bounded-start n = ap (λ b. cond b (Some 0) None) (sym (lt-ltb 0 (suc n) (omega arith)))

bounded-next : (n : ℕ) (o : Option ℕ) → option_map suc (bounded n o) ≡ bounded (suc n) (option_map suc o)
bounded-next n None = refl
bounded-next n (Some i) =
    elim (cases_lt i n) [
      | inl below ↦ rw (lt-ltb i n below, lt-ltb (suc i) (suc n) (omega (arith, below))) refl
      | inr above ↦ rw (le-ltb i n above, le-ltb (suc i) (suc n) (omega (arith, above))) refl
    ]

module _ {K : Type 0} (test : K → Bool) where
  pub position-first : (ks : List K) (n : ℕ) → position test (take n ks) ≡ bounded n (position test ks)
  position-first [] zero = refl
  position-first [] (suc n) = refl
  position-first (k ∷ ks) zero = sym (not-below (position test (k ∷ ks)))
    where
      not-below : (o : Option ℕ) → bounded zero o ≡ None
      not-below None = refl
      not-below (Some i) = ap (λ b. cond b (Some i) None) (le-ltb i 0 (omega arith))
  position-first (k ∷ ks) (suc n) =
      position-cons test k (take n ks) ∙ ap (λ o. cond (test k) (Some 0) (option_map suc o)) (position-first ks n)
      ∙ step (test k) ∙ ap (bounded (suc n)) (sym (position-cons test k ks))
    where
      step : (b : Bool) → cond b (Some 0) (option_map suc (bounded n (position test ks)))
          ≡ bounded (suc n) (cond b (Some 0) (option_map suc (position test ks)))
      step true = bounded-start n
      step false = bounded-next n (position test ks)

module _ {K X : Type 0} (test : K → Bool) (ks : List K) (vs : List X) (es : List (K × X)) (seen : zip ks vs ≡ es) (enough : length vs ≤ length ks) where
  own : keys_of es ≡ take (length vs) ks
  own = ap keys_of (sym seen) ∙ first-keys ks vs enough

  pub place-first : position test (keys_of es) ≡ bounded (length vs) (position test ks)
  place-first = ap (position test) own ∙ position-first test ks (length vs)

  -- what is found at the place of a key, and a value put there
  pub found-first : (i : ℕ) → position test (keys_of es) ≡ Some i → lookup test es ≡ slice_get vs i
  found-first i at =
      ap (lookup test) (sym (first-zip ks vs ∙ seen)) ∙ found test (take (length vs) ks) vs (first-long ks vs enough)
      ∙ ap (slice_get vs) (place_of test (take (length vs) ks) i (ap (position test) (sym own) ∙ at))

  pub put-first : (i : ℕ) (w : X) → position test (keys_of es) ≡ Some i → zip ks (slice_set vs i w) ≡ set_value test es w
  put-first i w at =
      let keys = take (length vs) ks in
      let place = place_of test keys i (ap (position test) (sym own) ∙ at) in
      sym (first-zip ks (slice_set vs i w)) ∙ ap (λ n. zip (take n ks) (slice_set vs i w)) (length-set vs i w)
      ∙ ap (λ j. zip keys (slice_set vs j w)) (sym place) ∙ put test keys vs w (first-long ks vs enough)
      ∙ ap (λ l. set_value test l w) (first-zip ks vs ∙ seen)

module _ {K X : Type 0} (test : K → Bool) where
  -- a key that is in no place
  pub missing-first : (es : List (K × X)) → list_any test (keys_of es) ≡ false → lookup test es ≡ None
  missing-first [] gone = refl
  missing-first (e ∷ es) gone =
      elim (cases_Bool (test e.0)) [
        | inl here ↦ cc
        | inr here ↦ rw here (missing-first es (sym (ap (λ b. b || list_any test (keys_of es)) here) ∙ gone))
      ]

  pub stays-first : (es : List (K × X)) (w : X) → list_any test (keys_of es) ≡ false → set_value test es w ≡ es
  stays-first [] w gone = refl
  stays-first (e ∷ es) w gone =
      elim (cases_Bool (test e.0)) [
        | inl here ↦ cc
        | inr here ↦ rw here (ap (λ l. e ∷ l) (stays-first es w (sym (ap (λ b. b || list_any test (keys_of es)) here) ∙ gone)))
      ]

-- ## By what the keys say

pub said-zip : {X : Type 0} (ks : List (String Global)) (vs : List X) → said (zip ks vs) ≡ zip (texts ks) vs
said-zip [] vs = refl
said-zip (k ∷ ks) [] = refl
said-zip (k ∷ ks) (v ∷ vs) = ap (λ es. (string_bytes k, v) ∷ es) (said-zip ks vs)

pub lookup-said : {X : Type 0} (key : List ℕ) (es : List (String Global × X)) → lookup (is_key key) es ≡ lookup (bytes_eq key) (said es)
lookup-said key [] = refl
lookup-said key (e ∷ es) = ap (cond (bytes_eq key (string_bytes e.0)) (Some e.1)) (lookup-said key es)

pub any-texts : (key : List ℕ) (ks : List (String Global)) → list_any (is_key key) ks ≡ list_any (bytes_eq key) (texts ks)
any-texts key [] = refl
any-texts key (k ∷ ks) = ap (λ b. bytes_eq key (string_bytes k) || b) (any-texts key ks)

pub position-texts : (key : List ℕ) (ks : List (String Global)) → position_or_len (is_key key) ks ≡ position_or_len (bytes_eq key) (texts ks)
position-texts key [] = refl
position-texts key (k ∷ ks) = ap (λ n. cond (not (bytes_eq key (string_bytes k))) (1 + n) 0) (position-texts key ks)

pub same-texts : (ks ls : List (String Global)) → AreSame ks ls → texts ls ≡ texts ks
same-texts [] [] same = refl
same-texts [] (l ∷ ls) same = absurd same
same-texts (k ∷ ks) [] same = absurd same
same-texts (k ∷ ks) (l ∷ ls) same = ap₂ (λ t ts. t ∷ ts) same.0 (same-texts ks ls same.1)

-- the same keys beside as many values
pub same-names : {X Y : Type 0} (ks : List (String Global)) (vs : List X) (ws : List Y) → length ws ≡ length vs → names (zip ks ws) ≡ names (zip ks vs)
same-names [] vs ws e = refl
same-names (k ∷ ks) [] [] e = refl
same-names (k ∷ ks) [] (w ∷ ws) e = absurd (omega arith)
same-names (k ∷ ks) (v ∷ vs) [] e = absurd (omega arith)
same-names (k ∷ ks) (v ∷ vs) (w ∷ ws) e = ap (λ ns. string_bytes k ∷ ns) (same-names ks vs ws (omega arith))

pub texts-long : {X : Type 0} (ks : List (String Global)) (vs : List X) → length vs ≤ length ks → length vs ≡ length (take (length vs) (texts ks))
texts-long ks vs enough = first-long (texts ks) vs (omega (arith, length-map ks string_bytes, enough))

module _ {X : Type 0} (ks : List (String Global)) (vs : List X) (key : List ℕ) (enough : length vs ≤ length ks) where
  front : zip (take (length vs) (texts ks)) vs ≡ said (zip ks vs)
  front = first-zip (texts ks) vs ∙ sym (said-zip ks vs)

  pub looked : lookup (is_key key) (zip ks vs) ≡ slice_get vs (position_or_len (bytes_eq key) (take (length vs) (texts ks)))
  looked =
      lookup-said key (zip ks vs) ∙ ap (lookup (bytes_eq key)) (sym front)
      ∙ found (bytes_eq key) (take (length vs) (texts ks)) vs (texts-long ks vs enough)

  pub looked-new : list_any (bytes_eq key) (take (length vs) (texts ks)) ≡ false → lookup (is_key key) (zip ks vs) ≡ None
  looked-new gone = lookup-said key (zip ks vs) ∙ ap (lookup (bytes_eq key)) (sym front) ∙ missing (bytes_eq key) (take (length vs) (texts ks)) vs gone

module _ {X : Type 0} (ks ls : List (String Global)) (vs : List X) (key : List ℕ) (w : X) (enough : length vs ≤ length ks) where
  pub said-new : list_any (bytes_eq key) (take (length vs) (texts ks)) ≡ false → texts ls ≡ take (length vs) (texts ks) ++ key ∷ [] →
      said (zip ls (vs ++ w ∷ [])) ≡ insert_entry bytes_eq (said (zip ks vs)) key w
  said-new gone more =
      said-zip ls (vs ++ w ∷ []) ∙ ap (λ ts. zip ts (vs ++ w ∷ [])) more
      ∙ sym (insert-new bytes_eq key w (take (length vs) (texts ks)) vs (texts-long ks vs enough) gone)
      ∙ ap (λ es. insert_entry bytes_eq es key w) (front ks vs key enough)

  pub said-found : list_any (bytes_eq key) (take (length vs) (texts ks)) ≡ true → texts ls ≡ take (length vs) (texts ks) →
      said (zip ls (slice_set vs (position_or_len (bytes_eq key) (take (length vs) (texts ks))) w)) ≡ insert_entry bytes_eq (said (zip ks vs)) key w
  said-found there same =
      let ts = take (length vs) (texts ks) in
      said-zip ls (slice_set vs (position_or_len (bytes_eq key) ts) w) ∙ ap (λ ns. zip ns (slice_set vs (position_or_len (bytes_eq key) ts) w)) same
      ∙ put (bytes_eq key) ts vs w (texts-long ks vs enough) ∙ sym (insert-found bytes_eq key w ts vs (texts-long ks vs enough) there)
      ∙ ap (λ es. insert_entry bytes_eq es key w) (front ks vs key enough)

-- a key added to so many of the keys
pub added-first : (key : List ℕ) (n m : ℕ) (ts new : List (List ℕ)) (r : ℕ × Bool) → n ≡ m → IsKeyAdded key (take n ts) new r → IsKeyAdded key (take m ts) new r
added-first key n m ts new r same added = subst (λ k. IsKeyAdded key (take k ts) new r) same added

-- the name at a place
stands-some : (o : Option (String Global)) (key : List ℕ) → says o key ≡ true → (name : String Global) × (o ≡ Some name) × (is_key key name ≡ true)
unfolding says
stands-some None key stands = cc
stands-some (Some name) key stands = (name, refl, stands)

pub stands-within : (ks : List (String Global)) (place : ℕ) (key : List ℕ) → stands_at ks place key ≡ true → place < length ks
stands-within ks place key stands = let there = stands-some (slice_get ks place) key stands in slice_get_within ks place there.0 there.1

-- a value more beside the key that comes next
pub said-next : {X : Type 0} (ks : List (String Global)) (vs : List X) (key : List ℕ) (w : X) → stands_at ks (length vs) key ≡ true → IsDistinct string_eq ks →
    said (zip ks (vs ++ w ∷ [])) ≡ insert_entry bytes_eq (said (zip ks vs)) key w
said-next ks vs key w stands distinct =
    let n = length vs in
    let there = stands-some (slice_get ks n) key stands in
    let name = there.0 in
    let below : n < length ks = slice_get_within ks n name there.1 in
    let at = get_or_from_slice_get ks n name name there.1 in
    let is : key ≡ string_bytes name = same_text key (string_bytes name) there.2 in
    let longer : take (n + 1) ks ≡ take n ks ++ name ∷ [] = take_more ks n name below ∙ ap (λ k. take n ks ++ k ∷ []) at in
    let fresh : list_any (is_key (string_bytes name)) (take n ks) ≡ false
    = subst (λ k. list_any (is_key (string_bytes k)) (take n ks) ≡ false) at (before ks n name below distinct) in
    let gone : list_any (bytes_eq key) (take n (texts ks)) ≡ false
    = ap (list_any (bytes_eq key)) (take-map string_bytes n ks) ∙ sym (any-texts key (take n ks)) ∙ ap (λ t. list_any (is_key t) (take n ks)) is ∙ fresh in
    let more : texts (take (n + 1) ks) ≡ take n (texts ks) ++ key ∷ []
    = ap texts longer ∙ map-append string_bytes (take n ks) (name ∷ []) ∙ ap₂ (λ ts t. ts ++ t ∷ []) (sym (take-map string_bytes n ks)) (sym is) in
    ap said (sym (first-zip ks (vs ++ w ∷ [])) ∙ ap (λ m. zip (take m ks) (vs ++ w ∷ [])) (length_push vs w))
    ∙ said-new ks (take (n + 1) ks) vs key w (omega (arith, below)) gone more
