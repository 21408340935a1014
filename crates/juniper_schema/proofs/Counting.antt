-- Loops over the names that a schema lists.
use Rattle.std.proofs.Common.{◌≡◌, ℕ, suc, ◌+◌, ◌<◌, ◌≤◌, Bool, cond, List, [], ◌∷◌, ◌++◌, map, length, get_or, drop, Some, None, bytes_eq, refl, ap}
use Rattle.std.proofs.lemmas.List.{append_assoc, drop_all, drop_more}
use Rattle.graphql_spec.specs.Shown.{Name}
use Rattle.graphql_spec.specs.Schema.{Entry, Schema}
use Rattle.juniper_schema.specs.Searching.{entries_at, entries_of, first_taken, is_taken, times_listed}
use denote.Ref.{Bor}

-- what is left begins with the name of this turn
left : (xs : List (Bor Name)) (i : ℕ) (d : Bor Name) → i < length xs →
    map (λ n. n.now) (drop i xs) ≡ (get_or xs i d).now ∷ map (λ n. n.now) (drop (i + 1) xs)
left xs i d below = ap (map (λ n. n.now)) (drop_more xs i d below)

none_left : (xs : List (Bor Name)) (i : ℕ) → length xs ≤ i → map (λ n. n.now) (drop i xs) ≡ []
none_left xs i past = ap (map (λ n. n.now)) (drop_all i xs past)

-- ## Counting

pub counted : (n : Name) (xs : List (Bor Name)) (i : ℕ) (d : Bor Name) → i < length xs → (b : Bool) → b ≡ bytes_eq n (get_or xs i d).now →
    times_listed n (map (λ m. m.now) (drop i xs))
    ≡ cond b (suc (times_listed n (map (λ m. m.now) (drop (i + 1) xs)))) (times_listed n (map (λ m. m.now) (drop (i + 1) xs)))
unfolding times_listed
counted n xs i d below b is = rw (left xs i d below, is) refl

pub counted_all : (n : Name) (xs : List (Bor Name)) (i : ℕ) → length xs ≤ i → times_listed n (map (λ m. m.now) (drop i xs)) ≡ 0
unfolding times_listed
counted_all n xs i past = rw (none_left xs i past) refl

-- ## The first name that is taken

pub taken_turn : (ns : List Name) (xs : List (Bor Name)) (i : ℕ) (d : Bor Name) → i < length xs → (b : Bool) → b ≡ is_taken ns (get_or xs i d).now →
    first_taken ns (map (λ m. m.now) (drop i xs)) ≡ cond b (Some (get_or xs i d).now) (first_taken ns (map (λ m. m.now) (drop (i + 1) xs)))
unfolding first_taken
taken_turn ns xs i d below b is = rw (left xs i d below, is) refl

pub none_taken : (ns : List Name) (xs : List (Bor Name)) (i : ℕ) → length xs ≤ i → first_taken ns (map (λ m. m.now) (drop i xs)) ≡ None
unfolding first_taken
none_taken ns xs i past = rw (none_left xs i past) refl

-- ## Entries

append_nil : {X : Type 0} (xs : List X) → xs ≡ xs ++ []
append_nil [] = refl
append_nil (x ∷ xs) = ap (λ r. x ∷ r) (append_nil xs)

-- the entry of a name is put in, and is no longer to come
pub one_pushed : (s : Schema) (xs : List (Bor Name)) (i : ℕ) (d : Bor Name) → i < length xs → (made new : List Entry) →
    new ≡ made ++ entries_at s (get_or xs i d).now →
    new ++ entries_of s (map (λ m. m.now) (drop (i + 1) xs)) ≡ made ++ entries_of s (map (λ m. m.now) (drop i xs))
unfolding entries_of
one_pushed s xs i d below made new is = rw (is, left xs i d below)
    (append_assoc made (entries_at s (get_or xs i d).now) (entries_of s (map (λ m. m.now) (drop (i + 1) xs))))

-- nothing is to come
pub all_pushed : (s : Schema) (xs : List (Bor Name)) (i : ℕ) (made : List Entry) → length xs ≤ i →
    made ≡ made ++ entries_of s (map (λ m. m.now) (drop i xs))
unfolding entries_of
all_pushed s xs i made past = rw (none_left xs i past) (append_nil made)
