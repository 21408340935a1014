-- Counting places over a text.
use Rattle.std.proofs.Common.{inl, inr, ◌≡◌, ℕ, suc, ◌+◌, ◌<◌, ◌≤◌, Bool, true, false, cond, ◌==◌, List, [], ◌∷◌, ◌++◌, length, drop, get_or, refl, arith}
use Rattle.std.proofs.Common.{add-one, drop-cons}
use Rattle.std.proofs.lemmas.Bool.{cases_Bool}
use Rattle.std.proofs.lemmas.List.{drop_all}
use Rattle.graphql_spec.specs.Positions.{Spot, past_byte, next_line, continues_character, walk}
use Rattle.juniper_tokens.specs.Spots.{HasRoom}

-- what a step keeps
room_cond : (b : Bool) (s t : Spot) (n : ℕ) → HasRoom s n → HasRoom t n → HasRoom (cond b s t) n
room_cond true s t n p q = p
room_cond false s t n p q = q

pub room_past_byte : (s : Spot) (b n : ℕ) → HasRoom s (suc n) → HasRoom (past_byte s b) n
unfolding past_byte next_line
room_past_byte s b n h =
    let same_line : HasRoom (record { position = record { index = s.position.index + 1; line = s.position.line; column = 0 }; after_return = false }) n =
    record { index = omega (arith, h.index); line = omega (arith, h.line); column = omega arith } in
    let new_line : (r : Bool) → HasRoom (record {
      position = record { index = s.position.index + 1; line = s.position.line + 1; column = 0 };
      after_return = r;
    }) n =
    λ r. record { index = omega (arith, h.index); line = omega (arith, h.line); column = omega arith } in
    room_cond (b == 13) _ _ n (new_line true)
    (room_cond (b == 10) _ _ n (room_cond s.after_return _ _ n same_line (new_line false))
    (elim (cases_Bool (continues_character b)) [
      | inl e ↦ rw e (record { index = omega (arith, h.index); line = omega (arith, h.line); column = omega (arith, h.column) })
      | inr e ↦ rw e (record { index = omega (arith, h.index); line = omega (arith, h.line); column = omega (arith, h.column) })
    ]))

pub room_walk : (word : List ℕ) (s : Spot) (n : ℕ) → HasRoom s (length word + n) → HasRoom (walk s word) n
unfolding walk
room_walk [] s n h = record { index = omega (arith, h.index); line = h.line; column = h.column }
room_walk (b ∷ bs) s n h =
    room_walk bs (past_byte s b) n (room_past_byte s b (length bs + n) (record { index = omega (arith, h.index); line = h.line; column = h.column }))

pub walk_on : (s : Spot) (word : List ℕ) (i : ℕ) → i < length word → walk s (drop i word) ≡ walk (past_byte s (get_or word i 0)) (drop (i + 1) word)
unfolding walk
walk_on s word i below = rw (add-one, drop-cons word i 0) refl

pub walk_none : (s : Spot) (word : List ℕ) (i : ℕ) → length word ≤ i → walk s (drop i word) ≡ s
unfolding walk
walk_none s word i past = rw (drop_all i word past) refl

pub walk-append : (xs ys : List ℕ) (s : Spot) → walk s (xs ++ ys) ≡ walk (walk s xs) ys
unfolding walk
walk-append [] ys s = refl
walk-append (x ∷ xs) ys s = walk-append xs ys (past_byte s x)
