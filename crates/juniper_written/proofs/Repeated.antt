-- Names that stand twice: what is left decides, beside what was seen.
use Rattle.std.proofs.Common.{◌≡◌, ℕ, ◌-◌, ◌<◌, ◌≤◌, arith, Bool, true, false, ◌||◌, cond, not, List, [], ◌∷◌, length, get_or, take, drop, refl, sym, ap, ap₂}
use Rattle.std.proofs.Common.{◌∙◌}
use Rattle.std.specs.Borrow.{Bor}
use Rattle.std.specs.List.{list_any}
use Rattle.std.specs.Str.{bytes_eq}
use Rattle.graphql_spec.specs.Shown.{Name}
use Rattle.graphql_spec.specs.Written.{repeats}
use Rattle.juniper_syntax.proofs.Lists.{rest-is}
use Rattle.juniper_written.specs.WrittenView.{view_names}

-- the first name, before the others
pub front-is : (xs : List (Bor (List ℕ))) (d : Bor (List ℕ)) → 1 ≤ length xs →
    view_names xs ≡ (get_or xs 0 d).now ∷ view_names (take (length xs - 1) (drop 1 xs))
front-is [] d some = absurd (omega arith)
front-is (x ∷ xs) d some = ap (λ l. x.now ∷ view_names l) (sym (rest-is (x ∷ xs) 1))

pub none-left : (xs : List (Bor (List ℕ))) → length xs < 1 → view_names xs ≡ []
none-left [] none = refl
none-left (x ∷ xs) none = absurd (omega arith)

or-moves : (a b c : Bool) → ((a || b) || c) ≡ (a || (b || c))
or-moves true b c = refl
or-moves false b c = refl

or-swaps : (a b c d : Bool) → ((a || b) || (c || d)) ≡ ((a || c) || (b || d))
or-swaps true b c d = refl
or-swaps false true true d = refl
or-swaps false true false d = refl
or-swaps false false c d = refl

or-flips : (a b : Bool) → cond a true b ≡ (b || a)
or-flips true true = refl
or-flips true false = refl
or-flips false true = refl
or-flips false false = refl

-- what the opposite of a test tells
pub not-true : (a b : Bool) → a ≡ not b → a ≡ true → b ≡ false
not-true a true is e = sym e ∙ is
not-true a false is e = refl

pub not-false : (a b : Bool) → a ≡ not b → a ≡ false → b ≡ true
not-false a true is e = refl
not-false a false is e = sym e ∙ is

-- one of them was seen, or is the new name
any-more : (has now : Name → Bool) (x : Name) → ((n : Name) → now n ≡ cond (bytes_eq x n) true (has n)) → (xs : List Name) →
    list_any now xs ≡ (list_any has xs || list_any (bytes_eq x) xs)
any-more has now x more [] = refl
any-more has now x more (y ∷ ys) =
    ap₂ (λ a b. a || b) (more y ∙ or-flips (bytes_eq x y) (has y)) (any-more has now x more ys)
    ∙ or-swaps (has y) (bytes_eq x y) (list_any has ys) (list_any (bytes_eq x) ys)

none-seen : (has : Name → Bool) → ((n : Name) → has n ≡ false) → (ys : List Name) → list_any has ys ≡ false
none-seen has none [] = refl
none-seen has none (y ∷ ys) = ap₂ (λ a b. a || b) (none y) (none-seen has none ys)

module _ (xs : List Name) where
  -- one of those that are left was seen, or stands twice among them
  abbrev pub IsLeft : List Name → (Name → Bool) → Type 0
  IsLeft left has = repeats xs ≡ (list_any has left || repeats left)

  pub left-first : (has : Name → Bool) → ((n : Name) → has n ≡ false) → IsLeft xs has
  left-first has none = sym (ap (λ b. b || repeats xs) (none-seen has none xs))

  at-turn : (left rest : List Name) (x : Name) (has : Name → Bool) → left ≡ x ∷ rest → IsLeft left has →
      repeats xs ≡ ((has x || list_any has rest) || (list_any (bytes_eq x) rest || repeats rest))
  unfolding repeats
  at-turn left rest x has is so_far = so_far ∙ ap (λ l. list_any has l || repeats l) is

  pub left-next : (left rest : List Name) (x : Name) (has now : Name → Bool) → left ≡ x ∷ rest → has x ≡ false →
      ((n : Name) → now n ≡ cond (bytes_eq x n) true (has n)) → IsLeft left has → IsLeft rest now
  left-next left rest x has now is new more so_far =
      at-turn left rest x has is so_far
      ∙ (ap (λ b. (b || list_any has rest) || (list_any (bytes_eq x) rest || repeats rest)) new
      ∙ (sym (or-moves (list_any has rest) (list_any (bytes_eq x) rest) (repeats rest))
      ∙ ap (λ b. b || repeats rest) (sym (any-more has now x more rest))))

  pub left-seen : (left rest : List Name) (x : Name) (has : Name → Bool) → left ≡ x ∷ rest → has x ≡ true → IsLeft left has → true ≡ repeats xs
  left-seen left rest x has is seen so_far =
      sym (at-turn left rest x has is so_far ∙ ap (λ b. (b || list_any has rest) || (list_any (bytes_eq x) rest || repeats rest)) seen)

  pub left-none : (left : List Name) (has : Name → Bool) → left ≡ [] → IsLeft left has → false ≡ repeats xs
  unfolding repeats
  left-none left has none so_far = sym (so_far ∙ ap (λ l. list_any has l || repeats l) none)
