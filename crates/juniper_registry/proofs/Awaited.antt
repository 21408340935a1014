-- Names that are awaited one after another.
use Rattle.std.proofs.Common.{◌≡◌, ℕ, ◌+◌, ◌<◌, List, [], ◌∷◌, ◌++◌, Result, Ok, Err, length, get_or, drop, refl, sym, ap, ◌∙◌, inl}
use Rattle.graphql_spec.specs.Shown.{Name}
use Rattle.juniper_syntax.proofs.Lists.{left-is}
use Rattle.juniper_registry.specs.Entries.{AwaitsEach, KeepsAdding, Table, awaiting_each}

-- some names, and others behind them
awaiting_both : (ks ls : List Name) (t : Table) → awaiting_each (ks ++ ls) t ≡ awaiting_each ls (awaiting_each ks t)
awaiting_both [] ls t = refl
awaiting_both (k ∷ ks) ls t = awaiting_both ks ls _

-- some names by calls that answered, and others behind them by a call that may answer
pub each_behind : {A E : Type 0} (r : Result A E) (ks ls whole : List Name) (old mid new : Table) → ks ++ ls ≡ whole
    → ((n : Name) → mid n ≡ awaiting_each ks old n) → AwaitsEach r ls mid new → AwaitsEach r whole old new
each_behind (Ok x) ks ls whole old mid new parts first then = λ n.
    let is : mid ≡ awaiting_each ks old = λ i m. (first m) i in
    then n ∙ (ap (λ (t : Table). awaiting_each ls t n) is
    ∙ (ap (λ (t : Table). t n) (sym (awaiting_both ks ls old)) ∙ ap (λ all. awaiting_each all old n) parts))
each_behind (Err x) ks ls whole old mid new parts first then = tt

-- one more item is awaited, which refers to these names: what is left leads to the same
pub turn : {A : Type 0} (refer : List A → List Name) (ks : List Name) (xs : List A) (i : ℕ) (x : A) (mid new whole : Table)
    → refer (x ∷ drop (i + 1) xs) ≡ ks ++ refer (drop (i + 1) xs) → i < length xs → x ≡ get_or xs i x
    → ((n : Name) → new n ≡ awaiting_each ks mid n)
    → ((n : Name) → awaiting_each (refer (drop i xs)) mid n ≡ whole n) → (n : Name) → awaiting_each (refer (drop (i + 1) xs)) new n ≡ whole n
turn refer ks xs i x mid new whole parts below at awaits so_far n =
    let is : new ≡ awaiting_each ks mid = λ j m. (awaits m) j in
    let rest = refer (drop (i + 1) xs) in
    let left : refer (drop i xs) ≡ ks ++ rest = ap refer (left-is xs i x below at) ∙ parts in
    ap (λ (t : Table). awaiting_each rest t n) is
    ∙ (ap (λ (t : Table). t n) (sym (awaiting_both ks rest mid)) ∙ (ap (λ ls. awaiting_each ls mid n) (sym left) ∙ so_far n))

-- no call adds nothing
pub keeps_still : (t : Table) → KeepsAdding t t
keeps_still t = record { alone = record { at = λ n. inl refl }; behind = λ first p. p }

-- one call after another
pub keeps_on : (a b c : Table) → KeepsAdding a b → KeepsAdding b c → KeepsAdding a c
keeps_on a b c p q = record { alone = q.behind a p.alone; behind = λ first r. q.behind first (p.behind first r) }
