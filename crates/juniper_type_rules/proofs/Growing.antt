-- Lists of numbers that are found, each once, beside their marks.
use Rattle.std.proofs.Common.{◌≡◌, ℕ, ◌<◌, ◌≤◌, Bool, true, false, not, cond, List, [], ◌∷◌, ◌++◌, length, get_or, refl, sym, ap, ◌∙◌, subst, inl, inr, arith}
use Rattle.std.proofs.Math.ListN.{set, replicate}
use Rattle.std.proofs.lemmas.Bool.{both_ways, cases_eq, cases_lt}
use Rattle.std.proofs.lemmas.List.{append_assoc, append-nil, length-append, length-set, length-replicate, get_or-replicate, get_or_past}
use Rattle.std.proofs.lemmas.List.{get_or-set_other, get_or-set_same}
use Rattle.std.proofs.lemmas.List.Sums.{sum_by-set}
use Rattle.std.proofs.lemmas.List.Folds.{sum_by-replicate}
use Rattle.graphql_spec.specs.Laws.{In}
use Rattle.graphql_spec.proofs.Grouping.{in_append, in_first, in_second}
use Rattle.juniper_type_rules.specs.Numbers.{Adds, IsFound, IsMarked}

-- ## What is added

pub kept : (n : ℕ) (xs old new : List ℕ) → Adds n xs old new → (i : ℕ) → In i old → In i new
kept n xs old new adds i e = subst (λ l. In i l) (sym adds.is) (in_first i old adds.more e)

pub adds-none : (n : ℕ) (old : List ℕ) → Adds n [] old old
adds-none n old = record { more = []; is = sym (append-nil old); only = λ i e. e; all = λ i below e. absurd e }

pub adds-then : (n : ℕ) (xs ys a b c : List ℕ) → Adds n xs a b → Adds n ys b c → Adds n (xs ++ ys) a c
adds-then n xs ys a b c p q = record {
  more = p.more ++ q.more;
  is = q.is ∙ (ap (λ l. l ++ q.more) p.is ∙ append_assoc a p.more q.more);
  only = λ i e. elim (in_append i p.more q.more e) [ inl r ↦ in_first i xs ys (p.only i r) | inr r ↦ in_second i xs ys (q.only i r) ];
  all = λ i below e. elim (in_append i xs ys e) [ inl r ↦ kept n ys b c q i (p.all i below r) | inr r ↦ q.all i below r ];
}

-- ## One number

the-one : (i x : ℕ) → In i (x ∷ []) → i ≡ x
the-one i x e = elim e [ inl q ↦ q | inr q ↦ absurd q ]

pub adds-last : (n x : ℕ) (old : List ℕ) → Adds n (x ∷ []) old (old ++ x ∷ [])
adds-last n x old = record { more = x ∷ []; is = refl; only = λ i e. e; all = λ i below e. in_second i old (x ∷ []) e }

-- a number that is none of them
pub adds-past : (n x : ℕ) (old : List ℕ) → n ≤ x → Adds n (x ∷ []) old old
adds-past n x old past = record {
  more = [];
  is = sym (append-nil old);
  only = λ i e. absurd e;
  all = λ i below e. let same = the-one i x e in absurd (omega (arith, below, same, past));
}

-- a number that is there
pub adds-there : (n x : ℕ) (old : List ℕ) → In x old → Adds n (x ∷ []) old old
adds-there n x old there = record {
  more = [];
  is = sym (append-nil old);
  only = λ i e. absurd e;
  all = λ i below e. subst (λ j. In j old) (sym (the-one i x e)) there;
}

-- ## Marks

pub none-found : (n : ℕ) → IsFound n (replicate n false) []
none-found n = record {
  size = length-replicate n false;
  count = let all = sum_by-replicate (λ (b : Bool). cond (not b) 1 0) n false in omega (arith, all);
  marked = λ i m. absurd (both_ways (get_or (replicate n false) i false) (get_or-false n i) m);
  listed = λ i e. absurd e;
}
  where
    get_or-false : (n i : ℕ) → get_or (replicate n false) i false ≡ false
    get_or-false n i = elim (cases_lt i n) [
      | inl q ↦ get_or-replicate n i false false q
      | inr q ↦ let many = length-replicate n false in get_or_past (replicate n false) i false (omega (arith, many, q))
    ]

module _ (n x : ℕ) (marks : List Bool) (order : List ℕ) (old : IsFound n marks order) (below : x < length marks) (new : get_or marks x false ≡ false) where
  mark-at : (i : ℕ) → i ≡ x → IsMarked (set marks x true) i
  mark-at i same = subst (λ j. IsMarked (set marks x true) j) (sym same) (get_or-set_same marks x true false below)

  pub one-found : IsFound n (set marks x true) (order ++ x ∷ [])
  one-found = record {
    size = length-set marks x true ∙ old.size;
    count =
        let one = sum_by-set (λ (b : Bool). cond (not b) 1 0) marks x true false below in
        let was : ◌≡◌ {A = ℕ} (cond (not (get_or marks x false)) 1 0) 1 = ap (λ b. cond (not b) 1 0) new in
        let more = length-append order (x ∷ []) in
        let all = old.count in
        omega (arith, one, was, more, all);
    marked = λ i m. elim (cases_eq i x) [
      | inl q ↦ in_second i order (x ∷ []) (inl q)
      | inr q ↦ in_first i order (x ∷ []) (old.marked i (sym (get_or-set_other marks x i true false q) ∙ m))
    ];
    listed = λ i e. elim (cases_eq i x) [
      | inl q ↦ mark-at i q
      | inr q ↦ elim (in_append i order (x ∷ []) e) [
        | inl r ↦ get_or-set_other marks x i true false q ∙ old.listed i r
        | inr r ↦ absurd (q (the-one i x r))
      ]
    ];
  }
