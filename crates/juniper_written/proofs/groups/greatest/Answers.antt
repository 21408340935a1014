use Rattle.std.proofs.Common.{◌≡◌, ◌≤◌, [], Bor, List, ℕ, true, false, nat_cmp, Ordering, Less, Equal, Greater, inl, inr, refl, arith}
use Rattle.std.specs.Ordering.{is_gt, is_lt, ord_max}
use Rattle.std.proofs.lemmas.Bool.{cases_Bool}
use Rattle.std.proofs.lemmas.Map.Keys.{ge_from_not_lt, le_from_not_gt}
use Rattle.juniper_written.specs.WrittenView.{named}
use Rattle.juniper_written.specs.SpreadsView.{rank_of}
use Rattle.juniper_written.proofs.FragmentNames.{true_false}
use Rattle.juniper_written.proofs.Testing.{holds-next, holds-ends}
use Rattle.juniper_written.proofs.groups.greatest.Goals as goal

abbrev no-name : Bor (List ℕ)
no-name = record { ref_ptr = (0, 0); now = [] }

not_gt : (o : Ordering) → is_lt o ≡ true → is_gt o ≡ false
not_gt Less e = refl
not_gt Equal e = true_false false e refl
not_gt Greater e = true_false false e refl

-- neither number is greater than the greater one
most : (a b : ℕ) → (a ≤ ord_max nat_cmp a b) × (b ≤ ord_max nat_cmp a b)
most a b = elim (cases_Bool (is_lt (nat_cmp b a))) [
  | inl q ↦ rw q (omega arith, le_from_not_gt b a (not_gt (nat_cmp b a) q))
  | inr q ↦ rw q (ge_from_not_lt b a q, omega arith)
]

pub loop-name-init : goal.loop-name-init
loop-name-init c = λ k h. inr h

pub loop-name-preserved : goal.loop-name-preserved
loop-name-preserved c =
    let f = most c.loop-name.greatest c.rank.result in
    let is = c.max-greatest.ensures in
    let own = c.rank.ensures in
    holds-next c.args.names.now (λ k. rank_of (named c.args.groups.now k) ≤ c.loop-name.greatest)
    (λ k. rank_of (named c.args.groups.now k) ≤ c.max-greatest.result) c.loop-name.name-index no-name c.loop-name-test.true
    (λ k l. omega (arith, l, f.0, is)) (omega (arith, own, f.1, is)) c.loop-name.invariant

pub returns : goal.returns
returns c =
    holds-ends c.args.names.now (λ k. rank_of (named c.args.groups.now k) ≤ c.loop-name.greatest) c.loop-name.name-index c.loop-name-test.false
    c.loop-name.invariant
