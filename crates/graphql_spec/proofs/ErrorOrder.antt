-- The order of listed errors is a total order (7.1.2).
use Rattle.std.proofs.Common.{◌≡◌, refl}
use Rattle.std.specs.Cmp.{IsTotalOrder, nat_cmp_total}
use Rattle.std.specs.Cmp.Lexicographic.{slice_cmp, lists_total}
use Rattle.std.specs.Ordering.{nat_cmp, ordering_reverse}
use Rattle.std.specs.declared.cmp.Ordering.TheVariants.{Less, Equal}
use Rattle.std.proofs.lemmas.Cmp.{then_total, on_total}
use Rattle.graphql_spec.specs.Errors.{Step, key, index, compare_positions, compare_steps, compare}

pub names_total : IsTotalOrder (slice_cmp nat_cmp)
names_total = lists_total nat_cmp_total

pub positions_total : IsTotalOrder compare_positions
unfolding compare_positions
positions_total = then_total (on_total (λ p. p.index) nat_cmp_total) (then_total (on_total (λ p. p.line) nat_cmp_total)
    (on_total (λ p. p.column) nat_cmp_total))

steps_antisymm : (x y : Step) → compare_steps x y ≡ ordering_reverse (compare_steps y x)
unfolding compare_steps
steps_antisymm (index n) (index m) = nat_cmp_total.antisymm n m
steps_antisymm (index n) (key k) = refl
steps_antisymm (key k) (index m) = refl
steps_antisymm (key k) (key j) = names_total.antisymm k j

steps_trans : (x y z : Step) → compare_steps x y ≡ Less → compare_steps y z ≡ Less → compare_steps x z ≡ Less
unfolding compare_steps
steps_trans (index n) (index m) (index l) p q = nat_cmp_total.trans n m l p q
steps_trans (index n) (index m) (key k) p q = refl
steps_trans (index n) (key k) (index m) p q = cc
steps_trans (index n) (key k) (key j) p q = refl
steps_trans (key k) (index n) z p q = cc
steps_trans (key k) (key j) (index n) p q = cc
steps_trans (key k) (key j) (key i) p q = names_total.trans k j i p q

steps_congr : (x y z : Step) → compare_steps x y ≡ Equal → compare_steps x z ≡ compare_steps y z
unfolding compare_steps
steps_congr (index n) (index m) (index l) p = nat_cmp_total.congr n m l p
steps_congr (index n) (index m) (key k) p = refl
steps_congr (index n) (key k) z p = cc
steps_congr (key k) (index n) z p = cc
steps_congr (key k) (key j) (index n) p = refl
steps_congr (key k) (key j) (key i) p = names_total.congr k j i p

pub steps_total : IsTotalOrder compare_steps
steps_total = record { antisymm = steps_antisymm; trans = steps_trans; congr = steps_congr }

pub compare_total : IsTotalOrder compare
unfolding compare
compare_total = then_total (on_total (λ e. e.start) positions_total) (then_total (on_total (λ e. e.path) (lists_total steps_total))
    (on_total (λ e. e.error.message) names_total))
