-- How two fields clash, by how what they select does.
use Rattle.std.specs.Prelude.{Bool, true, false, not, ◌&&◌, ◌||◌, ◌≡◌}
use Rattle.std.proofs.Common.{refl, sym}
use Rattle.juniper_merging.specs.Conflicts.{over}
use Rattle.juniper_merging.specs.Questions.{passes}
use Rattle.juniper_merging.specs.declared.clash.Clash.{Clash}
use Rattle.juniper_merging.specs.declared.clash.Clash.TheVariants as clash

and-false : (b : Bool) → (b && false) ≡ false
and-false true = refl
and-false false = refl

pub over-passes : (m met same : Bool) (c : Clash) → passes m (over met same c) ≡ ((not (m && met) || same) && passes (m && met) c)
unfolding over passes
over-passes m met same clash.Shape = sym (and-false (not (m && met) || same))
over-passes false false same clash.Nothing = refl
over-passes false true true clash.Nothing = refl
over-passes false true false clash.Nothing = refl
over-passes true false same clash.Nothing = refl
over-passes true true true clash.Nothing = refl
over-passes true true false clash.Nothing = refl
over-passes false true same clash.Merging = refl
over-passes false false same clash.Merging = refl
over-passes true false same clash.Merging = refl
over-passes true true same clash.Merging = sym (and-false same)
