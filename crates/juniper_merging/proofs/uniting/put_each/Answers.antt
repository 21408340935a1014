use Rattle.std.proofs.Common.{◌∙◌, inl, inr}
use Rattle.std.proofs.lemmas.List.{get_or_default}
use Rattle.juniper_merging.proofs.Listing.{in-got}
use Rattle.juniper_merging.proofs.uniting.put_each.Goals as goal

pub loop-place-preserved : goal.loop-place-preserved
loop-place-preserved c i n e = elim (c.put_number.ensures.put i n e) [
  | inl f ↦ c.loop-place.invariant i n f
  | inr f ↦ inr (
    in-got c.args.places.now c.loop-place.place-index i c.loop-place-test.true
        (f.0 ∙ get_or_default c.args.places.now c.loop-place.place-index 0 i c.loop-place-test.true),
    f.1,
  )
]
