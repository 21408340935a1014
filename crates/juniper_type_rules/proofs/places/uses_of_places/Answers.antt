use Rattle.std.proofs.Common.{[], ◌++◌, ap, map, ◌∙◌}
use Rattle.juniper_syntax.proofs.Lists.{seen-push}
use Rattle.juniper_written.proofs.Lists.{seen-all, seen-next, seen-twice}
use Rattle.juniper_type_rules.specs.UsesView.{view_place, view_use, view_uses}
use Rattle.juniper_type_rules.proofs.places.uses_of_places.Goals as goal

pub loop-place-init : goal.loop-place-init
loop-place-init c = ap (λ l. view_uses l ++ map (λ p. view_use p.used) c.args.places.now) c.in_ok-uses.ensures.items

pub loop-place-preserved : goal.loop-place-preserved
loop-place-preserved c =
    let l = c.loop-place in
    seen-next (λ p. view_use p.used) c.args.places.now [] l.place-index c.place-item.result (view_uses l.uses.items) (view_uses c.push.new.self.items)
    c.loop-place-test.true c.place-item.is l.invariant
    (seen-push view_use l.uses.items c.push.new.self.items c.place-item.result.used c.in_ok-push.ensures.items)

pub returns : goal.returns
returns c =
    let xs = c.args.places.now in
    seen-all (λ p. view_use p.used) xs [] c.loop-place.place-index (view_uses c.loop-place.uses.items) c.loop-place-test.false c.loop-place.invariant
    ∙ seen-twice view_place (λ p. p.used) xs
