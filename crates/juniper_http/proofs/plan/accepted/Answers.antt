use Rattle.std.proofs.Common.{map}
use Rattle.juniper_http.specs.Accept.{view_range}
use Rattle.juniper_http.specs.Plans.{taken_by}
use Rattle.juniper_http.proofs.Ranges.{next_line, no_line}
use Rattle.juniper_http.proofs.plan.accepted.Goals as goal

pub loop-value-preserved : goal.loop-value-preserved
loop-value-preserved c =
    let l = c.loop-value in
    next_line (map view_range l.made.items) _ (taken_by c.args.request.now) l.value-iterator c.next.new.self c.in-Some.value.now
    c.in-Some.ensures.steps c.in_ok-made.ensures l.invariant

pub returns : goal.returns
returns c =
    let l = c.loop-value in no_line (map view_range l.made.items) (taken_by c.args.request.now) l.value-iterator c.in-None.ensures.steps.0 l.invariant
