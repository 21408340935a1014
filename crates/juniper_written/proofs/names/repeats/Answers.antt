use Rattle.std.proofs.Common.{take, drop, length, ◌-◌}
use Rattle.juniper_written.specs.WrittenView.{has_name, view_names}
use Rattle.juniper_written.proofs.Repeated.{front-is, none-left, left-first, left-next, left-seen, left-none, not-false, not-true}
use Rattle.juniper_written.proofs.names.repeats.Goals as goal

pub loop-left-init : goal.loop-left-init
loop-left-init c = left-first (view_names c.args.names.now) (has_name c.new-seen.result) c.new-seen.ensures

pub loop-left-preserved : goal.loop-left-preserved
loop-left-preserved c =
    left-next (view_names c.args.names.now) (view_names c.loop-left.left.now)
    (view_names (take (length c.loop-left.left.now - 1) (drop 1 c.loop-left.left.now))) _ (has_name c.loop-left.seen) (has_name c.insert.new.self)
    (front-is c.loop-left.left.now _ c.in-len1-up.len_at_least) (not-true _ _ c.in_ok-insert.ensures.found c.if-not-branch.false) c.in_ok-insert.ensures.added
    c.loop-left.invariant

pub returns : goal.returns
returns c = left-none (view_names c.args.names.now) (view_names c.loop-left.left.now) (has_name c.loop-left.seen)
    (none-left c.loop-left.left.now c.in_default.len_below) c.loop-left.invariant

pub returns-then-not-branch : goal.returns-then-not-branch
returns-then-not-branch c =
    left-seen (view_names c.args.names.now) (view_names c.loop-left.left.now)
    (view_names (take (length c.loop-left.left.now - 1) (drop 1 c.loop-left.left.now))) _ (has_name c.loop-left.seen)
    (front-is c.loop-left.left.now _ c.in-len1-up.len_at_least) (not-false _ _ c.in_ok-insert.ensures.found c.if-not-branch.true) c.loop-left.invariant
