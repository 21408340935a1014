use Rattle.std.proofs.Common.{ap, sym, ◌∙◌}
use Rattle.juniper_written.specs.WrittenView.{named}
use Rattle.juniper_written.specs.SpreadsView.{has_root}
use Rattle.juniper_written.proofs.Looking.{got, got-none}
use Rattle.juniper_written.proofs.groups.is_under.Goals as goal

pub returns-in-Some : goal.returns-in-Some
unfolding has_root
returns-in-Some c =
    c.eq.ensures ∙ ap (has_root c.args.root.now) (sym (got c.get.result (named c.args.groups.now c.args.name.now) c.in-Some.found c.get.ensures c.in-Some.is))

pub returns-in-None : goal.returns-in-None
unfolding has_root
returns-in-None c =
    ap (has_root c.args.root.now) (sym (got-none c.get.result (named c.args.groups.now c.args.name.now) c.get.ensures c.in-None.is))
