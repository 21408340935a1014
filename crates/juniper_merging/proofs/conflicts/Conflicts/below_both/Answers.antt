use Rattle.std.proofs.Common.{ap, subst, sym, ◌++◌, ◌∙◌}
use Rattle.juniper_merging.specs.Nodes.{Says, list_of}
use Rattle.juniper_merging.specs.Questions.{worse}
use Rattle.juniper_merging.proofs.Joint.{says-join}
use Rattle.juniper_merging.proofs.conflicts.Conflicts.below_both.Goals as goal

pub returns : goal.returns
returns c vs H known =
    let xs = list_of H c.args.first in
    let ys = list_of H c.args.second in
    subst (Says vs (xs ++ ys)) (sym (c.worse-2.ensures ∙ ap (worse c.in_ok-own.own) c.worse.ensures))
    (says-join vs xs ys c.in_ok-own.own c.in_ok-other.other c.in_ok-across.across (c.in_ok-own.ensures vs H known) (c.in_ok-other.ensures vs H known)
    (c.in_ok-across.ensures vs H known))
