use Rattle.std.proofs.Common.{◌++◌, ap, ◌∙◌}
use Rattle.juniper_written.proofs.Lists.{flat-all, flat-seen}
use Rattle.juniper_type_rules.specs.UsesView.{view_used_at, view_numbered, where_marked}
use Rattle.juniper_type_rules.proofs.reach.push_marked.Goals as goal

pub returns : goal.returns
returns c =
    let old = view_used_at c.args.uses.now.items in
    flat-all (λ u. where_marked c.args.marks.now (view_numbered u)) c.args.numbered.now old c.loop-one.one-index (view_used_at c.loop-one.uses.items)
    c.loop-one-test.false c.loop-one.invariant
    ∙ ap (λ l. old ++ l) (flat-seen view_numbered (where_marked c.args.marks.now) c.args.numbered.now)
