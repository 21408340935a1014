use Rattle.std.proofs.Common.{sym, ap, ◌∙◌, slice_range, subst, length, ◌≤◌}
use Rattle.juniper_walk.proofs.Standing.{fields-at, part-is, within-at}
use Rattle.juniper_walk.proofs.plan.Plan.fields.Goals as goal

pub part_of-requires : goal.part_of-requires
part_of-requires g c =
    let bounds = within-at _ c.args.self.now.groups.items c.args.group.0 c.index-found.result.now c.requires.within c.requires.bound c.index-found.ensures in
    record {
      ordered = bounds.0;
      inside = subst (λ l. c.index-found.result.now.end.0 ≤ length l) (sym c.as_slice.ensures.value) bounds.1;
    }

pub returns : goal.returns
returns g c =
    c.part_of.ensures ∙ (ap (λ l. slice_range l c.index-found.result.now.first.0 c.index-found.result.now.end.0) c.as_slice.ensures.value
    ∙ (part-is c.args.self.now.occurrences.items c.index-found.result.now
    ∙ sym (fields-at c.args.self.now c.args.group.0 c.index-found.result.now c.requires.bound c.index-found.ensures).0))
