use Rattle.std.proofs.Common.{ap, ◌∙◌, length, sym}
use Rattle.juniper_walk.proofs.plan.Plan.add_group.Goals as goal

pub returns : goal.returns
returns g c = let ended = c.in_ok-end_group.ensures in record {
  added = ended.added;
  key = ended.key;
  first = ap (λ n. n.0) ended.first ∙ (c.len.ensures ∙ c.args.self.now.occurrences.ok.0);
  end = ended.end ∙ sym (ap length ended.occurrences);
  groups = ended.groups;
  occurrences = ended.occurrences ∙ c.in_ok-append.ensures.items;
  questions = ended.questions;
  below = ended.below;
  left = ended.left;
}
