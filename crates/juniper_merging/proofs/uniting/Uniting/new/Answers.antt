use Rattle.juniper_merging.proofs.Making.{none-uniting}
use Rattle.juniper_merging.proofs.uniting.Uniting.new.Goals as goal

pub returns : goal.returns
returns c vs t H = none-uniting vs t H (record {
  alloc = c.args.alloc;
  members = c.new.result;
  judges = c.new-2.result;
  single = c.in_ok-no_numbers.field-0;
  judge_of = c.in_ok-no_numbers-2.field-0;
  waiting = c.in_ok-empty_lists.field-0;
  united = c.new-3.result;
}) c.new.ensures.items c.new-2.ensures.items c.new-3.ensures.items c.in_ok-no_numbers.ensures c.in_ok-no_numbers-2.ensures
