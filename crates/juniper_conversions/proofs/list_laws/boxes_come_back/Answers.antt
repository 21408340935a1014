use Rattle.juniper_conversions.proofs.WrappedRoundTrips.{box_back}
use Rattle.juniper_conversions.proofs.list_laws.boxes_come_back.Goals as goal

pub returns-clause-given : goal.returns-clause-given
returns-clause-given g c back h = h

pub returns-clause-back : goal.returns-clause-back
returns-clause-back g c = box_back g.T.FromInputValue.gives g.T.ToInputValue.input c.args.value.now.value
