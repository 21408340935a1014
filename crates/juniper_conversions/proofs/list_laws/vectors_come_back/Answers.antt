use Rattle.juniper_conversions.proofs.ListRoundTrips.{vec_given, vec_exists, vec_back}
use Rattle.juniper_conversions.proofs.list_laws.vectors_come_back.Goals as goal

pub returns-clause-given : goal.returns-clause-given
returns-clause-given g c = vec_given g.row.S.Denot g.T.FromInputValue.gives g.T.ToInputValue.input c.args.values.now.items

pub returns-clause-exists : goal.returns-clause-exists
returns-clause-exists g c = vec_exists g.row.S.Denot g.T.FromInputValue.gives g.T.ToInputValue.input c.args.values.now

pub returns-clause-back : goal.returns-clause-back
returns-clause-back g c = vec_back g.row.S.Denot g.T.FromInputValue.gives g.T.ToInputValue.input c.args.values.now.items
