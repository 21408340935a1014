use Rattle.juniper_conversions.proofs.ListRoundTrips.{array_given, array_back, some_each}
use Rattle.juniper_conversions.proofs.list_laws.arrays_come_back.Goals as goal

pub returns-clause-given : goal.returns-clause-given
returns-clause-given g c back = array_given g.row.S.Denot g.T.FromInputValue.gives g.T.ToInputValue.input g.row.N c.args.values.now back c.type_inv.values

pub returns-clause-exists : goal.returns-clause-exists
returns-clause-exists g c all =
    let found = some_each g.T.FromInputValue.gives g.T.ToInputValue.input c.args.values.now all in
    (found.0, array_given g.row.S.Denot g.T.FromInputValue.gives g.T.ToInputValue.input g.row.N c.args.values.now found.0 c.type_inv.values found.1)

pub returns-clause-back : goal.returns-clause-back
returns-clause-back g c = array_back g.row.S.Denot g.T.FromInputValue.gives g.T.ToInputValue.input g.row.N c.args.values.now c.type_inv.values
