use Rattle.std.proofs.Common.{refl}
use Rattle.juniper_conversions.proofs.WrappedRoundTrips.{nullable_back, null_back}
use Rattle.juniper_conversions.proofs.list_laws.nullables_come_back.Goals as goal

pub returns-clause-some_given : goal.returns-clause-some_given
returns-clause-some_given g c back written h = (written, h)

pub returns-clause-some : goal.returns-clause-some
returns-clause-some g c = nullable_back g.T.FromInputValue.gives g.T.ToInputValue.input c.args.value.now

pub returns-clause-explicit_given : goal.returns-clause-explicit_given
returns-clause-explicit_given g c = refl

pub returns-clause-explicit : goal.returns-clause-explicit
returns-clause-explicit g c = null_back g.T.FromInputValue.gives

pub returns-clause-implicit_given : goal.returns-clause-implicit_given
returns-clause-implicit_given g c = refl

pub returns-clause-implicit : goal.returns-clause-implicit
returns-clause-implicit g c = null_back g.T.FromInputValue.gives
