use Rattle.std.proofs.Common.{refl}
use Rattle.juniper_conversions.proofs.RoundTrips.{none_back, some_back}
use Rattle.juniper_conversions.proofs.laws.options_come_back.Goals as goal

pub returns-clause-some_given : goal.returns-clause-some_given
returns-clause-some_given g c back written h = (written, h)

pub returns-clause-some : goal.returns-clause-some
returns-clause-some g c = some_back g.T.FromInputValue.gives g.T.ToInputValue.input c.args.value.now

pub returns-clause-none_given : goal.returns-clause-none_given
returns-clause-none_given g c = refl

pub returns-clause-none : goal.returns-clause-none
returns-clause-none g c = none_back g.T.FromInputValue.gives
