use Rattle.std.proofs.Common.{codes, refl}
use Rattle.graphql_spec.specs.Shown.{shown_int}
use Rattle.juniper_conversions.specs.ErrorView.{view_error}
use Rattle.juniper_conversions.proofs.ScalarRoundTrips.{int_back}
use Rattle.juniper_conversions.proofs.scalar_laws.ints_come_back.Goals as goal

pub returns-clause-given : goal.returns-clause-given
unfolding shown_int
returns-clause-given g c = refl

pub returns-clause-back : goal.returns-clause-back
returns-clause-back g c = int_back (view_error g.S.ScalarValue.shown) (codes "Int") _
