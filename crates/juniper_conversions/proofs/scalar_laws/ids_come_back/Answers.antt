use Rattle.std.proofs.Common.{codes, refl}
use Rattle.juniper_conversions.specs.ErrorView.{view_error}
use Rattle.juniper_conversions.proofs.IdReads.{id_back}
use Rattle.juniper_conversions.proofs.scalar_laws.ids_come_back.Goals as goal

pub returns-clause-given : goal.returns-clause-given
returns-clause-given g c = refl

pub returns-clause-back : goal.returns-clause-back
returns-clause-back g c = id_back (view_error g.S.ScalarValue.shown) (codes "String` or `Int") _
