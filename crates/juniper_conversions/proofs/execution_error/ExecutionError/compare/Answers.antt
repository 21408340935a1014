use Rattle.std.proofs.Common.{refl}
use Rattle.juniper_conversions.specs.ErrorView.{view_listed}
use Rattle.juniper_conversions.proofs.ErrorOrder.{compares}
use Rattle.juniper_conversions.proofs.execution_error.ExecutionError.compare.Goals as goal

pub returns : goal.returns
returns g c =
    let view = view_listed g.S.ScalarValue.shown in
    cc (compares (view c.args.self.now) (view c.args.other.now) c.args.self.now.path.items c.args.other.now.path.items refl refl)
