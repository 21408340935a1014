use Rattle.std.proofs.Common.{◌≡◌, length}
use Rattle.juniper_syntax.specs.InputView.{view_fields}
use Rattle.juniper_schema.specs.Fitting.{keys_differ}
use Rattle.juniper_schema.proofs.fits.keys_differ.Given as goal

-- what is left decides
abbrev pub invariant-loop-left : goal.invariant-loop-left
invariant-loop-left g l = keys_differ (view_fields g.S.ScalarValue.shown l.left) ≡ keys_differ (view_fields g.S.ScalarValue.shown l.fields)

abbrev pub decreases-loop-left : goal.decreases-loop-left
decreases-loop-left g l = length l.left
