use Rattle.std.proofs.Common.{◌≡◌, drop, map}
use Rattle.graphql_spec.specs.Fits.{all_written}
use Rattle.juniper_meta.specs.MetaView.{view_argument}
use Rattle.juniper_syntax.specs.InputView.{view_fields}
use Rattle.juniper_schema.proofs.fits.all_written.Given as goal

-- what is left decides
abbrev pub invariant-loop-argument : goal.invariant-loop-argument
invariant-loop-argument g l =
    all_written (view_fields g.S.ScalarValue.shown l.fields) (map (view_argument g.S.ScalarValue.shown) l.declared)
    ≡ all_written (view_fields g.S.ScalarValue.shown l.fields) (map (view_argument g.S.ScalarValue.shown) (drop l.argument-index l.declared))
