use Rattle.std.proofs.Common.{◌≡◌, map, take}
use Rattle.graphql_spec.specs.Arguments.{with_defaults}
use Rattle.juniper_values.specs.ArgumentView.{view_arguments}
use Rattle.juniper_meta.specs.MetaView.{view_argument}
use Rattle.juniper_values.proofs.arguments.Arguments.put_defaults.Given as goal

abbrev pub invariant-loop-argument : goal.invariant-loop-argument
invariant-loop-argument g l =
    view_arguments g.S.ScalarValue.shown l.self
    ≡ with_defaults (map (view_argument g.S.ScalarValue.shown) (take l.argument-index l.declared)) (view_arguments g.S.ScalarValue.shown l.initial.self)
