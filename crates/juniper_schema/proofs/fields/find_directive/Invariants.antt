use Rattle.std.proofs.Common.{◌≡◌, map, drop}
use Rattle.graphql_spec.specs.Placed.{directive_in}
use Rattle.juniper_meta.specs.MetaView.{view_directive}
use Rattle.juniper_schema.proofs.fields.find_directive.Given as goal

-- what is left decides
abbrev pub invariant-loop-directive : goal.invariant-loop-directive
invariant-loop-directive g l = directive_in (map (view_directive g.S.ScalarValue.shown) l.directives) l.name
    ≡ directive_in (map (view_directive g.S.ScalarValue.shown) (drop l.directive-index l.directives)) l.name
