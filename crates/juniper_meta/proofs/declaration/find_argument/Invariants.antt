use Rattle.std.proofs.Common.{◌≡◌, map, drop}
use Rattle.graphql_spec.specs.Fields.{declaration_in}
use Rattle.juniper_meta.specs.MetaView.{view_argument}
use Rattle.juniper_meta.proofs.declaration.find_argument.Given as goal

-- what is left decides
abbrev pub invariant-loop-argument : goal.invariant-loop-argument
invariant-loop-argument g l = declaration_in (map (view_argument g.S.ScalarValue.shown) l.arguments) l.name
    ≡ declaration_in (map (view_argument g.S.ScalarValue.shown) (drop l.argument-index l.arguments)) l.name
