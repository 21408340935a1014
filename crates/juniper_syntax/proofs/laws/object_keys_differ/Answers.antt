use Rattle.std.proofs.Common.{ap, ◌∙◌}
use Rattle.graphql_spec.specs.Values.{keys_differ}
use Rattle.juniper_syntax.proofs.Values.{view-out}
use Rattle.juniper_syntax.proofs.ValueKeys.{distinct-differ}
use Rattle.juniper_syntax.proofs.laws.object_keys_differ.Goals as goal

pub returns : goal.returns
returns g c =
    let shown = g.S.ScalarValue.shown in
    ap keys_differ (view-out shown c.args.object.now) ∙ distinct-differ shown _ c.keys_differ.ensures
