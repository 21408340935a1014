use Rattle.std.proofs.Common.{sym, ap, ◌∙◌}
use Rattle.graphql_spec.specs.Values.{count_entries}
use Rattle.juniper_syntax.proofs.Values.{view-out, count-view}
use Rattle.juniper_syntax.proofs.value.Object.field_count.Goals as goal

pub returns : goal.returns
returns g c =
    let shown = g.S.ScalarValue.shown in
    c.len.ensures ∙ sym (ap count_entries (view-out shown c.args.self.now) ∙ count-view shown _)
