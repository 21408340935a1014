use Rattle.std.proofs.Common.{ap, ◌∙◌}
use Rattle.std.proofs.lemmas.Result.{IfOk-weaker}
use Rattle.graphql_spec.specs.Fields.{type_named}
use Rattle.graphql_spec.specs.Types.{innermost}
use Rattle.juniper_meta.specs.MetaView.{view_type}
use Rattle.juniper_schema.specs.SchemaView.{view_schema}
use Rattle.juniper_explain.specs.Nearest.{suggested}
use Rattle.juniper_explain.specs.Reasons.{meant_by, value_names}
use Rattle.juniper_explain.proofs.value_parts.meant_value.Goals as goal

pub returns-in_ok-names-in-Some : goal.returns-in_ok-names-in-Some
unfolding meant_by
returns-in_ok-names-in-Some g c =
    let s = view_schema g.S.ScalarValue.shown c.args.schema.now in
    let names = value_names (type_named s (innermost (view_type c.args.expected.now))) in
    IfOk-weaker c.suggested.result _ _ (λ o is. is
    ∙ (ap (suggested c.in-Some.word.now) (c.in_ok-names-in-Some.ensures ∙ ap (λ n. value_names (type_named s n)) c.innermost_name.ensures)
    ∙ ap (meant_by names) c.in-Some.ensures)) c.suggested.ensures

pub returns-in-None : goal.returns-in-None
unfolding meant_by
returns-in-None g c =
    let s = view_schema g.S.ScalarValue.shown c.args.schema.now in
    ap (meant_by (value_names (type_named s (innermost (view_type c.args.expected.now))))) c.in-None.ensures
