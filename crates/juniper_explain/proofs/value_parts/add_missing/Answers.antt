use Rattle.std.proofs.Common.{ap, ◌++◌, ◌∙◌}
use Rattle.std.specs.List.{flat_map}
use Rattle.juniper_meta.specs.MetaView.{view_argument, view_type}
use Rattle.juniper_schema.specs.SchemaView.{view_schema}
use Rattle.juniper_syntax.specs.InputView.{view_fields}
use Rattle.juniper_written.proofs.Lists.{flat-all, flat-seen}
use Rattle.juniper_explain.specs.Reasons.{declared_at, missing_at, missing_field}
use Rattle.juniper_explain.specs.ReasonsView.{view_messages}
use Rattle.juniper_explain.proofs.value_parts.add_missing.Goals as goal

pub returns : goal.returns
unfolding missing_at declared_at
returns g c =
    let shown = g.S.ScalarValue.shown in
    let fs = view_fields shown c.args.fields.now in
    let p = c.args.path.now in
    let old = view_messages c.args.messages.now.items in
    let ds = c.input_fields-declared.result.now in
    let T = c.innermost_name-type_name.result.now in
    flat-all (λ x. missing_field fs T p (view_argument shown x)) ds old c.loop-field.field-index (view_messages c.loop-field.messages.items)
    c.loop-field-test.false c.loop-field.invariant
    ∙ ap (λ l. old ++ l) (flat-seen (view_argument shown) (missing_field fs T p) ds
    ∙ (ap (flat_map (missing_field fs T p)) c.input_fields-declared.ensures
    ∙ ap (λ n. flat_map (missing_field fs n p) (declared_at (view_schema shown c.args.schema.now) (view_type c.args.expected.now)))
    c.innermost_name-type_name.ensures))
