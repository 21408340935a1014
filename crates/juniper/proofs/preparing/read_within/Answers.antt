use Rattle.std.proofs.Common.{map, ap, ◌∙◌}
use Rattle.graphql_spec.specs.Documents.{Document}
use Rattle.graphql_spec.specs.Grammar.{Spells}
use Rattle.juniper_syntax.specs.DocumentView.{view_definition, view_document}
use Rattle.juniper.proofs.Composing.{read-failed}
use Rattle.juniper.proofs.Objecting.{tells-fields, tells-levels}
use Rattle.juniper.proofs.preparing.read_within.Goals as goal

pub returns-in-Err : goal.returns-in-Err
returns-in-Err g c = (
  c.if-text-bounds.false,
  read-failed ((d : Document) → Spells c.args.text.now d → ⊥) c.in-Err.error c.from.result c.from.ensures c.in-Err.ensures,
)

pub returns-then-has_more_fields : goal.returns-then-has_more_fields
returns-then-has_more_fields g c =
    let view = view_definition g.S.ScalarValue.shown in
    let d = view_document g.S.ScalarValue.shown c.in-Ok.document in
    let more = tells-fields c.args.bounds.now.fields c.in-Ok-expanded_counts.counts.items c.as_slice-2.result.now c.has_more_fields.result d
    (map view c.as_slice.result.now) c.as_slice-2.ensures.value (ap (map view) c.as_slice.ensures.value)
    c.has_more_fields.ensures c.in-Ok-expanded_counts.ensures.fields in
    (d, (c.if-text-bounds.false, c.in-Ok.ensures), more ∙ c.if-has_more_fields.true)

pub returns-then-has_more_levels : goal.returns-then-has_more_levels
returns-then-has_more_levels g c =
    let view = view_definition g.S.ScalarValue.shown in
    let d = view_document g.S.ScalarValue.shown c.in-Ok.document in
    let counts = c.in-Ok-expanded_counts.counts.items in
    let fields = tells-fields c.args.bounds.now.fields counts c.as_slice-2.result.now c.has_more_fields.result d (map view c.as_slice.result.now)
    c.as_slice-2.ensures.value (ap (map view) c.as_slice.ensures.value) c.has_more_fields.ensures c.in-Ok-expanded_counts.ensures.fields in
    let levels = tells-levels c.args.bounds.now.levels counts c.as_slice-3.result.now c.has_more_levels.result d (map view c.as_slice.result.now)
    c.as_slice-3.ensures.value (ap (map view) c.as_slice.ensures.value) c.has_more_levels.ensures c.in-Ok-expanded_counts.ensures.levels in
    (d, (c.if-text-bounds.false, c.in-Ok.ensures), fields ∙ c.if-has_more_fields.false, levels ∙ c.if-has_more_levels.true)

pub returns : goal.returns
returns g c =
    let view = view_definition g.S.ScalarValue.shown in
    let d = view_document g.S.ScalarValue.shown c.in-Ok.document in
    let counts = c.in-Ok-expanded_counts.counts.items in
    let fields = tells-fields c.args.bounds.now.fields counts c.as_slice-2.result.now c.has_more_fields.result d (map view c.as_slice.result.now)
    c.as_slice-2.ensures.value (ap (map view) c.as_slice.ensures.value) c.has_more_fields.ensures c.in-Ok-expanded_counts.ensures.fields in
    let levels = tells-levels c.args.bounds.now.levels counts c.as_slice-3.result.now c.has_more_levels.result d (map view c.as_slice.result.now)
    c.as_slice-3.ensures.value (ap (map view) c.as_slice.ensures.value) c.has_more_levels.ensures c.in-Ok-expanded_counts.ensures.levels in
    ((c.if-text-bounds.false, c.in-Ok.ensures), fields ∙ c.if-has_more_fields.false, levels ∙ c.if-has_more_levels.false)
