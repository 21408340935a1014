use Rattle.std.proofs.Common.{false, ◌≡◌, refl, sym, ◌∙◌, ap}
use Rattle.std.proofs.lemmas.Bool.{both_ways}
use Rattle.std.specs.Str.{bytes_eq}
use Rattle.graphql_spec.specs.Documents.{response_key}
use Rattle.graphql_spec.proofs.Lists.{same_true}
use Rattle.juniper_schema.specs.SchemaView.{view_schema}
use Rattle.juniper_syntax.specs.DocumentView.{view_field}
use Rattle.juniper_field_graph.proofs.PlainFields.{like-from}
use Rattle.juniper_field_graph.proofs.plain_keys.is_like.Goals as goal
use Rattle.juniper_field_graph.proofs.plain_keys.is_like.Goals.{then-eq, else-eq}

pub returns-then-same_call : goal.returns-then-same_call
returns-then-same_call g c = λ types first second.
    let shown = g.S.ScalarValue.shown in
    let one = view_field shown c.args.first.now.field.now in
    let other = view_field shown c.args.second.now.field.now in
    elim c.if-eq.branch [
      | then-eq w ↦
          let key : response_key one ≡ response_key other = same_true (response_key one) (response_key other)
          (ap (λ k. bytes_eq k (response_key other)) (sym c.response_key.ensures) ∙ (ap (bytes_eq c.response_key.result.now) (sym c.response_key-2.ensures)
          ∙ (sym c.eq.ensures ∙ w.if-eq.true))) in (
            key,
            like-from (view_schema shown c.args.schema.now) c.args.first.now.parent.now c.args.second.now.parent.now one other
                (sym (w.same_call.ensures first second) ∙ (sym w.value-is ∙ c.if-same_call.true)) (c.has_types_that_agree.ensures types),
          )
      | else-eq w ↦ absurd (both_ways false refl (sym w.if-eq.false ∙ (sym w.value-is ∙ c.if-same_call.true)))
    ]
