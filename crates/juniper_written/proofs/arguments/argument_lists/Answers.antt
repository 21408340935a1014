use Rattle.std.proofs.Common.{map, ◌++◌, ap, ◌∙◌}
use Rattle.graphql_spec.specs.Documents.{written}
use Rattle.juniper_written.specs.Parts.{lists_of}
use Rattle.juniper_written.specs.WrittenView.{view_directives_at, view_fields, view_list}
use Rattle.juniper_written.proofs.arguments.argument_lists.Goals as goal

pub returns : goal.returns
unfolding lists_of
returns g c =
    let shown = g.S.ScalarValue.shown in
    let of_fields = map (λ h. written h.arguments) (view_fields shown c.args.written.now.fields.items) in
    let of_directives = map (λ d. written d.arguments) (view_directives_at shown c.args.written.now.directives.items) in
    c.in_ok-push_of_directives.ensures ∙ ap (λ l. l ++ of_directives)
    (c.in_ok-push_of_fields.ensures ∙ ap (λ l. view_list shown l ++ of_fields) c.in_ok-lists.ensures.items)
