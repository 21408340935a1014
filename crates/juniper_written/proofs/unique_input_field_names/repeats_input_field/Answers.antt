use Rattle.std.proofs.Common.{ap, sym, ◌∙◌, ◌||◌}
use Rattle.std.specs.List.{list_any}
use Rattle.graphql_spec.specs.Written.{default_values, defined_variables, field_repeats}
use Rattle.juniper_syntax.specs.DocumentView.{view_definition}
use Rattle.juniper_written.specs.WrittenView.{view_lists}
use Rattle.juniper_written.proofs.FieldRepeats.{repeats-parts}
use Rattle.juniper_written.proofs.unique_input_field_names.repeats_input_field.Goals as goal

pub returns-then-branch : goal.returns-then-branch
returns-then-branch g c = λ same.
    let shown = g.S.ScalarValue.shown in
    let x = view_definition shown c.args.definition.now in
    ap (λ b. b || list_any field_repeats (default_values (defined_variables x))) (sym (sym c.in_ok-lists_repeat.ensures ∙ c.if-branch.true))
    ∙ repeats-parts x (view_lists shown c.args.arguments.now) same

pub returns : goal.returns
returns g c = λ same.
    let shown = g.S.ScalarValue.shown in
    let x = view_definition shown c.args.definition.now in
    c.in_ok-found.ensures
    ∙ (ap (λ b. b || list_any field_repeats (default_values (defined_variables x))) (sym (sym c.in_ok-lists_repeat.ensures ∙ c.if-branch.false))
    ∙ repeats-parts x (view_lists shown c.args.arguments.now) same)
