use Rattle.std.proofs.Common.{rules, ◌==◌, option_map, string_bytes, refl, sym, ap, inl, inr, subst, ◌∙◌}
use Rattle.graphql_spec.specs.Documents.{variables_of}
use Rattle.graphql_spec.specs.Requests as spec
use Rattle.juniper_syntax.specs.DocumentView.{view_operation}
use Rattle.juniper_syntax.specs.InputView.{view_variables}
use Rattle.juniper_schema.specs.SchemaView.{view_schema}
use Rattle.juniper.specs.Answering.{AreRefused, StandsFor}
use Rattle.juniper.specs.RequestErrors.{view_request_error}
use Rattle.juniper.proofs.Composing.{none-found, some-found}
use Rattle.juniper.proofs.request.check_variables.Goals as goal

pub returns-then-not-is_empty : goal.returns-then-not-is_empty
returns-then-not-is_empty g c =
    let shown = g.S.ScalarValue.shown in
    let s = view_schema shown c.args.schema.now in
    let o = view_operation shown c.args.operation.now in
    let P = AreRefused s o (view_variables shown c.args.variables.now) in
    subst (λ e. StandsFor P (view_request_error e)) (sym c.from.ensures)
    (some-found c.in_ok-errors.errors.items c.is_empty.result (c.is_empty.ensures ∙ ap (λ n. n == 0) c.in_ok-errors.errors.ok.0) _
    (c.in_ok-errors.ensures ∙ ap (spec.variable_errors s (variables_of o)) c.in_ok-given.ensures)
    (search (rules, c.if-not-is_empty.true)) P (λ x xs found. inl (x, xs, refl, found)))

pub returns-in-Some : goal.returns-in-Some
returns-in-Some g c =
    let shown = g.S.ScalarValue.shown in
    let vs = variables_of (view_operation shown c.args.operation.now) in
    let first = sym (ap (spec.first_not_constant vs) c.in_ok-given.ensures)
    ∙ (sym c.first_not_constant.ensures ∙ ap (option_map (λ n. n.now)) c.in-Some.is) in
    let fitting = none-found c.in_ok-errors.errors.items c.is_empty.result
    (c.is_empty.ensures ∙ ap (λ n. n == 0) c.in_ok-errors.errors.ok.0) _
    (c.in_ok-errors.ensures ∙ ap (spec.variable_errors (view_schema shown c.args.schema.now) vs) c.in_ok-given.ensures)
    (search (rules, c.if-not-is_empty.false)) in (
      spec.variable_not_constant (string_bytes c.in_ok-held-in-Some.held),
      refl,
      inr (fitting, (c.in-Some.name.now, ap spec.variable_not_constant c.in_ok-held-in-Some.ensures.ok, first)),
    )

pub returns : goal.returns
returns g c =
    let shown = g.S.ScalarValue.shown in
    let vs = variables_of (view_operation shown c.args.operation.now) in
    record {
      fitting = none-found c.in_ok-errors.errors.items c.is_empty.result
          (c.is_empty.ensures ∙ ap (λ n. n == 0) c.in_ok-errors.errors.ok.0) _
          (c.in_ok-errors.ensures ∙ ap (spec.variable_errors (view_schema shown c.args.schema.now) vs) c.in_ok-given.ensures)
          (search (rules, c.if-not-is_empty.false));
      constant = sym (ap (spec.first_not_constant vs) c.in_ok-given.ensures)
          ∙ (sym c.first_not_constant.ensures ∙ ap (option_map (λ n. n.now)) c.in-None.is);
    }
