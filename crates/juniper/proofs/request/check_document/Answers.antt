use Rattle.std.proofs.Common.{◌==◌, refl, sym, ap, subst, ◌∙◌}
use Rattle.juniper_syntax.specs.DocumentView.{view_document}
use Rattle.juniper_schema.specs.SchemaView.{view_schema}
use Rattle.juniper.specs.Answering.{IsInvalid, StandsFor}
use Rattle.juniper.specs.RequestErrors.{view_request_error}
use Rattle.juniper.proofs.Composing.{some-found}
use Rattle.juniper.proofs.request.check_document.Goals as goal

pub returns-else-is_empty : goal.returns-else-is_empty
returns-else-is_empty g c =
    let shown = g.S.ScalarValue.shown in
    let P = IsInvalid (view_schema shown c.args.schema.now) c.args.is_introspection_disabled (view_document shown c.args.document.now) in
    subst (λ e. StandsFor P (view_request_error e)) (sym c.from.ensures)
    (some-found c.in_ok-errors.errors.items c.is_empty.result (c.is_empty.ensures ∙ ap (λ n. n == 0) c.in_ok-errors.errors.ok.0) _ c.in_ok-errors.ensures
    c.if-is_empty.false P (λ x xs found. (x, xs, refl, found)))
