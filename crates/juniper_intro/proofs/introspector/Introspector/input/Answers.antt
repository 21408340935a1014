use Rattle.std.proofs.Common.{sym, ap, ◌∙◌}
use Rattle.juniper_meta.specs.MetaView.{view_argument}
use Rattle.juniper_schema.specs.SchemaView.{view_schema}
use Rattle.juniper_intro.specs.HandleView.{view_input_place}
use Rattle.juniper_intro.specs.Handles.{directive_at, field_at, input_at, no_input}
use Rattle.juniper_intro.specs.Introspectors.{names_of, schema_of}
use Rattle.juniper_intro.proofs.Looked.{looked}
use Rattle.juniper_intro.proofs.introspector.Introspector.input.Goals as goal

pub returns-in-OfField : goal.returns-in-OfField
unfolding input_at
returns-in-OfField g c =
    let shown = g.S.ScalarValue.shown in
    let s = view_schema shown (schema_of c.args.self.now) in
    looked (view_argument shown) c.declared_arguments.result.now c.args.self.now.absent.input c.nth_or.result.now c.in-OfField.number no_input
    (field_at s (names_of c.args.self.now) c.in-OfField.of_type c.in-OfField.field).arguments c.nth_or.ensures
    (c.declared_arguments.ensures ∙ ap (λ f. f.arguments) c.field.ensures) c.args.self.now.absent.no_input
    ∙ ap (λ p. input_at s (names_of c.args.self.now) (view_input_place p)) (sym c.in-OfField.is)

pub returns-in-OfDirective : goal.returns-in-OfDirective
unfolding input_at
returns-in-OfDirective g c =
    let shown = g.S.ScalarValue.shown in
    let s = view_schema shown (schema_of c.args.self.now) in
    looked (view_argument shown) c.directive.result.now.arguments.items c.args.self.now.absent.input c.nth_or-in-OfDirective.result.now c.in-OfDirective.number
    no_input
    (directive_at c.in-OfDirective.directive).arguments (rw (sym c.as_slice.ensures.value) c.nth_or-in-OfDirective.ensures)
    (ap (λ d. d.arguments) c.directive.ensures) c.args.self.now.absent.no_input
    ∙ ap (λ p. input_at s (names_of c.args.self.now) (view_input_place p)) (sym c.in-OfDirective.is)
