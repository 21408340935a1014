use Rattle.std.proofs.Common.{◌&&◌, ap, sym, ◌∙◌}
use Rattle.std.specs.List.{list_any}
use Rattle.graphql_spec.specs.Rules.{is_introspection, looks_at_schema}
use Rattle.graphql_spec.specs.Written.{heads, selections_of}
use Rattle.juniper_syntax.specs.DocumentView.{view_definition}
use Rattle.juniper_schema.specs.SchemaView.{view_schema}
use Rattle.juniper_written.specs.Parts.{Parts, parts_of}
use Rattle.juniper_type_rules.proofs.introspection.looks_at_schema.Goals as goal

pub returns-then-not-disabled : goal.returns-then-not-disabled
unfolding looks_at_schema
returns-then-not-disabled g c = λ same.
    let shown = g.S.ScalarValue.shown in
    ap (λ b. looks_at_schema (view_schema shown c.args.schema.now) b (view_definition shown c.args.definition.now)) (sym c.if-not-disabled.true)

pub returns-then-can_look : goal.returns-then-can_look
unfolding looks_at_schema parts_of
returns-then-can_look g c = λ same.
    let shown = g.S.ScalarValue.shown in
    let s = view_schema shown c.args.schema.now in
    let x = view_definition shown c.args.definition.now in
    c.has_introspection.ensures ∙ (ap (λ (p : Parts). list_any (λ h. is_introspection h.name.item) p.fields) same
    ∙ (sym (ap (λ b. b && list_any (λ h. is_introspection h.name.item) (heads (selections_of x))) (sym c.can_look.ensures ∙ c.if-can_look.true))
    ∙ ap (λ b. looks_at_schema s b x) (sym c.if-not-disabled.false)))

pub returns-else-can_look : goal.returns-else-can_look
unfolding looks_at_schema
returns-else-can_look g c = λ same.
    let shown = g.S.ScalarValue.shown in
    let s = view_schema shown c.args.schema.now in
    let x = view_definition shown c.args.definition.now in
    c.if-can_look.false
    ∙ (sym (ap (λ b. b && list_any (λ h. is_introspection h.name.item) (heads (selections_of x))) (sym c.can_look.ensures ∙ c.if-can_look.false))
    ∙ ap (λ b. looks_at_schema s b x) (sym c.if-not-disabled.false))
