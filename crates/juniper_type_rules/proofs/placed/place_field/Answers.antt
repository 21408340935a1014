use Rattle.std.proofs.Common.{ap, sym, ◌∙◌, ◌++◌, ◌∷◌, [], option_map, Some}
use Rattle.graphql_spec.specs.Documents.{Head}
use Rattle.juniper_syntax.proofs.Lists.{seen-push}
use Rattle.juniper_meta.specs.MetaView as metas
use Rattle.juniper_schema.specs.SchemaView.{view_schema}
use Rattle.juniper_syntax.specs.DocumentView.{view_field}
use Rattle.juniper_type_rules.specs.Placing.{type_below}
use Rattle.juniper_type_rules.specs.PlacedView.{view_parts, view_placed}
use Rattle.juniper_type_rules.proofs.Placing.{adds-known, adds-unknown}
use Rattle.juniper_type_rules.proofs.placed.place_field.Goals as goal

pub returns-in_ok-write_directives-in-Some-clause-below : goal.returns-in_ok-write_directives-in-Some-clause-below
unfolding type_below
returns-in_ok-write_directives-in-Some-clause-below g c is =
    let shown = g.S.ScalarValue.shown in
    ap Some c.innermost_name.ensures
    ∙ (ap (λ o. type_below (option_map (λ f. metas.view_field shown f.now) o)) (sym c.in-Some.is) ∙ ap type_below (c.field_on-found.ensures is))

pub returns-in-None-clause-below : goal.returns-in-None-clause-below
unfolding type_below
returns-in-None-clause-below g c is =
    let shown = g.S.ScalarValue.shown in
    ap (λ o. type_below (option_map (λ f. metas.view_field shown f.now) o)) (sym c.in-None.is) ∙ ap type_below (c.field_on-found.ensures is)

pub returns-in_ok-write_directives-in-Some-clause-added : goal.returns-in_ok-write_directives-in-Some-clause-added
returns-in_ok-write_directives-in-Some-clause-added g c is =
    let shown = g.S.ScalarValue.shown in
    let old = view_parts shown c.args.placed.now in
    let head : Head = view_field shown c.args.field.now in
    adds-known (view_schema shown c.args.schema.now) c.args.parent.now.name.now old head (metas.view_field shown c.in-Some.declared.now) _ _
    (sym (c.field_on-found.ensures is) ∙ ap (option_map (λ f. metas.view_field shown f.now)) c.in-Some.is)
    (seen-push (view_placed shown) c.args.placed.now.fields.items c.push.new.self.items _ c.in_ok-push.ensures.items
    ∙ ap (λ o. old.fields ++ record { parent = c.args.parent.now.name.now; head = head; declared = o } ∷ []) (c.field_on-found.ensures is))
    c.in_ok-write_directives-in-Some.ensures

pub returns-in-None-clause-added : goal.returns-in-None-clause-added
returns-in-None-clause-added g c is =
    let shown = g.S.ScalarValue.shown in
    let old = view_parts shown c.args.placed.now in
    let head : Head = view_field shown c.args.field.now in
    adds-unknown (view_schema shown c.args.schema.now) c.args.parent.now.name.now old head _
    (sym (c.field_on-found.ensures is) ∙ ap (option_map (λ f. metas.view_field shown f.now)) c.in-None.is)
    (seen-push (view_placed shown) c.args.placed.now.fields.items c.push.new.self.items _ c.in_ok-push.ensures.items
    ∙ ap (λ o. old.fields ++ record { parent = c.args.parent.now.name.now; head = head; declared = o } ∷ []) (c.field_on-found.ensures is))
