use Rattle.std.proofs.Common.{ap, map, sym, ◌∙◌}
use Rattle.graphql_spec.specs.Documents.{written}
use Rattle.graphql_spec.specs.Fields.{declaration_in}
use Rattle.graphql_spec.specs.Rules.{gives_wrong}
use Rattle.juniper_meta.specs.MetaView as metas
use Rattle.juniper_schema.specs.SchemaView.{view_schema}
use Rattle.juniper_syntax.specs.DocumentView.{view_argument, view_arguments}
use Rattle.juniper_syntax.specs.InputView.{view_input}
use Rattle.juniper_type_rules.specs.SetTests.{misfits}
use Rattle.std.specs.List.{list_any}
use Rattle.juniper_written.proofs.Deciding.{open-first, open-next, one-passes, none-passes}
use Rattle.juniper_type_rules.proofs.arguments_of_correct_type.gives_wrong.Goals as goal

pub loop-argument-init : goal.loop-argument-init
loop-argument-init g c =
    let shown = g.S.ScalarValue.shown in
    open-first (view_argument shown) (λ a. misfits (view_schema shown c.args.schema.now)
    (declaration_in (map (metas.view_argument shown) c.args.call.now.declared.now) a.name.item) a.value.item) c.deref-argument-items.result.now

pub loop-argument-preserved : goal.loop-argument-preserved
loop-argument-preserved g c =
    let shown = g.S.ScalarValue.shown in
    open-next (view_argument shown) (λ a. misfits (view_schema shown c.args.schema.now)
    (declaration_in (map (metas.view_argument shown) c.args.call.now.declared.now) a.name.item) a.value.item) c.deref-argument-items.result.now
    c.loop-argument.argument-index c.argument-item.result c.loop-argument-test.true c.argument-item.is
    (ap (λ o. misfits (view_schema shown c.args.schema.now) o (view_input shown c.argument-item.result.1.item)) (sym c.find_argument-found.ensures)
    ∙ sym c.if-misfits.ensures) c.loop-argument.invariant

pub returns-after-loop-argument : goal.returns-after-loop-argument
unfolding gives_wrong misfits written
returns-after-loop-argument g c =
    let shown = g.S.ScalarValue.shown in
    none-passes (view_argument shown) (λ a. misfits (view_schema shown c.args.schema.now)
    (declaration_in (map (metas.view_argument shown) c.args.call.now.declared.now) a.name.item) a.value.item) c.deref-argument-items.result.now
    c.loop-argument.argument-index c.loop-argument-test.false c.loop-argument.invariant
    ∙ (ap (λ l. list_any (λ a. misfits (view_schema shown c.args.schema.now)
    (declaration_in (map (metas.view_argument shown) c.args.call.now.declared.now) a.name.item) a.value.item) (map (view_argument shown) l))
    c.deref-argument-items.ensures.value ∙ ap (λ o. list_any (λ a. misfits (view_schema shown c.args.schema.now)
    (declaration_in (map (metas.view_argument shown) c.args.call.now.declared.now) a.name.item) a.value.item) (written (view_arguments shown o)))
    (sym c.in-Some.is))

pub returns-then-misfits : goal.returns-then-misfits
unfolding gives_wrong misfits written
returns-then-misfits g c =
    let shown = g.S.ScalarValue.shown in
    one-passes (view_argument shown) (λ a. misfits (view_schema shown c.args.schema.now)
    (declaration_in (map (metas.view_argument shown) c.args.call.now.declared.now) a.name.item) a.value.item) c.deref-argument-items.result.now
    c.loop-argument.argument-index c.argument-item.result c.loop-argument-test.true c.argument-item.is
    (ap (λ o. misfits (view_schema shown c.args.schema.now) o (view_input shown c.argument-item.result.1.item)) (sym c.find_argument-found.ensures)
    ∙ sym c.if-misfits.ensures) c.loop-argument.invariant
    ∙ (ap (λ l. list_any (λ a. misfits (view_schema shown c.args.schema.now)
    (declaration_in (map (metas.view_argument shown) c.args.call.now.declared.now) a.name.item) a.value.item) (map (view_argument shown) l))
    c.deref-argument-items.ensures.value ∙ ap (λ o. list_any (λ a. misfits (view_schema shown c.args.schema.now)
    (declaration_in (map (metas.view_argument shown) c.args.call.now.declared.now) a.name.item) a.value.item) (written (view_arguments shown o)))
    (sym c.in-Some.is))

pub returns-in-None : goal.returns-in-None
unfolding gives_wrong misfits written
returns-in-None g c =
    let shown = g.S.ScalarValue.shown in
    ap (λ o. list_any (λ a. misfits (view_schema shown c.args.schema.now)
    (declaration_in (map (metas.view_argument shown) c.args.call.now.declared.now) a.name.item) a.value.item) (written (view_arguments shown o)))
    (sym c.in-None.is)
