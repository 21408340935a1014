use Rattle.std.proofs.Common.{◌≡◌, true, option_map, sym, ap, ◌∙◌}
use Rattle.std.proofs.lemmas.Result.{IfOk-weaker}
use Rattle.juniper_schema.specs.SchemaView.{view_schema}
use Rattle.juniper_syntax.specs.DocumentView.{view_definition, view_fragment, view_operation, view_selections}
use Rattle.juniper_field_graph.specs.MetView.{Meets, met_at}
use Rattle.juniper_field_graph.specs.PlainKeys.{written_in, written_on}
use Rattle.juniper_field_graph.proofs.MetDefinitions.{fragment-met, operation-met, rootless-met}
use Rattle.juniper_field_graph.proofs.plain_keys.meet_definition.Goals as goal

pub returns-in-Some : goal.returns-in-Some
returns-in-Some g c =
    let shown = g.S.ScalarValue.shown in
    let s = view_schema shown c.args.schema.now in
    let x = view_definition shown c.args.definition.now in
    let old = met_at shown s c.args.met.now in
    let new = met_at shown s c.meet_selections.new.met in
    let set = view_selections shown c.as_slice-selections.result.now in
    IfOk-weaker c.meet_selections.result (λ b. b ≡ true → Meets s old new (written_on s c.in-Some.root.now set))
    (λ b. b ≡ true → Meets s old new (written_in s x))
    (λ b m plain. operation-met s old new x (view_operation shown c.in-Operation.operation) c.in-Some.root.now set
    (ap (view_definition shown) c.in-Operation.is) (ap (view_selections shown) c.as_slice-selections.ensures.value)
    (sym (ap (option_map (λ n. n.now)) c.in-Some.is) ∙ c.root_name.ensures) (m plain))
    c.meet_selections.ensures

pub returns-in-None : goal.returns-in-None
returns-in-None g c = λ plain.
    let shown = g.S.ScalarValue.shown in
    let s = view_schema shown c.args.schema.now in
    rootless-met s (met_at shown s c.args.met.now) (view_definition shown c.args.definition.now) (view_operation shown c.in-Operation.operation)
    (ap (view_definition shown) c.in-Operation.is) (sym (ap (option_map (λ n. n.now)) c.in-None.is) ∙ c.root_name.ensures)

pub returns-in-Fragment : goal.returns-in-Fragment
returns-in-Fragment g c =
    let shown = g.S.ScalarValue.shown in
    let s = view_schema shown c.args.schema.now in
    let x = view_definition shown c.args.definition.now in
    let f = view_fragment shown c.in-Fragment.fragment in
    let old = met_at shown s c.args.met.now in
    let new = met_at shown s c.meet_selections-in-Fragment.new.met in
    let set = view_selections shown c.as_slice-selections-in-Fragment.result.now in
    IfOk-weaker c.meet_selections-in-Fragment.result (λ b. b ≡ true → Meets s old new (written_on s f.condition.item set))
    (λ b. b ≡ true → Meets s old new (written_in s x))
    (λ b m plain. fragment-met s old new x f set (ap (view_definition shown) c.in-Fragment.is)
    (ap (view_selections shown) c.as_slice-selections-in-Fragment.ensures.value) (m plain))
    c.meet_selections-in-Fragment.ensures
