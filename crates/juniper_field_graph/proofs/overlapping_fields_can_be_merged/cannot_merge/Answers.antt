use Rattle.std.proofs.Common.{◌∙◌, map}
use Rattle.std.proofs.lemmas.Result.{IfOk-weaker}
use Rattle.juniper_schema.specs.SchemaView.{view_schema}
use Rattle.juniper_syntax.specs.DocumentView.{view_definition}
use Rattle.juniper_field_graph.proofs.PlainMerging.{none-found}
use Rattle.juniper_field_graph.proofs.WrittenOnce.{all-once}
use Rattle.juniper_field_graph.proofs.overlapping_fields_can_be_merged.cannot_merge.Goals as goal

pub returns-then-branch : goal.returns-then-branch
returns-then-branch g c =
    let s = view_schema g.S.ScalarValue.shown c.args.schema.now in
    let d = map (view_definition g.S.ScalarValue.shown) c.args.document.now in
    IfOk-weaker c.none_found.result _ _
    (λ found same disabled are names. same ∙ none-found s d (c.in_ok-has_plain_keys.ensures c.if-branch.true (all-once s disabled d names)))
    c.none_found.ensures

pub returns : goal.returns
returns g c disabled are names = c.in_ok-found.ensures disabled are c.undeclared-undeclared.ensures names
