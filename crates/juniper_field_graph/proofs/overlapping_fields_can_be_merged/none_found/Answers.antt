use Rattle.std.proofs.Common.{◌∙◌}
use Rattle.std.proofs.lemmas.Result.{IfOk-weaker}
use Rattle.juniper_syntax.specs.DocumentView.{view_definition}
use Rattle.juniper_field_graph.proofs.MetDefinitions.{none-marked}
use Rattle.juniper_field_graph.proofs.overlapping_fields_can_be_merged.none_found.Goals as goal

pub returns : goal.returns
returns g c = IfOk-weaker c.vec.result _ _ (λ v same. same (λ y is. is) ∙ none-marked (view_definition g.S.ScalarValue.shown) c.args.document.now)
    c.vec.ensures.items_if_clones_equal
