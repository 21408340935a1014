use Rattle.std.proofs.Common.{map, ap, sym, ◌∙◌}
use Rattle.std.proofs.lemmas.Result.{IfOk-weaker}
use Rattle.std.proofs.lemmas.Simd.{map-map}
use Rattle.juniper_explain.specs.Explanations.{view_explanation}
use Rattle.juniper_endpoint.specs.Explained.{of_explanation}
use Rattle.juniper_endpoint.proofs.explained.explained_in.Goals as goal

pub returns : goal.returns
returns c = IfOk-weaker c.refusals_of.result _ _ (λ made is. is
    ∙ (sym (map-map of_explanation view_explanation c.in_ok-explanations.explanations.items)
    ∙ ap (map of_explanation) c.in_ok-explanations.ensures)) c.refusals_of.ensures
