use Rattle.std.proofs.Common.{ap, map, sym, ◌∙◌}
use Rattle.std.proofs.lemmas.Result.{IfOk-weaker}
use Rattle.juniper_meta.specs.MetaView.{view_meta}
use Rattle.juniper_written.specs.WrittenView.{view_names}
use Rattle.juniper_explain.specs.Reasons.{value_names}
use Rattle.juniper_explain.proofs.ReasonLoops.{names-of}
use Rattle.juniper_explain.proofs.value_parts.value_names.Goals as goal

pub returns-in-Some : goal.returns-in-Some
returns-in-Some g c =
    IfOk-weaker c.names_of_values.result _ _ (λ ns is. is ∙ (ap (map (λ v. v.name)) c.values.ensures
    ∙ (names-of (view_meta g.S.ScalarValue.shown c.in-Some.meta.now).shape ∙ sym (ap value_names c.in-Some.ensures.shape)))) c.names_of_values.ensures

pub returns-in-None : goal.returns-in-None
unfolding value_names
returns-in-None g c = ap view_names c.new.ensures.items ∙ sym (ap value_names c.in-None.ensures.shape)
