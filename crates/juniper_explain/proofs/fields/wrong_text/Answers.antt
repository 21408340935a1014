use Rattle.std.proofs.Common.{ap, ◌∙◌, ◌++◌, codes}
use Rattle.std.proofs.lemmas.Result.{IfOk-weaker}
use Rattle.graphql_spec.specs.Types.{type_text}
use Rattle.juniper_meta.specs.MetaView.{view_type}
use Rattle.juniper_explain.proofs.fields.wrong_text.Goals as goal

pub returns : goal.returns
returns c = IfOk-weaker c.format.result _ _ (λ t is. is
    ∙ ap (λ e. codes "Field `" ++ (c.args.name.now ++ (codes "` is of `" ++ (type_text (view_type c.args.reference.now) ++ e)))) c.set_text-end.ensures)
    c.format.ensures.ok
