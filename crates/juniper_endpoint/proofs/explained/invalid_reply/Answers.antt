use Rattle.std.proofs.Common.{map, subst, inr, ◌∙◌, ap}
use Rattle.juniper.specs.RequestErrors.{not_valid}
use Rattle.juniper_json.specs.Refusals.{refusals_of}
use Rattle.juniper_json.specs.RefusalText.{explained_text, view_refusal}
use Rattle.juniper_http.specs.declared.outcome.Outcome.TheVariants.{Refused}
use Rattle.juniper_syntax.specs.RuleView.{view_rule_error}
use Rattle.juniper_endpoint.specs.Lines.{IsTold}
use Rattle.juniper_endpoint.proofs.explained.invalid_reply.Goals as goal

pub returns-in-Err : goal.returns-in-Err
returns-in-Err c = inr c.without_memory.ensures

pub returns : goal.returns
returns c =
    let errors = not_valid (map view_rule_error c.args.errors.items) in
    subst (λ xs. IsTold Refused (explained_text (refusals_of errors) xs) c.explained_reply.result)
    (ap (map view_refusal) c.as_slice.ensures.value ∙ c.in-Ok.ensures) c.explained_reply.ensures
