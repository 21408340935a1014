-- Nothing is explained exactly where no error is listed.
use Rattle.std.proofs.Common.{◌≡◌, Bool, [], sym, ap, ◌∙◌}
use Rattle.graphql_spec.specs.Documents.{Document}
use Rattle.graphql_spec.specs.Rules.{rule_errors}
use Rattle.graphql_spec.specs.Schema.{Schema}
use Rattle.juniper_explain.specs.Explanations.{has_any}
use Rattle.juniper_explain.specs.Nodes.{explanations, judgements}
use Rattle.juniper_explain.proofs.Judging.{none-has}
use Rattle.juniper_explain.proofs.Telling.{errors-has, errors-told}

module _ (s : Schema) (disabled : Bool) (d : Document) where
  pub none-explained : rule_errors s disabled d ≡ [] → explanations s disabled d ≡ []
  unfolding explanations has_any
  none-explained none = none-has _ (sym (errors-has (judgements s disabled d)) ∙ ap has_any (sym (errors-told s disabled d) ∙ none))

  pub none-listed : explanations s disabled d ≡ [] → rule_errors s disabled d ≡ []
  unfolding explanations has_any
  none-listed none = errors-told s disabled d ∙ none-has _ (errors-has (judgements s disabled d) ∙ ap has_any none)
