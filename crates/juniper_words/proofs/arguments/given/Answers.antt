use Rattle.std.proofs.Common.{◌∙◌, ap, subst}
use Rattle.std.specs.Prelude.{unwrap_or}
use Rattle.graphql_spec.specs.Constants.{null}
use Rattle.juniper_conversions.proofs.Meanings.{means-Null}
use Rattle.juniper_words.specs.InputsRead.{ReadsAs}
use Rattle.juniper_words.proofs.arguments.given.Goals as goal

-- an argument that is missing is read as null
pub returns-in-None : goal.returns-in-None
returns-in-None g c =
    subst (λ v. ReadsAs g.T.InputType.seen g.S.ScalarValue.shown c.read_input-in-None.result (g.T.InputType.read v))
    (means-Null g.S.ScalarValue.shown ∙ ap (λ o. unwrap_or o null) c.in-None.ensures) c.read_input-in-None.ensures
