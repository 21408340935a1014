use Rattle.std.proofs.Common.{ap}
use Rattle.std.specs.List.{flat_map}
use Rattle.std.proofs.lemmas.Result.{on_ok_weaker}
use Rattle.juniper_schema.specs.SchemaView.{view_schema}
use Rattle.juniper_explain.specs.Nodes.{other_condition, other_variable}
use Rattle.juniper_explain.specs.Words.{words_of}
use Rattle.juniper_explain.proofs.Joined.{two-added}
use Rattle.juniper_explain.proofs.types.explain_references.Goals as goal

pub returns : goal.returns
unfolding words_of
returns g c =
    let s = view_schema g.S.ScalarValue.shown c.args.schema.now in
    on_ok_weaker c.explain_other_variables.result (λ last. two-added _ _ _ _ _ _ _ c.in_ok-explain_other_conditions.ensures last
    (ap (λ w. flat_map (other_condition s) w.conditions) c.in_ok-words.ensures)
    (ap (flat_map (other_variable s)) c.variables_of.ensures)) c.explain_other_variables.ensures
