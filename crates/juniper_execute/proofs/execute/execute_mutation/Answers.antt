use Rattle.std.proofs.Common.{subst}
use Rattle.juniper_syntax.specs.ValueView.{view_value}
use Rattle.juniper_walk.proofs.Entering.{given-spends}
use Rattle.juniper_walk.specs.Budget.{fields_in, most_fields}
use Rattle.juniper_execute.specs.Walkings.{IsBounded}
use Rattle.juniper_execute.proofs.Bounds.{bare-own}
use Rattle.juniper_execute.proofs.execute.execute_mutation.Goals as goal

pub mutate-requires-clause-bare : goal.mutate-requires-clause-bare
mutate-requires-clause-bare g c = bare-own (most_fields c.args.fields) _ c.new-plan.ensures

pub returns-clause-counted : goal.returns-clause-counted
returns-clause-counted g c =
    subst (λ n. IsBounded c.args.served.now.walking (fields_in (view_value g.S.ScalarValue.shown c.in-Ok.answered.0)) n) c.new-plan.ensures.left
    c.in-Ok.ensures.counted

pub returns-in-Err-clause-spent : goal.returns-in-Err-clause-spent
returns-in-Err-clause-spent g c =
    given-spends (Unit {0}) (Unit {0}) c.args.fields _ 0 _ c.in-Err.stop c.within.result c.new-plan.ensures.left c.within.ensures c.in-Err.ensures.entered
