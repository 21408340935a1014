use Rattle.std.proofs.Common.{rules}
use Rattle.juniper_http.proofs.Ranges.{weighs_here, weighs_next}
use Rattle.juniper_http.proofs.accept.weight_in.Goals as goal

pub parameters-preserved : goal.parameters-preserved
parameters-preserved c = (
  search rules,
  weighs_next c.parameters.rest.now c.cut.result.0.now c.cut.result.1.now c.args.parameters.now c.weight_given.result
      c.cut.ensures.before c.cut.ensures.after c.weight_given.ensures c.in-None.is c.parameters.invariant.1,
)

pub returns-in-Some : goal.returns-in-Some
returns-in-Some c =
    weighs_here c.parameters.rest.now c.cut.result.0.now c.cut.result.1.now c.args.parameters.now c.weight_given.result c.in-Some.weight
    c.cut.ensures.before c.cut.ensures.after c.weight_given.ensures c.in-Some.is c.parameters.invariant.1
