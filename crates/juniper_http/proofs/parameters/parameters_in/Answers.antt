use Rattle.form_urlencoded.specs.Parse.{owned_pairs_left}
use Rattle.juniper_http.specs.Parameters.{given_in, view_parameters}
use Rattle.juniper_http.proofs.Pairs.{one_more}
use Rattle.juniper_http.proofs.parameters.parameters_in.Goals as goal

pub loop-pair-preserved : goal.loop-pair-preserved
loop-pair-preserved c =
    one_more (owned_pairs_left c.loop-pair.pair-iterator) (owned_pairs_left c.next.new.self) c.in-Some.pair c.in_ok-name.name c.in_ok-name.value
    c.as_str.result.now (view_parameters c.loop-pair.found) (view_parameters c.with-found.result) (given_in c.args.query.now)
    c.in-Some.ensures.steps c.in_ok-name.was c.as_str.ensures.value c.with-found.ensures c.loop-pair.invariant
