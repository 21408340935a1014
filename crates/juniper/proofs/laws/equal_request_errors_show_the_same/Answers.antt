use Rattle.juniper.proofs.RequestErrorEquality.{request_equal, request_same}
use Rattle.juniper.proofs.laws.equal_request_errors_show_the_same.Goals as goal

pub returns-clause-equal : goal.returns-clause-equal
returns-clause-equal c = request_equal c.args.a.now c.args.b.now

pub returns-clause-same : goal.returns-clause-same
returns-clause-same c = request_same c.args.a.now c.args.b.now
