use Rattle.std.proofs.lemmas.Result.{on_ok_weaker}
use Rattle.juniper_type_rules.proofs.ByName.{put-seen}
use Rattle.juniper_type_rules.proofs.defined.put_variable.Goals as goal

pub returns : goal.returns
returns g c = on_ok_weaker c.put_first.result (λ put n. put-seen g.S.ScalarValue.shown c.args.first.now n c.put_first.new.self c.args.variable (put n))
    c.put_first.ensures
