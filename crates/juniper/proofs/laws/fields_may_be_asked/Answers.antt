use Rattle.juniper.proofs.AskedFields.{asked-for}
use Rattle.juniper.proofs.laws.fields_may_be_asked.Goals as goal

pub returns : goal.returns
returns g c = λ f m is. asked-for g.S.ScalarValue.shown c.args.executor.now f m is
