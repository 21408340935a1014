use Rattle.std.proofs.Common.{◌∙◌}
use Rattle.juniper_types.proofs.Sites.{ahead-of-fields}
use Rattle.juniper_types.proofs.executor.Executor.look_ahead_occurrences.Goals as goal

pub returns : goal.returns
returns g c = c.new.ensures ∙ ahead-of-fields g.S.ScalarValue.shown c.args.self.now.variables.now c.args.self.now.fragments.now c.args.self.now.occurrences.now
