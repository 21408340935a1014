use Rattle.std.proofs.Common.{◌∙◌}
use Rattle.juniper_written.proofs.Ruling.{unknown-is}
use Rattle.juniper_written.proofs.by_name.FragmentsByName.spreads_unknown.Goals as goal

pub returns : goal.returns
returns g c = λ d x are is. c.has_unknown.ensures ∙ unknown-is c.args.self.now.spreads d x are.spread c.args.names.now is
