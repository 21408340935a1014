use Rattle.std.proofs.Common.{◌∙◌, sym}
use Rattle.juniper_assemble.proofs.Parting.{taken-off}
use Rattle.juniper_assemble.proofs.apart.drop_last.Goals as goal

pub returns : goal.returns
returns c = λ before last e. c.pop-last.ensures.rest ∙ taken-off before _ last _ e (sym c.args.positions.now.ok.0)
