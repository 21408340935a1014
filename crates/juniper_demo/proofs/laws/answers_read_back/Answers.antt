use Rattle.juniper_demo.proofs.ReadingBack.{answers-read-back}
use Rattle.juniper_demo.proofs.laws.answers_read_back.Goals as goal

pub returns : goal.returns
returns c = answers-read-back
