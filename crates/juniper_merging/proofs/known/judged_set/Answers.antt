use Rattle.juniper_merging.specs.Tables.{set_at}
use Rattle.juniper_merging.proofs.Joint.{says-differs, says-merges}
use Rattle.juniper_merging.proofs.known.judged_set.Goals as goal

pub returns : goal.returns
returns c vs t H is told =
    let l = set_at t c.args.set in
    record {
      merges = λ e. says-merges vs l (c.in_ok-merges.ensures vs t H is told e);
      differs = λ e. says-differs vs l (c.in_ok-differs.ensures vs t H is told e);
    }
