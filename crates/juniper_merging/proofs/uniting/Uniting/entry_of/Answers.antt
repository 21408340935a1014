use Rattle.std.proofs.Common.{refl}
use Rattle.juniper_merging.proofs.uniting.Uniting.entry_of.Goals as goal

pub returns : goal.returns
returns c vs t H below judged is =
    let r = c.in_ok-child.ensures vs t H below judged is in
    (r.0, r.1, r.2, r.3, record { field = refl; many = refl; child = r.4 })
