use Rattle.std.proofs.Common.{◌∙◌, subst, sym}
use Rattle.juniper_merging.specs.Conflicts.{IsLikeFirst}
use Rattle.juniper_merging.proofs.Looked.{none-some}
use Rattle.juniper_merging.proofs.Told.{some-same}
use Rattle.juniper_merging.proofs.Vertices.{found-at, missing-at}
use Rattle.juniper_merging.proofs.loud.is_unlike.Goals as goal

pub returns-in-Some : goal.returns-in-Some
returns-in-Some c e v there =
    let vs = c.args.vertices.now in
    let found = found-at vs c.args.field c.get.result c.in-Some.vertex c.get.ensures.lookup.3 c.in-Some.is in
    subst (IsLikeFirst vs) (some-same (sym found ∙ there)) (c.differs_from_first.ensures e)

pub returns-in-None : goal.returns-in-None
returns-in-None c e v there =
    none-some (sym (missing-at c.args.vertices.now c.args.field c.get.result c.get.ensures.lookup.3 c.in-None.is) ∙ there)
