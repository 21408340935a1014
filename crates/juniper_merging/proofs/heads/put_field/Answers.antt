use Rattle.juniper_merging.proofs.Vertices.{found-at}
use Rattle.juniper_merging.proofs.heads.put_field.Goals as goal

pub returns-in_ok-put_vertex-in-Some : goal.returns-in_ok-put_vertex-in-Some
returns-in_ok-put_vertex-in-Some c t before are =
    c.in_ok-put_vertex-in-Some.ensures
    (found-at c.args.vertices.now c.args.field c.get.result c.in-Some.vertex c.get.ensures.lookup.3 c.in-Some.is) t before are
