use Rattle.std.proofs.Common.{refl}
use Rattle.juniper_field_graph.proofs.Made.{set-made}
use Rattle.juniper_field_graph.proofs.gathering.put_set.Goals as goal

pub returns : goal.returns
returns g c s is all so =
    let shown = g.S.ScalarValue.shown in
    let old = c.args.gathered.now.graph in
    set-made shown s old (record {
      vertices = old.vertices;
      sets = c.put_into.new.sets;
      fields = old.fields;
      keys = old.keys;
      calls = old.calls;
      shapes = old.shapes;
      kinds = old.kinds;
    })
    c.args.gathered.now.sets.items c.push.new.self.items all c.in_ok-set.set refl refl refl refl refl is (c.in_ok-set.ensures is.table all so)
    c.in_ok-push.ensures.items
