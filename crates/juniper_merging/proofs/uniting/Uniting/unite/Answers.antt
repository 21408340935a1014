use Rattle.std.proofs.Common.{◌∙◌, ◌<◌, Some, ap, refl, subst, sym}
use Rattle.std.proofs.lemmas.Option.{slice_get_within}
use Rattle.juniper_merging.specs.Questions.{fields_of}
use Rattle.juniper_merging.specs.Tables.{joined, table_of}
use Rattle.juniper_merging.specs.declared.uniting.Uniting.{Uniting}
use Rattle.juniper_merging.proofs.Making.{taken-uniting}
use Rattle.juniper_merging.proofs.uniting.Uniting.unite.Goals as goal

pub returns-in_ok-unite_sets-in-Some : goal.returns-in_ok-unite_sets-in-Some
returns-in_ok-unite_sets-in-Some c there H is =
    let vs = fields_of c.args.graph.now in
    let t = table_of c.args.graph.now.sets.now in
    let old = c.args.self.now in
    let mid : Uniting = record {
      alloc = old.alloc;
      members = c.take_members.new.members;
      judges = old.judges;
      single = old.single;
      judge_of = old.judge_of;
      waiting = old.waiting;
      united = old.united;
    } in
    let at = c.take_members.ensures.taken c.in-Some.members c.in-Some.is in
    c.in_ok-unite_sets-in-Some.ensures there H (taken-uniting vs t H old mid c.args.node c.take_members.result c.take_members.ensures refl refl refl refl is)
    (subst (λ n. c.args.node < n) (sym c.take_members.ensures.count) (slice_get_within old.members.items c.args.node (Some c.in-Some.members) at))
    (is.waits c.args.node c.in-Some.members at ∙ ap (joined t) (sym c.deref.ensures.value))

pub returns-in-None : goal.returns-in-None
returns-in-None c there H is =
    let vs = fields_of c.args.graph.now in
    let t = table_of c.args.graph.now.sets.now in
    let old = c.args.self.now in
    let mid : Uniting = record {
      alloc = old.alloc;
      members = c.take_members.new.members;
      judges = old.judges;
      single = old.single;
      judge_of = old.judge_of;
      waiting = old.waiting;
      united = old.united;
    } in
    (H, taken-uniting vs t H old mid c.args.node c.take_members.result c.take_members.ensures refl refl refl refl is)
