use Rattle.std.proofs.Common.{◌≡◌, ◌⊎◌, ap, refl, subst, inr, Some, Vec, ℕ}
use Rattle.std.specs.List.{slice_get}
use Rattle.std.specs.declared.alloc.Global.{Global}
use Rattle.graphql_spec.specs.Laws.{In}
use Rattle.juniper_merging.specs.Tables.{joined}
use Rattle.juniper_merging.specs.declared.uniting.Uniting.{Uniting}
use Rattle.juniper_merging.proofs.Making.{judges-uniting, same-uniting}
use Rattle.juniper_merging.proofs.Told.{some-same}
use Rattle.juniper_merging.proofs.uniting.Uniting.joint_node.Goals as goal

pub returns : goal.returns
returns c vs t H below judged is =
    let old = c.args.self.now in
    let members = c.args.members.items in
    let judge = c.args.judge in
    let mid : Uniting = record {
      alloc = old.alloc;
      members = old.members;
      judges = old.judges;
      single = old.single;
      judge_of = c.put_each.new.numbers;
      waiting = old.waiting;
      united = old.united;
    } in
    let last = c.begin.new.self in
    let now : Uniting = record {
      alloc = last.alloc;
      members = last.members;
      judges = last.judges;
      single = last.single;
      judge_of = last.judge_of;
      waiting = c.push_at.new.lists;
      united = last.united;
    } in
    let put : (i n : ℕ) → slice_get c.put_each.new.numbers.items i ≡ Some (Some n) →
    (slice_get old.judge_of.items i ≡ Some (Some n)) ⊎ (In i members × (n ≡ judge)) =
    subst (λ l. (i n : ℕ) → slice_get c.put_each.new.numbers.items i ≡ Some (Some n) →
    (slice_get old.judge_of.items i ≡ Some (Some n)) ⊎ (In i l × (n ≡ judge))) c.deref-2.ensures.value c.put_each.ensures in
    let holds : (ms : Vec ℕ Global) → Some c.args.members ≡ Some ms → joined t members ≡ joined t ms.items =
    λ ms e. ap (λ (v : Vec ℕ Global). joined t v.items) (some-same e) in
    let r = c.in_ok-node.ensures vs t H (joined t members) holds (inr (below, judged))
    (judges-uniting vs t H old mid members judge refl refl refl refl put below judged is) in
    (r.0, r.1, r.2, same-uniting vs t r.0 last now refl refl refl refl refl r.3, r.4)
