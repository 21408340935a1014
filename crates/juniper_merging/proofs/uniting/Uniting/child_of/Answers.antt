use Rattle.std.proofs.Common.{◌≡◌, ◌∙◌, ◌∷◌, [], ap, refl, sym, arith}
use Rattle.juniper_merging.specs.Tables.{joined, set_at}
use Rattle.juniper_merging.specs.United.{count_of}
use Rattle.juniper_merging.proofs.Held.{alike-equal}
use Rattle.juniper_merging.proofs.Making.{agrees-itself, joined-one, no-child, one-child}
use Rattle.juniper_merging.proofs.uniting.Uniting.child_of.Goals as goal

pub returns-in_ok-child-in-Some : goal.returns-in_ok-child-in-Some
returns-in_ok-child-in-Some c vs t H below judged is =
    let hd = c.args.head.now in
    let set = c.in-Some.set in
    let alone : hd.below.items ≡ set ∷ [] = sym c.deref.ensures.value ∙ c.single_number.ensures set c.in-Some.is in
    let r = c.in_ok-child-in-Some.ensures vs t H is in (
      r.0,
      r.1,
      r.2,
      r.3,
      one-child vs t r.0 (count_of c.single_node.new.self) hd c.in_ok-child-in-Some.child (set_at t set) r.4.0 r.4.1
          (alike-equal (set_at t set) (joined t hd.below.items) (sym (joined-one t set) ∙ ap (joined t) (sym alone))),
    )

pub returns-then-is_empty : goal.returns-then-is_empty
returns-then-is_empty c vs t H below judged is =
    let u = c.args.self.now in (
      H,
      agrees-itself H (count_of u),
      omega (arith),
      is,
      no-child vs t H (count_of u) c.args.head.now (sym c.deref-in-None.ensures.value ∙ c.if-is_empty.ensures.none refl),
    )
