use Rattle.std.proofs.Common.{◌∙◌, refl, sym, subst, arith, true}
use Rattle.juniper_merging.specs.Nodes.{Alike}
use Rattle.juniper_merging.specs.Tables.{joined}
use Rattle.juniper_merging.specs.United.{count_of}
use Rattle.juniper_merging.proofs.Held.{alike-turned, joined-alike}
use Rattle.juniper_merging.proofs.Joint.{good-alike}
use Rattle.juniper_merging.proofs.Making.{agrees-itself, no-child, one-child}
use Rattle.juniper_merging.proofs.uniting.Uniting.many_child.Goals as goal

pub returns-then-is_empty : goal.returns-then-is_empty
returns-then-is_empty c vs t many H below judged is =
    let u = c.args.self.now in (
      H,
      agrees-itself H (count_of u),
      omega (arith),
      is,
      no-child vs t H (count_of u) c.args.head.now (sym c.deref.ensures.value ∙ c.if-is_empty.ensures.none refl),
    )

pub returns : goal.returns
returns c vs t many H below judged is =
    let hd = c.args.head.now in
    let few = c.in_ok-members.members.items in
    let alike : Alike hd.below.items few = subst (λ l. Alike l few) c.deref-2.ensures.value c.in_ok-members.ensures in
    let joint = joined-alike t hd.below.items few alike in
    let r = c.in_ok-child.ensures vs t H below (λ g. good-alike vs true (joined t few) (joined t hd.below.items) (alike-turned (joined t hd.below.items)
    (joined t few) joint) (judged many g)) is in (
      r.0,
      r.1,
      r.2,
      r.3,
      one-child vs t r.0 (count_of c.joint_node.new.self) hd c.in_ok-child.child (joined t few) r.4.0 r.4.1
          (alike-turned (joined t hd.below.items) (joined t few) joint),
    )
