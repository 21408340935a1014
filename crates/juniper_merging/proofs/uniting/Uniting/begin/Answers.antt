use Rattle.std.proofs.Common.{◌≡◌, ◌∙◌, ◌+◌, refl, ap, arith}
use Rattle.juniper_merging.specs.United.{count_of}
use Rattle.juniper_merging.specs.declared.uniting.Uniting.{Uniting}
use Rattle.juniper_merging.proofs.Making.{holds-before, holds-last, holds-more, more-uniting, one-longer}
use Rattle.juniper_merging.proofs.uniting.Uniting.begin.Goals as goal

pub returns : goal.returns
returns c vs t H l holds judged is =
    let old = c.args.self.now in
    let new : Uniting = record {
      alloc = old.alloc;
      members = c.push.new.self;
      judges = c.push-2.new.self;
      single = old.single;
      judge_of = old.judge_of;
      waiting = old.waiting;
      united = old.united;
    } in
    let at : c.len-node.result ≡ count_of old = c.len-node.ensures ∙ old.members.ok.0 in
    let more : count_of new ≡ count_of old + 1 = one-longer old.members.items c.args.members new.members.items c.in_ok-push.ensures.items in (
      holds-more H (count_of old) l,
      holds-before H (count_of old) l,
      omega (arith, more),
      more-uniting vs t H l old new c.args.members c.args.judge c.in_ok-push.ensures.items c.in_ok-push-2.ensures.items refl refl refl holds judged is,
      (omega (arith, more, at), ap (holds-more H (count_of old) l) at ∙ holds-last H (count_of old) l),
    )
