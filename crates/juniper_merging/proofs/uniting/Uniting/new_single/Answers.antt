use Rattle.std.proofs.Common.{◌≡◌, ◌∙◌, ◌++◌, ◌∷◌, [], ap, refl, sym, inl, Some, Vec, ℕ}
use Rattle.std.specs.declared.alloc.Global.{Global}
use Rattle.juniper_merging.specs.Tables.{joined, set_at}
use Rattle.juniper_merging.specs.United.{count_of}
use Rattle.juniper_merging.specs.declared.uniting.Uniting.{Uniting}
use Rattle.juniper_merging.proofs.Making.{alone-uniting, joined-one}
use Rattle.juniper_merging.proofs.Told.{some-same}
use Rattle.juniper_merging.proofs.uniting.Uniting.new_single.Goals as goal

pub returns : goal.returns
returns c vs t H is =
    let old = c.args.self.now in
    let set = c.args.set in
    let mid = c.begin.new.self in
    let now : Uniting = record {
      alloc = mid.alloc;
      members = mid.members;
      judges = mid.judges;
      single = c.put_number.new.numbers;
      judge_of = c.put_number-2.new.numbers;
      waiting = c.push_at.new.lists;
      united = mid.united;
    } in
    let items : c.push.new.self.items ≡ set ∷ [] = c.in_ok-push.ensures.items ∙ ap (λ l. l ++ set ∷ []) c.new-members.ensures.items in
    let holds : (ms : Vec ℕ Global) → Some c.push.new.self ≡ Some ms → set_at t set ≡ joined t ms.items =
    λ ms e. sym (joined-one t set) ∙ ap (joined t) (sym items ∙ ap (λ (v : Vec ℕ Global). v.items) (some-same e)) in
    let at : c.len-node.result ≡ count_of old = c.len-node.ensures ∙ old.members.ok.0 in
    let r = c.in_ok-begun.ensures vs t H (set_at t set) holds (inl at) is in (
      r.0,
      r.1,
      r.2,
      alone-uniting vs t r.0 mid now set c.in_ok-begun.begun refl refl c.put_number.ensures.put c.put_number-2.ensures.put refl r.4.0 r.4.1 r.3,
      r.4,
    )
