use Rattle.std.proofs.Common.{◌≡◌, ◌⊎◌, [], None, Some, Vec, refl, sym, inl, inr, ℕ}
use Rattle.std.specs.declared.alloc.Global.{Global}
use Rattle.juniper_merging.specs.Nodes.{flat}
use Rattle.juniper_merging.specs.Tables.{joined}
use Rattle.juniper_merging.specs.United.{count_of}
use Rattle.juniper_merging.specs.declared.uniting.United.{United}
use Rattle.juniper_merging.specs.declared.uniting.Uniting.{Uniting}
use Rattle.juniper_merging.proofs.Looked.{none-some}
use Rattle.juniper_merging.proofs.Making.{empty-items, good-of, made-uniting, node-of, split-uniting}
use Rattle.juniper_merging.proofs.Numbers.{same-number}
use Rattle.juniper_merging.proofs.uniting.Uniting.put_node.Goals.{then-is_empty-via-then-is_empty, then-is_empty-via-else-is_empty+then-is_empty-2}
use Rattle.juniper_merging.proofs.uniting.Uniting.put_node.Goals as goal

pub returns-then-is_empty : goal.returns-then-is_empty
returns-then-is_empty c vs t H fields is number judge below are empty alike judged =
    let old = c.args.self.now in
    let x : United = record { number = c.args.number; node = record { entries = c.args.entries; parts = c.args.parts } } in
    let now : Uniting = record {
      alloc = old.alloc;
      members = old.members;
      judges = old.judges;
      single = old.single;
      judge_of = old.judge_of;
      waiting = old.waiting;
      united = c.push.new.self;
    } in
    let which : (c.args.entries.items ≡ []) ⊎ (c.args.parts.items ≡ []) = elim c.then-is_empty.branch [
      | then-is_empty-via-then-is_empty w ↦ inl (empty-items c.args.entries c.args.entries.ok.0 (same-number c.args.entries.len 0 (sym w.if-is_empty.ensures)))
      | then-is_empty-via-else-is_empty+then-is_empty-2 w ↦ inr (empty-items c.args.parts c.args.parts.ok.0 (same-number c.args.parts.len 0 (sym
          w.if-is_empty-2.ensures)))
    ] in (
      H,
      made-uniting vs t H old now x refl refl refl refl c.in_ok-push.ensures.items number below
          (node-of vs t H x.node (H c.args.number) fields which are empty alike) is,
    )

pub returns : goal.returns
returns c vs t H fields is number judge below are empty alike judged =
    let old = c.args.self.now in
    let mid = c.begin.new.self in
    let own = c.in_ok-own.own in
    let nothing : (ms : Vec ℕ Global) → None ≡ Some ms → fields ≡ joined t ms.items = λ ms e. none-some e in
    let r = c.in_ok-own.ensures vs t H fields nothing (inr (judge, λ g. good-of vs t (H c.args.number) fields (flat H c.args.parts.items) alike (judged g)))
    is in
    let x : United = record { number = c.args.number; node = record { entries = c.new.result; parts = c.push-2.new.self } } in
    let y : United = record { number = own; node = record { entries = c.args.entries; parts = c.new-nothing.result } } in
    let one : Uniting = record {
      alloc = mid.alloc;
      members = mid.members;
      judges = mid.judges;
      single = mid.single;
      judge_of = mid.judge_of;
      waiting = mid.waiting;
      united = c.push-3.new.self;
    } in
    let two : Uniting = record {
      alloc = mid.alloc;
      members = mid.members;
      judges = mid.judges;
      single = mid.single;
      judge_of = mid.judge_of;
      waiting = mid.waiting;
      united = c.push-4.new.self;
    } in (
      r.0,
      split-uniting vs t H r.0 fields c.args.parts.items (count_of old) own mid one two x y r.1 r.2 r.3 r.4.0 r.4.1 number below c.new.ensures.items
          c.in_ok-push-2.ensures.items refl c.new-nothing.ensures.items are alike refl refl refl refl c.in_ok-push-3.ensures.items refl refl refl refl
          c.in_ok-push-4.ensures.items,
    )
