use Rattle.std.proofs.Common.{◌≡◌, ◌+◌, ◌-◌, suc, length, get_or, sym, ◌∙◌, subst, arith}
use Rattle.juniper_tokens.specs.Spots.{HasRoom, view_spot}
use Rattle.juniper_tokens.proofs.Rooms.{room_past_byte, walk_on}
use Rattle.juniper_tokens.proofs.lexer.Spot.past.Goals as goal

pub loop-b-preserved : goal.loop-b-preserved
loop-b-preserved c =
    let left : length c.args.word.now - c.loop-b.b-index ≡ suc (length c.args.word.now - (c.loop-b.b-index + 1)) = omega arith in
    let room : HasRoom (view_spot c.loop-b.at) (suc (length c.args.word.now - (c.loop-b.b-index + 1))) = subst
    (λ n. HasRoom (view_spot c.loop-b.at) n) left c.loop-b.invariant.room in
    record {
      walked =
          rw c.past_byte-at.ensures (sym (walk_on (view_spot c.loop-b.at) c.args.word.now c.loop-b.b-index c.loop-b-test.true) ∙ c.loop-b.invariant.walked);
      room = rw c.past_byte-at.ensures (room_past_byte (view_spot c.loop-b.at) (get_or c.args.word.now c.loop-b.b-index 0) _ room);
    }
