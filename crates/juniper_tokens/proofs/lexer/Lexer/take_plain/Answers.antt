use Rattle.std.proofs.Common.{◌≡◌, ◌+◌, length, ap, subst, arith}
use Rattle.juniper_tokens.specs.Spots.{HasRoom, view_spot}
use Rattle.juniper_tokens.proofs.Rooms.{room_walk}
use Rattle.juniper_tokens.proofs.lexer.Lexer.take_plain.Goals as goal

pub invariant_of-self : goal.invariant_of-self
invariant_of-self c =
    let split : length c.self.inside.rest.now ≡ length c.as_bytes.result.now + length c.split_at.result.1.now =
    omega (arith, ap length c.as_bytes.ensures.value, c.split_at.ensures.front_len, c.split_at.ensures.back_len) in
    let room : HasRoom (view_spot c.self.inside.spot) (length c.as_bytes.result.now + length c.split_at.result.1.now) =
    subst (λ n. HasRoom (view_spot c.self.inside.spot) n) split (record
    { index = c.self.invariant.index; line = c.self.invariant.line; column = c.self.invariant.column }) in
    rw c.past_plain-self-inside.ensures (room_walk c.as_bytes.result.now (view_spot c.self.inside.spot) (length c.split_at.result.1.now) room)
