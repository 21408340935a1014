use Rattle.std.proofs.Common.{sym, arith}
use Rattle.juniper_tokens.specs.Spots.{view_spot}
use Rattle.juniper_tokens.proofs.Plain.{unquoted}
use Rattle.juniper_tokens.proofs.Rooms.{walk_none}
use Rattle.juniper_tokens.proofs.lexer.Spot.past_lexeme.Goals as goal

pub past_plain-requires-clause-plain : goal.past_plain-requires-clause-plain
past_plain-requires-clause-plain c = c.requires.plain (unquoted c.args.word.now c.if-first-eq34.false)

pub returns-in-empty : goal.returns-in-empty
returns-in-empty c = sym (walk_none (view_spot c.args.self) c.args.word.now 0 (omega (arith, c.in-empty.len_below)))
