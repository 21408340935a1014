use Rattle.std.proofs.Common.{◌≡◌, ◌-◌, length, drop}
use Rattle.graphql_spec.specs.Positions.{walk}
use Rattle.juniper_tokens.specs.Spots.{HasRoom, view_spot}
use Rattle.juniper_tokens.proofs.lexer.Spot.past.Given as goal

abbrev pub invariant-loop-b : goal.invariant-loop-b
invariant-loop-b l = record {
  walked : walk (view_spot l.at) (drop l.b-index l.word) ≡ walk (view_spot l.fn.self) l.word;
  room : HasRoom (view_spot l.at) (length l.word - l.b-index);
}
