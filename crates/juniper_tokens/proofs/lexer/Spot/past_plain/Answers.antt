use Rattle.std.proofs.Common.{sym}
use Rattle.juniper_tokens.specs.Spots.{view_spot}
use Rattle.juniper_tokens.proofs.Plain.{walk_word}
use Rattle.juniper_tokens.proofs.lexer.Spot.past_plain.Goals as goal

pub returns : goal.returns
returns c = rw (c.new.ensures, c.index.ensures, c.line.ensures, c.column.ensures)
    (sym (walk_word (view_spot c.args.self) c.args.word.now c.requires.some c.requires.plain))
