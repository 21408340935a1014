use Rattle.juniper_syntax.specs.DocumentView.{view_word}
use Rattle.juniper_syntax.proofs.Lists.{seen-push}
use Rattle.juniper_explain.specs.Words.{view_marked}
use Rattle.juniper_explain.proofs.Marking.{adds-spread-word}
use Rattle.juniper_explain.proofs.words.mark_spread.Goals as goal

pub returns : goal.returns
returns c =
    adds-spread-word (view_marked c.args.words.now) (view_word c.args.name.now) _
    (seen-push view_word c.args.words.now.spreads.items c.push.new.self.items c.args.name.now c.in_ok-push.ensures.items)
