use Rattle.std.proofs.Common.{ap, option_map}
use Rattle.juniper_syntax.specs.DocumentView.{view_word}
use Rattle.juniper_syntax.proofs.Lists.{seen-push}
use Rattle.juniper_explain.specs.Words.{view_marked}
use Rattle.juniper_explain.proofs.Marking.{adds-condition-word, adds-no-word}
use Rattle.juniper_explain.proofs.words.mark_condition.Goals as goal

pub returns-in_ok-push-in-Some : goal.returns-in_ok-push-in-Some
returns-in_ok-push-in-Some c =
    adds-condition-word (view_marked c.args.words.now) (option_map view_word c.args.condition.now) (view_word c.in-Some.name) _
    (ap (option_map view_word) c.in-Some.is)
    (seen-push view_word c.args.words.now.conditions.items c.push.new.self.items c.in-Some.name c.in_ok-push-in-Some.ensures.items)

pub returns-in-None : goal.returns-in-None
returns-in-None c =
    adds-no-word (view_marked c.args.words.now) (option_map view_word c.args.condition.now) (ap (option_map view_word) c.in-None.is)
