use Rattle.std.proofs.Common.{[], ap, map, ◌++◌, ◌∙◌}
use Rattle.juniper_syntax.specs.DocumentView.{view_variable, view_word}
use Rattle.juniper_syntax.proofs.Lists.{seen-push}
use Rattle.juniper_written.proofs.Lists.{seen-all, seen-next, seen-twice}
use Rattle.juniper_explain.specs.Words.{view_words}
use Rattle.juniper_explain.proofs.repeats.variable_words.Goals as goal

pub loop-variable-init : goal.loop-variable-init
loop-variable-init g c =
    ap (λ l. view_words l ++ map (λ v. (view_variable g.S.ScalarValue.shown v).name) c.args.variables.now) c.in_ok-words.ensures.items

pub loop-variable-preserved : goal.loop-variable-preserved
loop-variable-preserved g c =
    seen-next (λ v. (view_variable g.S.ScalarValue.shown v).name) c.args.variables.now [] c.loop-variable.variable-index c.variable-item.result
    (view_words c.loop-variable.words.items) (view_words c.push.new.self.items) c.loop-variable-test.true c.variable-item.is c.loop-variable.invariant
    (seen-push view_word c.loop-variable.words.items c.push.new.self.items _ c.in_ok-push.ensures.items)

pub returns : goal.returns
returns g c =
    seen-all (λ v. (view_variable g.S.ScalarValue.shown v).name) c.args.variables.now [] c.loop-variable.variable-index
    (view_words c.loop-variable.words.items) c.loop-variable-test.false c.loop-variable.invariant
    ∙ seen-twice (view_variable g.S.ScalarValue.shown) (λ v. v.name) c.args.variables.now
