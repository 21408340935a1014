use Rattle.std.proofs.Common.{not, ap, ◌∙◌, ◌++◌}
use Rattle.std.proofs.lemmas.Result.{on_ok_weaker}
use Rattle.juniper_syntax.specs.DocumentView.{view_word}
use Rattle.juniper_written.specs.WrittenView.{has_name}
use Rattle.juniper_explain.specs.Explanations.{named, view_explanations}
use Rattle.juniper_explain.proofs.Found.{not-twice}
use Rattle.juniper_explain.proofs.repeats.explain_repeat.Goals as goal

pub returns-clause-told : goal.returns-clause-told
returns-clause-told c =
    let w = view_word c.args.word.now in
    on_ok_weaker c.add_named.result (λ told. told ∙ ap (λ b. view_explanations c.args.explanations.now.items
    ++ named b c.args.wording.now.rule w c.args.wording.now.before.now c.args.wording.now.after.now)
    (ap not c.in_ok-is_new.ensures.found ∙ not-twice (has_name c.args.seen.now w.item))) c.add_named.ensures
