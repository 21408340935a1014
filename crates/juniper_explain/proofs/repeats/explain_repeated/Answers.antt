use Rattle.std.proofs.Common.{ap, arith, drop, false, length, sym, ◌+◌, ◌<◌, ◌≤◌, ◌∙◌, ◌++◌}
use Rattle.std.proofs.lemmas.List.{drop_all}
use Rattle.juniper_syntax.specs.DocumentView.{view_word}
use Rattle.juniper_syntax.proofs.Lists.{seen-left-is}
use Rattle.juniper_written.specs.WrittenView.{has_name}
use Rattle.juniper_explain.specs.Explanations.{view_explanations}
use Rattle.juniper_explain.specs.Nodes.{repeated}
use Rattle.juniper_explain.specs.Words.{view_words}
use Rattle.juniper_explain.proofs.Repeating.{repeated-same, repeats-all, repeats-next}
use Rattle.juniper_explain.proofs.repeats.explain_repeated.Goals as goal

pub loop-index-init : goal.loop-index-init
loop-index-init c =
    let t = c.args.wording.now in
    ap (λ l. view_explanations c.args.explanations.now.items ++ l) (repeated-same t.rule t.before.now t.after.now (λ n. has_name c.new-seen.result n)
    (λ n. false)
    c.new-seen.ensures (view_words c.args.words.now.items))

pub loop-index-preserved : goal.loop-index-preserved
loop-index-preserved c =
    let t = c.args.wording.now in
    let xs = c.args.words.now in
    let i = c.loop-index.index in
    let below : i < length xs.items = omega (arith, c.loop-index-test.true, c.len-index-end.ensures, xs.ok.0) in
    repeats-next t.rule t.before.now t.after.now (λ n. has_name c.loop-index.seen n) (λ n. has_name c.explain_repeat.new.seen n)
    (view_word c.index.result.now)
    (view_words (drop (i + 1) xs.items)) (view_explanations c.loop-index.explanations.items) (view_explanations c.explain_repeat.new.explanations.items) _
    c.in_ok-explain_repeat.ensures.seen c.in_ok-explain_repeat.ensures.told
    (ap (λ l. view_explanations c.loop-index.explanations.items ++ repeated t.rule t.before.now t.after.now (λ n. has_name c.loop-index.seen n) l)
    (sym (seen-left-is view_word xs.items i c.index.result.now below c.index.ensures)) ∙ c.loop-index.invariant)

pub returns : goal.returns
returns c =
    let t = c.args.wording.now in
    let xs = c.args.words.now in
    let past : length xs.items ≤ c.loop-index.index = omega (arith, c.loop-index-test.false, c.len-index-end.ensures, xs.ok.0) in
    repeats-all t.rule t.before.now t.after.now (λ n. has_name c.loop-index.seen n) (view_words (drop c.loop-index.index xs.items))
    (view_explanations c.loop-index.explanations.items) _ (ap view_words (drop_all c.loop-index.index xs.items past)) c.loop-index.invariant
