use Rattle.std.proofs.Common.{◌≡◌, ◌++◌, drop, false}
use Rattle.juniper_written.specs.WrittenView.{has_name}
use Rattle.juniper_explain.specs.Explanations.{view_explanations}
use Rattle.juniper_explain.specs.Nodes.{repeated}
use Rattle.juniper_explain.specs.Words.{view_words}
use Rattle.juniper_explain.proofs.repeats.explain_repeated.Given as goal

-- what is explained, and then what the names that are left show behind those that were seen
abbrev pub invariant-loop-index : goal.invariant-loop-index
invariant-loop-index l =
    view_explanations l.explanations.items
    ++ repeated l.wording.rule l.wording.before.now l.wording.after.now (λ n. has_name l.seen n) (view_words (drop l.index l.words.items))
    ≡ view_explanations l.initial.explanations.items ++ repeated l.wording.rule l.wording.before.now l.wording.after.now (λ n. false) (view_words l.words.items)
