use Rattle.std.proofs.Common.{length, refl, ◌∙◌}
use Rattle.std.proofs.lemmas.Bool.{le-ltb, lt-ltb}
use Rattle.std.proofs.lemmas.Result.{IfOk-weaker}
use Rattle.juniper_written.specs.WrittenView.{view_names}
use Rattle.juniper_explain.proofs.Nearing.{long-enough, too-long}
use Rattle.juniper_explain.proofs.nearest.suggested.Goals as goal

pub returns-then-name-gt-LONGEST : goal.returns-then-name-gt-LONGEST
returns-then-name-gt-LONGEST c = too-long c.args.name.now (view_names c.args.names.now.items) (lt-ltb 64 (length c.args.name.now) c.if-name-gt-LONGEST.true)

pub returns : goal.returns
returns c = IfOk-weaker c.nearest.result _ _ (λ o is. is ∙ long-enough c.args.name.now _ (view_names c.args.names.now.items)
    (le-ltb 64 (length c.args.name.now) c.if-name-gt-LONGEST.false) refl)
    c.nearest.ensures
