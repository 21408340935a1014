use Rattle.std.proofs.Common.{◌≡◌, ap, arith, false, sym, ◌∙◌}
use Rattle.juniper_syntax.proofs.Lists.{none-seen}
use Rattle.juniper_type_rules.specs.UsesView.{has_variables, usage_of, view_numbered}
use Rattle.juniper_type_rules.proofs.Tests.{not-so}
use Rattle.juniper_type_rules.proofs.Unused.{unused-breaks-none}
use Rattle.juniper_type_rules.proofs.reach.UsesOfFragments.has_none_beside.Goals as goal

pub returns-then-is_empty : goal.returns-then-is_empty
returns-then-is_empty c = λ without s d x are own.
    let numbered = c.args.self.now.numbered in
    let idle : has_variables (usage_of s x) ≡ false = ap has_variables (sym own) ∙ (sym c.has_variables.ensures ∙ not-so c.has_variables.result without) in
    unused-breaks-none s d c.args.self.now are
    (none-seen view_numbered numbered.items numbered.len (omega (arith, numbered.ok.0)) (sym c.if-is_empty.true ∙ c.is_empty.ensures)) x idle
