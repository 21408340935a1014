use Rattle.std.proofs.Common.{ap, not, sym, ◌∙◌}
use Rattle.juniper_type_rules.specs.UsesView.{view_use}
use Rattle.juniper_type_rules.proofs.Tests.{first-of, second-of, some-pass}
use Rattle.juniper_type_rules.proofs.uses.Used.has_variables.Goals as goal

pub returns-then-not-is_empty : goal.returns-then-not-is_empty
returns-then-not-is_empty c =
    let names = c.args.self.now.names in
    let named = some-pass (λ n. n.now) names.items names.len c.is_empty.result names.ok.0 c.is_empty.ensures in
    named ∙ first-of _ _ (sym named ∙ ap not c.if-not-is_empty.true)

pub returns-else-not-is_empty : goal.returns-else-not-is_empty
returns-else-not-is_empty c =
    let names = c.args.self.now.names in
    let uses = c.args.self.now.uses in
    let named = some-pass (λ n. n.now) names.items names.len c.is_empty.result names.ok.0 c.is_empty.ensures in
    some-pass view_use uses.items uses.len c.is_empty-else-not-is_empty.result uses.ok.0 c.is_empty-else-not-is_empty.ensures
    ∙ second-of _ _ (sym named ∙ ap not c.if-not-is_empty.false)
