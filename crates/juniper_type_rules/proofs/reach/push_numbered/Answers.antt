use Rattle.std.proofs.Common.{◌++◌, ap, sym, ◌∙◌}
use Rattle.std.proofs.lemmas.List.{append-nil}
use Rattle.juniper_syntax.proofs.Lists.{seen-push}
use Rattle.juniper_type_rules.specs.UsesView.{view_used, view_numbered, view_all_numbered}
use Rattle.juniper_type_rules.proofs.Marked.{no-number, no-variables, with-number}
use Rattle.juniper_type_rules.proofs.reach.push_numbered.Goals as goal

pub returns-then-not-has_variables : goal.returns-then-not-has_variables
returns-then-not-has_variables c =
    let old = view_all_numbered c.args.numbered.now.items in
    sym (append-nil old) ∙ ap (λ l. old ++ l) (no-variables c.args.numbers.now (view_used c.args.used.now)
    (sym c.has_variables.ensures ∙ c.if-not-has_variables.true))

pub returns-in_ok-push-in-Some : goal.returns-in_ok-push-in-Some
returns-in_ok-push-in-Some c =
    let old = view_all_numbered c.args.numbered.now.items in
    seen-push view_numbered c.args.numbered.now.items c.push.new.self.items _ c.in_ok-push-in-Some.ensures.items
    ∙ ap (λ l. old ++ l) (with-number c.args.numbers.now (view_used c.args.used.now) c.in-Some.number
    (sym c.has_variables.ensures ∙ c.if-not-has_variables.false) (sym c.number_at.ensures ∙ c.in-Some.is))

pub returns-in-None : goal.returns-in-None
returns-in-None c =
    let old = view_all_numbered c.args.numbered.now.items in
    sym (append-nil old) ∙ ap (λ l. old ++ l) (no-number c.args.numbers.now (view_used c.args.used.now) (sym c.number_at.ensures ∙ c.in-None.is))
