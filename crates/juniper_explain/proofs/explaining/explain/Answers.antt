use Rattle.std.proofs.Common.{◌≡◌, [], map, sym, ap, subst, ◌∙◌}
use Rattle.std.proofs.lemmas.Result.{IfOk-weaker}
use Rattle.juniper_schema.specs.SchemaView.{view_schema}
use Rattle.juniper_written.specs.SpreadsView.{AreFragmentsOf}
use Rattle.juniper_syntax.specs.DocumentView.{view_definition}
use Rattle.juniper_syntax.proofs.Lists.{none-seen, some-seen}
use Rattle.juniper_rules.specs.Listing.{AreListed}
use Rattle.juniper_explain.specs.Explanations.{view_explanation, view_explanations}
use Rattle.juniper_explain.specs.Nodes.{explanations}
use Rattle.juniper_explain.proofs.Judging.{names-explained}
use Rattle.juniper_explain.proofs.explaining.explain.Goals as goal

pub returns-then-not-is_empty : goal.returns-then-not-is_empty
returns-then-not-is_empty g c =
    let shown = g.S.ScalarValue.shown in
    let s = view_schema shown c.args.schema.now in
    let disabled = c.args.is_introspection_disabled in
    let d = map (view_definition shown) c.as_slice-definitions.result.now in
    let told = c.in_ok-explained.explained in
    let are : AreFragmentsOf shown c.in_ok-fragments.fragments d = c.in_ok-fragments.ensures in
    let listed : AreListed shown c.deref.result.now d =
    subst (λ ls. AreListed shown ls d) (sym c.deref.ensures.value) c.in_ok-listed.ensures in
    let some : view_explanations told.items ≡ [] → ⊥ = some-seen view_explanation told.items told.len told.ok.0 c.if-not-is_empty.ensures in
    subst (λ x. view_explanations told.items ≡ explanations s disabled x) (ap (map (view_definition shown)) c.as_slice-definitions.ensures.value)
    (names-explained s disabled d (view_explanations told.items) (c.in_ok-explained.ensures listed are) some)

pub returns : goal.returns
returns g c =
    let shown = g.S.ScalarValue.shown in
    let s = view_schema shown c.args.schema.now in
    let disabled = c.args.is_introspection_disabled in
    let d = map (view_definition shown) c.as_slice-definitions.result.now in
    let told = c.in_ok-explained.explained in
    let are : AreFragmentsOf shown c.in_ok-fragments.fragments d = c.in_ok-fragments.ensures in
    let listed : AreListed shown c.deref.result.now d =
    subst (λ ls. AreListed shown ls d) (sym c.deref.ensures.value) c.in_ok-listed.ensures in
    let none = none-seen view_explanation told.items told.len told.ok.0 c.if-not-is_empty.ensures in
    let again : AreListed shown c.deref-2.result.now d =
    subst (λ ls. AreListed shown ls d) (sym c.deref-2.ensures.value) c.in_ok-listed.ensures in
    IfOk-weaker c.explain_later.result _ _ (λ es found.
    subst (λ x. view_explanations es.items ≡ explanations s disabled x) (ap (map (view_definition shown)) c.as_slice-definitions.ensures.value)
    (found again are (sym none ∙ c.in_ok-explained.ensures listed are))) c.explain_later.ensures
