use Rattle.std.proofs.Common.{map, subst, sym, ◌∙◌}
use Rattle.std.proofs.lemmas.Result.{IfOk-weaker}
use Rattle.juniper_schema.specs.SchemaView.{view_schema}
use Rattle.juniper_syntax.specs.DocumentView.{view_definition}
use Rattle.juniper_syntax.proofs.Lists.{none-seen, some-seen}
use Rattle.juniper_rules.specs.Listing.{AreListedOnTypes}
use Rattle.juniper_explain.specs.Explanations.{view_explanation, view_explanations}
use Rattle.juniper_explain.proofs.Judging.{no-names, types-explained, uses-explained}
use Rattle.juniper_explain.proofs.explaining.explain_later.Goals as goal

pub returns-then-not-is_empty : goal.returns-then-not-is_empty
returns-then-not-is_empty g c listed are none =
    let shown = g.S.ScalarValue.shown in
    let s = view_schema shown c.args.schema.now in
    let d = map (view_definition shown) c.args.document.now in
    let told = c.in_ok-explained.explained in
    let on_types : AreListedOnTypes shown s c.deref.result.now d =
    subst (λ ls. AreListedOnTypes shown s ls d) (sym c.deref.ensures.value) (c.in_ok-on_types.ensures d listed) in
    types-explained s c.args.is_introspection_disabled d (view_explanations told.items) none (c.in_ok-explained.ensures d on_types)
    (some-seen view_explanation told.items told.len told.ok.0 c.if-not-is_empty.ensures)

pub returns : goal.returns
returns g c =
    let shown = g.S.ScalarValue.shown in
    let s = view_schema shown c.args.schema.now in
    let disabled = c.args.is_introspection_disabled in
    let d = map (view_definition shown) c.args.document.now in
    let told = c.in_ok-explained.explained in
    let no_types = none-seen view_explanation told.items told.len told.ok.0 c.if-not-is_empty.ensures in
    IfOk-weaker c.explain_uses.result _ _ (λ es found listed are none.
    let on_types = c.in_ok-on_types.ensures d listed in
    uses-explained s disabled d (view_explanations es.items) none
    (sym no_types ∙ c.in_ok-explained.ensures d (subst (λ ls. AreListedOnTypes shown s ls d) (sym c.deref.ensures.value) on_types))
    (found d (subst (λ ls. AreListedOnTypes shown s ls d) (sym c.deref-2.ensures.value) on_types) are
    (c.deref-3.ensures.value ∙ c.in_ok-cannot_merge.ensures disabled are (no-names s disabled d none)))) c.explain_uses.ensures
