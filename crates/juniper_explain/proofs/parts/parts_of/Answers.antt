use Rattle.std.proofs.Common.{[], ◌∷◌, ◌++◌, ap, ◌∙◌}
use Rattle.std.specs.List.{flat_map}
use Rattle.graphql_spec.specs.VariableUses.{is_reached}
use Rattle.graphql_spec.specs.Documents as documents
use Rattle.graphql_spec.specs.Written.{selections_of}
use Rattle.graphql_spec.specs.Fragments.{spreads}
use Rattle.juniper_rules.specs.Listing.{placed_listing_of, view_listed_on_types}
use Rattle.juniper_rules.proofs.Listing.{listed-is, written-is}
use Rattle.juniper_syntax.proofs.Lists.{seen-push}
use Rattle.juniper_written.proofs.Lists.{flat-all, flat-next}
use Rattle.juniper_written.specs.Parts.{parts_of}
use Rattle.juniper_written.specs.WrittenView.{has_name, view_names}
use Rattle.juniper_explain.specs.Parts.{view_each}
use Rattle.juniper_explain.proofs.Reached.{parts-are, reached_part}
use Rattle.juniper_explain.proofs.parts.parts_of.Goals as goal

pub loop-part-init : goal.loop-part-init
loop-part-init g c =
    let shown = g.S.ScalarValue.shown in
    ap (λ l. l ++ flat_map (reached_part shown (has_name c.in_ok-reached.reached)) c.args.document.now)
    (seen-push (λ p. view_listed_on_types shown p.now) c.new-parts.result.items c.push.new.self.items _ c.in_ok-push.ensures.items
    ∙ ap (λ l. view_each shown l ++ view_listed_on_types shown c.args.operation.now ∷ []) c.new-parts.ensures.items)

pub loop-part-preserved : goal.loop-part-preserved
loop-part-preserved g c =
    let shown = g.S.ScalarValue.shown in
    flat-next (reached_part shown (has_name c.in_ok-reached.reached)) c.args.document.now (view_listed_on_types shown c.args.operation.now ∷ [])
    c.loop-part.part-index c.part-item.result (view_each shown c.loop-part.parts.items) (view_each shown c.push_reached.new.parts.items)
    c.loop-part-test.true c.part-item.is c.loop-part.invariant c.in_ok-push_reached.ensures

pub returns : goal.returns
unfolding parts_of selections_of
returns g c = λ s d o are fragments is same.
    let shown = g.S.ScalarValue.shown in
    let test = has_name c.in_ok-reached.reached in
    let found = flat_map (reached_part shown test) c.args.document.now in
    let listed = c.args.operation.now.listed.now in
    let names = ap view_names c.deref.ensures.value ∙ (ap (λ p. p.spreads) (written-is shown listed (listed-is shown s c.args.operation.now is))
    ∙ ap (λ x. spreads (selections_of x)) same) in
    flat-all (reached_part shown test) c.args.document.now (view_listed_on_types shown c.args.operation.now ∷ []) c.loop-part.part-index
    (view_each shown c.loop-part.parts.items) c.loop-part-test.false c.loop-part.invariant
    ∙ (ap (λ l. l ∷ found) (is ∙ ap (placed_listing_of s) same)
    ∙ parts-are shown test s c.args.document.now d o are
    (λ n. c.in_ok-reached.ensures d fragments n ∙ ap (λ ks. is_reached (documents.fragments d) ks n) names))
