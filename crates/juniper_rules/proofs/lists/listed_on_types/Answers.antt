use Rattle.std.proofs.Common.{[], ◌++◌, ◌∷◌, ap, map, ◌∙◌}
use Rattle.juniper_schema.specs.SchemaView.{view_schema}
use Rattle.juniper_syntax.proofs.Lists.{seen-push}
use Rattle.juniper_written.proofs.Lists.{seen-all, seen-next, seen-twice}
use Rattle.juniper_rules.specs.Listing.{definition_of, placed_listing_of, view_listed_on_types}
use Rattle.juniper_rules.proofs.Listing.{definitions-are, listed-at}
use Rattle.juniper_rules.proofs.lists.listed_on_types.Goals as goal

pub loop-one-init : goal.loop-one-init
loop-one-init g c = λ d are.
    let shown = g.S.ScalarValue.shown in
    ap (λ l. map (view_listed_on_types shown) l ++ map (λ x. placed_listing_of (view_schema shown c.args.schema.now) (definition_of shown x))
    c.args.listed.now) c.in_ok-all.ensures.items

pub loop-one-preserved : goal.loop-one-preserved
loop-one-preserved g c = λ d are.
    let shown = g.S.ScalarValue.shown in
    let l = c.loop-one in
    let is = listed-at shown c.args.listed.now d are l.one-index c.one-item.result c.loop-one-test.true c.one-item.is in
    seen-next (λ x. placed_listing_of (view_schema shown c.args.schema.now) (definition_of shown x)) c.args.listed.now [] l.one-index c.one-item.result
    (map (view_listed_on_types shown) l.all.items) (map (view_listed_on_types shown) c.push.new.self.items)
    c.loop-one-test.true c.one-item.is (l.invariant d are)
    (seen-push (view_listed_on_types shown) l.all.items c.push.new.self.items c.in_ok-placed.placed c.in_ok-push.ensures.items
    ∙ ap (λ u. map (view_listed_on_types shown) l.all.items ++ u ∷ []) (c.in_ok-placed.ensures is))

pub returns : goal.returns
returns g c = λ d are.
    let shown = g.S.ScalarValue.shown in
    let s = view_schema shown c.args.schema.now in
    seen-all (λ x. placed_listing_of s (definition_of shown x)) c.args.listed.now [] c.loop-one.one-index
    (map (view_listed_on_types shown) c.loop-one.all.items) c.loop-one-test.false (c.loop-one.invariant d are)
    ∙ (seen-twice (definition_of shown) (placed_listing_of s) c.args.listed.now
    ∙ ap (map (placed_listing_of s)) (definitions-are shown c.args.listed.now d are))
