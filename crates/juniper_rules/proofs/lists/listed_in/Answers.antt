use Rattle.std.proofs.Common.{[], ◌++◌, ◌∷◌, ap, map, ◌∙◌}
use Rattle.juniper_syntax.proofs.Lists.{seen-push}
use Rattle.juniper_syntax.specs.DocumentView.{view_definition}
use Rattle.juniper_written.proofs.Lists.{seen-all, seen-next, seen-twice}
use Rattle.juniper_rules.specs.Listing.{listing_of, view_listed}
use Rattle.juniper_rules.proofs.lists.listed_in.Goals as goal

pub loop-definition-init : goal.loop-definition-init
loop-definition-init g c =
    let shown = g.S.ScalarValue.shown in
    ap (λ l. map (view_listed shown) l ++ map (λ x. listing_of (view_definition shown x)) c.args.document.now) c.in_ok-all.ensures.items

pub loop-definition-preserved : goal.loop-definition-preserved
loop-definition-preserved g c =
    let shown = g.S.ScalarValue.shown in
    let l = c.loop-definition in
    seen-next (λ x. listing_of (view_definition shown x)) c.args.document.now [] l.definition-index c.definition-item.result
    (map (view_listed shown) l.all.items) (map (view_listed shown) c.push.new.self.items)
    c.loop-definition-test.true c.definition-item.is l.invariant
    (seen-push (view_listed shown) l.all.items c.push.new.self.items c.in_ok-listed.listed c.in_ok-push.ensures.items
    ∙ ap (λ u. map (view_listed shown) l.all.items ++ u ∷ []) c.in_ok-listed.ensures)

pub returns : goal.returns
returns g c =
    let shown = g.S.ScalarValue.shown in
    seen-all (λ x. listing_of (view_definition shown x)) c.args.document.now [] c.loop-definition.definition-index
    (map (view_listed shown) c.loop-definition.all.items) c.loop-definition-test.false c.loop-definition.invariant
    ∙ seen-twice (view_definition shown) listing_of c.args.document.now
