use Rattle.std.proofs.Common.{[], ◌+◌, ◌++◌, ◌∷◌, length, ap, map, ◌∙◌}
use Rattle.std.proofs.lemmas.List.{length_push}
use Rattle.juniper_schema.specs.SchemaView.{view_schema}
use Rattle.juniper_syntax.proofs.Lists.{seen-push}
use Rattle.juniper_type_rules.specs.UsesView.{usage_of, view_used}
use Rattle.juniper_written.proofs.Lists.{seen-all, seen-next, seen-twice}
use Rattle.juniper_rules.specs.Listing.{definition_of}
use Rattle.juniper_rules.proofs.Listing.{definitions-on-types, on-types-at}
use Rattle.juniper_rules.proofs.uses.used_by_each.Goals as goal

pub loop-one-init : goal.loop-one-init
loop-one-init g c =
    let shown = g.S.ScalarValue.shown in (
      ap length c.in_ok-all.ensures.items,
      λ d are. ap (λ l. map view_used l ++ map (λ x. usage_of (view_schema shown c.args.schema.now) (definition_of shown x.listed.now)) c.args.listed.now)
          c.in_ok-all.ensures.items,
    )

pub loop-one-preserved : goal.loop-one-preserved
loop-one-preserved g c =
    let shown = g.S.ScalarValue.shown in
    let s = view_schema shown c.args.schema.now in
    let l = c.loop-one in
    let more = c.in_ok-push.ensures.items in (
      ap length more ∙ (length_push l.all.items c.in_ok-used.used ∙ ap (λ n. n + 1) l.invariant.0),
      λ d are.
          let is = on-types-at shown s c.args.listed.now d are l.one-index c.one-item.result c.loop-one-test.true c.one-item.is in
          seen-next (λ x. usage_of s (definition_of shown x.listed.now)) c.args.listed.now [] l.one-index c.one-item.result
          (map view_used l.all.items) (map view_used c.push.new.self.items)
          c.loop-one-test.true c.one-item.is (l.invariant.1 d are)
          (seen-push view_used l.all.items c.push.new.self.items c.in_ok-used.used more
          ∙ ap (λ u. map view_used l.all.items ++ u ∷ []) (c.in_ok-used.ensures is)),
    )

pub returns-clause-each : goal.returns-clause-each
returns-clause-each g c = λ d are.
    let shown = g.S.ScalarValue.shown in
    let s = view_schema shown c.args.schema.now in
    seen-all (λ x. usage_of s (definition_of shown x.listed.now)) c.args.listed.now [] c.loop-one.one-index
    (map view_used c.loop-one.all.items) c.loop-one-test.false (c.loop-one.invariant.1 d are)
    ∙ (seen-twice (λ x. definition_of shown x.listed.now) (usage_of s) c.args.listed.now
    ∙ ap (map (usage_of s)) (definitions-on-types shown s c.args.listed.now d are))
