use Rattle.std.proofs.Common.{◌≡◌, arith, sym, ap, ◌∙◌, length}
use Rattle.graphql_spec.specs.Introspected.{lists_field}
use Rattle.graphql_spec.specs.Resolvers.{answered}
use Rattle.juniper_meta.specs.MetaView.{view_field}
use Rattle.juniper_values.proofs.Resolutions.{view-Node}
use Rattle.juniper_intro.specs.Handles.{field_handle}
use Rattle.juniper_intro.proofs.Collected.{kept-more, passed-all, passed-more}
use Rattle.juniper_intro.proofs.nodes.fields.Goals as goal
use Rattle.juniper_intro.proofs.nodes.fields.Goals.{then-lists_field+in_ok-push, else-lists_field}

pub loop-number-preserved : goal.loop-number-preserved
loop-number-preserved g c =
    let shown = g.S.ScalarValue.shown in
    elim c.if-lists_field.branch [
      | then-lists_field+in_ok-push w ↦ kept-more shown (view_field shown) (lists_field c.args.deprecated_too)
          (λ k. field_handle c.args.of_type k) c.args.fields.now c.loop-number.number c.index-fields-number.result _ _ _
          c.loop-number-test.true c.index-fields-number.is (sym c.lists_field.ensures ∙ w.if-lists_field.true)
          (ap (λ v. v.items) w.nodes-is ∙ w.in_ok-push.ensures.items) (view-Node shown _) c.loop-number.invariant
      | else-lists_field w ↦ passed-more shown (view_field shown) (lists_field c.args.deprecated_too)
          (λ k. field_handle c.args.of_type k) c.args.fields.now c.loop-number.number c.index-fields-number.result _ _
          c.loop-number-test.true c.index-fields-number.is (sym c.lists_field.ensures ∙ w.if-lists_field.false)
          (ap (λ v. v.items) w.nodes-is) c.loop-number.invariant
    ]

pub returns : goal.returns
returns g c =
    let shown = g.S.ScalarValue.shown in
    let ended : length c.args.fields.now ≡ c.loop-number.number = omega arith in
    ap answered (passed-all shown (view_field shown) (lists_field c.args.deprecated_too)
    (λ k. field_handle c.args.of_type k) c.args.fields.now c.loop-number.nodes c.loop-number.number ended c.loop-number.invariant)
