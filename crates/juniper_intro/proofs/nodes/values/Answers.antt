use Rattle.std.proofs.Common.{◌≡◌, arith, sym, ap, ◌∙◌, length}
use Rattle.graphql_spec.specs.Introspected.{lists_value}
use Rattle.graphql_spec.specs.Resolvers.{answered}
use Rattle.juniper_meta.specs.MetaView.{view_enum_value}
use Rattle.juniper_values.proofs.Resolutions.{view-Node}
use Rattle.juniper_intro.specs.Handles.{value_handle}
use Rattle.juniper_intro.proofs.Collected.{kept-more, passed-all, passed-more}
use Rattle.juniper_intro.proofs.nodes.values.Goals as goal
use Rattle.juniper_intro.proofs.nodes.values.Goals.{then-lists_value+in_ok-push, else-lists_value}

pub loop-number-preserved : goal.loop-number-preserved
loop-number-preserved g c =
    let shown = g.S.ScalarValue.shown in
    elim c.if-lists_value.branch [
      | then-lists_value+in_ok-push w ↦ kept-more shown (view_enum_value) (lists_value c.args.deprecated_too)
          (λ k. value_handle c.args.of_type k) c.args.values.now c.loop-number.number c.index-values-number.result _ _ _
          c.loop-number-test.true c.index-values-number.is (sym c.lists_value.ensures ∙ w.if-lists_value.true)
          (ap (λ v. v.items) w.nodes-is ∙ w.in_ok-push.ensures.items) (view-Node shown _) c.loop-number.invariant
      | else-lists_value w ↦ passed-more shown (view_enum_value) (lists_value c.args.deprecated_too)
          (λ k. value_handle c.args.of_type k) c.args.values.now c.loop-number.number c.index-values-number.result _ _
          c.loop-number-test.true c.index-values-number.is (sym c.lists_value.ensures ∙ w.if-lists_value.false)
          (ap (λ v. v.items) w.nodes-is) c.loop-number.invariant
    ]

pub returns : goal.returns
returns g c =
    let shown = g.S.ScalarValue.shown in
    let ended : length c.args.values.now ≡ c.loop-number.number = omega arith in
    ap answered (passed-all shown (view_enum_value) (lists_value c.args.deprecated_too)
    (λ k. value_handle c.args.of_type k) c.args.values.now c.loop-number.nodes c.loop-number.number ended c.loop-number.invariant)
