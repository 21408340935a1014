use Rattle.std.proofs.Common.{◌≡◌, length, sym, ap, subst, ◌∙◌, rules, arith}
use Rattle.std.proofs.lemmas.Bool.{or_right}
use Rattle.juniper_written.specs.WrittenView.{has_name, view_names}
use Rattle.juniper_written.specs.Order.{IsTaken, is_among}
use Rattle.juniper_written.proofs.Rounds.{known-among, rounds-end, rounds-go-on}
use Rattle.juniper_written.proofs.Taking.{taken-first, taken-ends}
use Rattle.juniper_written.proofs.ordered.names_in_order.Goals as goal

pub loop-left-init : goal.loop-left-init
loop-left-init c = λ fs are.
    let names = has_name c.new-2.result in
    let first = subst (λ l. IsTaken fs names (view_names l)) (sym c.new.ensures.items)
    (taken-first fs names c.new-2.ensures) in (
      c.in_ok-take_ready.ensures.taken fs are first,
      λ k known. or_right (has_name c.take_ready.new.self.names k)
          (is_among (view_names c.in_ok-names.names.items) k) (known-among c.args.spreads.now fs are c.in_ok-names.names.items c.in_ok-names.ensures k known),
    )

pub returns-then-len : goal.returns-then-len
returns-then-len c = λ fs are.
    let i = c.loop-left.invariant fs are in
    let names = has_name c.take_ready-in-loop-left.new.self.names in
    let left : c.deref-in-loop-left.result.now ≡ c.loop-left.left.items = c.deref-in-loop-left.ensures.value in
    let old : length c.loop-left.left.items ≡ c.len-in-loop-left.result = search rules in
    let kept : length c.in_ok-kept.kept.items ≡ c.len.result = search rules in
    let same = kept ∙ (c.if-len.true ∙ (sym old ∙ ap length (sym left))) in
    taken-ends fs names (view_names c.take_ready-in-loop-left.new.self.order.items) (c.in_ok-kept.ensures.taken fs are i.0)
    (rounds-end c.args.spreads.now fs are (has_name c.loop-left.taken.names) names (view_names c.loop-left.left.items) i.1 c.in_ok-kept.ensures.stays
    (λ k e. c.in_ok-kept.ensures.stuck same k (ap (λ l. is_among (view_names l) k) left ∙ e)))

pub loop-left-smaller : goal.loop-left-smaller
loop-left-smaller c =
    let f = c.in_ok-kept.ensures.fewer in
    let left = ap length c.deref-in-loop-left.ensures.value in
    let old : length c.loop-left.left.items ≡ c.len-in-loop-left.result = search rules in
    let kept : length c.in_ok-kept.kept.items ≡ c.len.result = search rules in
    let e = c.if-len.false in
    omega (arith, f, left, old, kept, e)

pub loop-left-preserved : goal.loop-left-preserved
loop-left-preserved c = λ fs are.
    let i = c.loop-left.invariant fs are in
    let left : c.deref-in-loop-left.result.now ≡ c.loop-left.left.items = c.deref-in-loop-left.ensures.value in (
      c.in_ok-kept.ensures.taken fs are i.0,
      rounds-go-on c.args.spreads.now fs are (has_name c.loop-left.taken.names) (has_name c.take_ready-in-loop-left.new.self.names)
          (view_names c.loop-left.left.items)
          (view_names c.in_ok-kept.kept.items) i.1 c.in_ok-kept.ensures.stays
          (λ k e. c.in_ok-kept.ensures.left k (ap (λ l. is_among (view_names l) k) left ∙ e)),
    )
