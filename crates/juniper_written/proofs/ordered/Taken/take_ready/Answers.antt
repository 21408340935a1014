use Rattle.std.proofs.Common.{◌≡◌, ◌++◌, ◌∷◌, ◌+◌, [], Bool, List, ℕ, Bor, drop, get_or, sym, ap, subst, ◌∙◌, rules, arith}
use Rattle.std.proofs.lemmas.List.{length-map}
use Rattle.graphql_spec.specs.Shown.{Name}
use Rattle.juniper_syntax.proofs.Lists.{seen-push}
use Rattle.juniper_written.specs.WrittenView.{has_name, view_names}
use Rattle.juniper_written.specs.Order.{is_ready}
use Rattle.juniper_written.specs.declared.ordered.Taken.{Taken}
use Rattle.juniper_written.proofs.Rounds.{IsRound, round-first, round-seen, round-taken, round-left, round-ends, round-all, round-stuck}
use Rattle.juniper_written.proofs.ordered.Taken.take_ready.Goals.{then-not-branch+in_ok-push, else-not-branch}
use Rattle.juniper_written.proofs.ordered.Taken.take_ready.Goals as goal

-- the names that are taken
taken : Taken → Name → Bool
taken t = has_name t.names

pub loop-name-init : goal.loop-name-init
unfolding taken
loop-name-init c =
    let ready = is_ready c.args.spreads.now in
    let names = view_names c.args.names.now in (
      λ fs are t. t,
      subst (λ l. IsRound taken ready c.args.self.now names c.args.self.now l names 0) (sym (ap view_names c.new-left.ensures.items))
          (round-first taken ready c.args.self.now names),
    )

pub loop-name-preserved : goal.loop-name-preserved
unfolding taken
loop-name-preserved c =
    let ready = is_ready c.args.spreads.now in
    let start = c.args.self.now in
    let names = view_names c.args.names.now in
    let now = c.loop-name.self in
    let new = c.take.new.self in
    let left = view_names c.loop-name.left.items in
    let i = c.loop-name.name-index in
    let none : Bor (List ℕ) = record { ref_ptr = (0, 0); now = [] } in
    let x = get_or c.args.names.now i none in
    let rest = view_names (drop (i + 1) c.args.names.now) in
    let round = round-seen taken ready start names now left c.args.names.now i none c.loop-name-test.true c.loop-name.invariant.1 in (
      λ fs are t. c.in_ok-take.ensures.taken fs are (c.loop-name.invariant.0 fs are t),
      elim c.if-not-branch.branch [
        | then-not-branch+in_ok-push w ↦
            let more : c.if-not-branch.left.items ≡ c.loop-name.left.items ++ x ∷ [] = search rules in
            let out = c.in_ok-take.ensures.not_ready w.if-not-branch.true in
            subst (λ l. IsRound taken ready start names new l rest (i + 1))
            (sym (seen-push (λ n. n.now) c.loop-name.left.items c.if-not-branch.left.items x more))
            (round-left taken ready start names now new left rest i x.now round out.0 out.1)
        | else-not-branch w ↦
            subst (λ l. IsRound taken ready start names new (view_names l.items) rest (i + 1)) (sym w.left-is)
            (round-taken taken ready start names now new left rest i x.now round c.in_ok-take.ensures.stays
            (sym c.in_ok-take.ensures.is ∙ w.if-not-branch.false))
      ],
    )

pub returns-clause-taken : goal.returns-clause-taken
returns-clause-taken c = c.loop-name.invariant.0

pub returns-clause-stays : goal.returns-clause-stays
returns-clause-stays c = c.loop-name.invariant.1.stays

pub returns-clause-left : goal.returns-clause-left
unfolding taken
returns-clause-left c =
    let ready = is_ready c.args.spreads.now in
    let names = view_names c.args.names.now in
    let left = view_names c.loop-name.left.items in
    round-all taken ready c.args.self.now names c.loop-name.self left c.loop-name.name-index
    (round-ends taken ready c.args.self.now names c.loop-name.self left c.args.names.now c.loop-name.name-index c.loop-name-test.false c.loop-name.invariant.1)

pub returns-clause-fewer : goal.returns-clause-fewer
returns-clause-fewer c =
    let f = c.loop-name.invariant.1.fewer in
    let n = length-map c.loop-name.left.items (λ k. k.now) in
    let e = c.loop-name.auto.name-index-end in
    omega (arith, f, n, e)

pub returns-clause-stuck : goal.returns-clause-stuck
unfolding taken
returns-clause-stuck c = λ same.
    let ready = is_ready c.args.spreads.now in
    let names = view_names c.args.names.now in
    let left = view_names c.loop-name.left.items in
    let n = length-map c.loop-name.left.items (λ k. k.now) in
    let e = c.loop-name.auto.name-index-end in
    let f = c.loop-name-test.false in
    round-stuck taken ready c.args.self.now names c.loop-name.self left c.loop-name.name-index
    (round-ends taken ready c.args.self.now names c.loop-name.self left c.args.names.now c.loop-name.name-index c.loop-name-test.false c.loop-name.invariant.1)
    (omega (arith, n, e, f, same))
