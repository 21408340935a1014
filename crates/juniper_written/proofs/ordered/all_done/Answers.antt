use Rattle.std.proofs.Common.{◌||◌, [], Bool, Bor, List, ℕ, not, is_some, sym, ◌∙◌}
use Rattle.graphql_spec.specs.Shown.{Name}
use Rattle.juniper_written.specs.WrittenView.{has_name}
use Rattle.juniper_written.specs.SpreadsView.{spread_by}
use Rattle.juniper_written.proofs.Testing.{all-next, all-fails, all-ends}
use Rattle.juniper_written.proofs.ordered.all_done.Goals as goal

abbrev no-name : Bor (List ℕ)
no-name = record { ref_ptr = (0, 0); now = [] }

pub loop-name-preserved : goal.loop-name-preserved
loop-name-preserved c =
    let test : Name → Bool = λ k. has_name c.args.done.now k || not (is_some (spread_by c.args.spreads.now k)) in
    all-next (λ n. n.now) test c.args.names.now c.loop-name.name-index no-name c.loop-name-test.true (sym c.is_done.ensures ∙ c.if-not-is_done.false)
    c.loop-name.invariant

pub returns-then-not-is_done : goal.returns-then-not-is_done
returns-then-not-is_done c =
    let test : Name → Bool = λ k. has_name c.args.done.now k || not (is_some (spread_by c.args.spreads.now k)) in
    all-fails (λ n. n.now) test c.args.names.now c.loop-name.name-index no-name c.loop-name-test.true (sym c.is_done.ensures ∙ c.if-not-is_done.true)
    c.loop-name.invariant

pub returns : goal.returns
returns c =
    let test : Name → Bool = λ k. has_name c.args.done.now k || not (is_some (spread_by c.args.spreads.now k)) in
    all-ends (λ n. n.now) test c.args.names.now c.loop-name.name-index c.loop-name-test.false c.loop-name.invariant
