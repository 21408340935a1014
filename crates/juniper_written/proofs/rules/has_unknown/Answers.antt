use Rattle.std.proofs.Common.{[], Bool, Bor, List, ℕ, not, is_some, sym, ◌∙◌}
use Rattle.graphql_spec.specs.Shown.{Name}
use Rattle.juniper_written.specs.SpreadsView.{spread_by}
use Rattle.juniper_written.proofs.Testing.{any-next, any-holds, any-ends}
use Rattle.juniper_written.proofs.rules.has_unknown.Goals as goal

abbrev no-name : Bor (List ℕ)
no-name = record { ref_ptr = (0, 0); now = [] }

pub loop-name-preserved : goal.loop-name-preserved
loop-name-preserved c =
    let test : Name → Bool = λ k. not (is_some (spread_by c.args.spreads.now k)) in
    any-next (λ n. n.now) test c.args.names.now c.loop-name.name-index no-name c.loop-name-test.true (sym c.is_unknown.ensures ∙ c.if-is_unknown.false)
    c.loop-name.invariant

pub returns-then-is_unknown : goal.returns-then-is_unknown
returns-then-is_unknown c =
    let test : Name → Bool = λ k. not (is_some (spread_by c.args.spreads.now k)) in
    any-holds (λ n. n.now) test c.args.names.now c.loop-name.name-index no-name c.loop-name-test.true (sym c.is_unknown.ensures ∙ c.if-is_unknown.true)
    c.loop-name.invariant

pub returns : goal.returns
returns c =
    let test : Name → Bool = λ k. not (is_some (spread_by c.args.spreads.now k)) in
    any-ends (λ n. n.now) test c.args.names.now c.loop-name.name-index c.loop-name-test.false c.loop-name.invariant
