use Rattle.std.proofs.Common.{[], Bool, Bor, List, ℕ, sym, ◌∙◌}
use Rattle.graphql_spec.specs.Shown.{Name}
use Rattle.juniper_written.specs.WrittenView.{named}
use Rattle.juniper_written.specs.SpreadsView.{has_root}
use Rattle.juniper_written.proofs.Testing.{any-next, any-holds, any-ends}
use Rattle.juniper_written.proofs.groups.has_one_of.Goals as goal

abbrev no-name : Bor (List ℕ)
no-name = record { ref_ptr = (0, 0); now = [] }

pub loop-name-preserved : goal.loop-name-preserved
loop-name-preserved c =
    let test : Name → Bool = λ k. has_root c.args.root.now (named c.args.groups.now k) in
    any-next (λ n. n.now) test c.args.names.now c.loop-name.name-index no-name c.loop-name-test.true (sym c.is_under.ensures ∙ c.if-is_under.false)
    c.loop-name.invariant

pub returns-then-is_under : goal.returns-then-is_under
returns-then-is_under c =
    let test : Name → Bool = λ k. has_root c.args.root.now (named c.args.groups.now k) in
    any-holds (λ n. n.now) test c.args.names.now c.loop-name.name-index no-name c.loop-name-test.true (sym c.is_under.ensures ∙ c.if-is_under.true)
    c.loop-name.invariant

pub returns : goal.returns
returns c =
    let test : Name → Bool = λ k. has_root c.args.root.now (named c.args.groups.now k) in
    any-ends (λ n. n.now) test c.args.names.now c.loop-name.name-index c.loop-name-test.false c.loop-name.invariant
