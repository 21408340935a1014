use Rattle.std.proofs.Common.{◌<◌, ◌≤◌, length, arith, sym, ap, ◌∙◌, not}
use Rattle.std.specs.Option.{is_none}
use Rattle.graphql_spec.specs.Placed.{directive_named}
use Rattle.juniper_syntax.specs.DocumentView.{view_directive}
use Rattle.juniper_written.proofs.Deciding.{open-first, open-next, one-passes, none-passes}
use Rattle.juniper_written.proofs.Known.{none-is}
use Rattle.juniper_written.proofs.known_directives.has_unknown_directive.Goals as goal

pub loop-index-init : goal.loop-index-init
loop-index-init g c =
    open-first (λ d. view_directive g.S.ScalarValue.shown d.now) (λ d. is_none (directive_named d.name.item)) c.args.written.now.directives.items

pub loop-index-preserved : goal.loop-index-preserved
loop-index-preserved g c =
    let ds = c.args.written.now.directives in
    let below : c.loop-index.index < length ds.items = omega (arith, c.loop-index-test.true, c.len-index-end.ensures, ds.ok.0) in
    open-next (λ d. view_directive g.S.ScalarValue.shown d.now) (λ d. is_none (directive_named d.name.item)) ds.items c.loop-index.index
    c.index-directive.result.now below c.index-directive.ensures
    (none-is _ ∙ ap not (sym c.if-not-is_known.ensures)) c.loop-index.invariant

pub returns : goal.returns
returns g c =
    let ds = c.args.written.now.directives in
    let past : length ds.items ≤ c.loop-index.index = omega (arith, c.loop-index-test.false, c.len-index-end.ensures, ds.ok.0) in
    none-passes (λ d. view_directive g.S.ScalarValue.shown d.now) (λ d. is_none (directive_named d.name.item)) ds.items c.loop-index.index past
    c.loop-index.invariant

pub returns-then-not-is_known : goal.returns-then-not-is_known
returns-then-not-is_known g c =
    let ds = c.args.written.now.directives in
    let below : c.loop-index.index < length ds.items = omega (arith, c.loop-index-test.true, c.len-index-end.ensures, ds.ok.0) in
    one-passes (λ d. view_directive g.S.ScalarValue.shown d.now) (λ d. is_none (directive_named d.name.item)) ds.items c.loop-index.index
    c.index-directive.result.now below c.index-directive.ensures
    (none-is _ ∙ ap not (sym c.if-not-is_known.ensures)) c.loop-index.invariant
