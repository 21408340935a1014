use Rattle.std.proofs.Common.{not, sym, ◌&&◌}
use Rattle.graphql_spec.specs.Documents.{written}
use Rattle.graphql_spec.specs.Rules.{gives_too_few}
use Rattle.graphql_spec.specs.Rules.{must_be_written}
use Rattle.juniper_meta.specs.MetaView.{view_argument}
use Rattle.juniper_syntax.specs.DocumentView.{view_arguments}
use Rattle.std.specs.List.{list_any}
use Rattle.std.specs.Str.{bytes_eq}
use Rattle.juniper_written.proofs.Deciding.{open-first, open-next, one-passes, none-passes}
use Rattle.juniper_type_rules.proofs.provided_non_null_arguments.gives_too_few.Goals as goal

pub loop-argument-init : goal.loop-argument-init
loop-argument-init g c =
    let shown = g.S.ScalarValue.shown in
    open-first (view_argument shown) (λ d. must_be_written d && not
    (list_any (λ a. bytes_eq d.name a.name.item) (written (view_arguments shown c.args.call.now.given.now)))) c.args.call.now.declared.now

pub loop-argument-preserved : goal.loop-argument-preserved
loop-argument-preserved g c =
    let shown = g.S.ScalarValue.shown in
    open-next (view_argument shown) (λ d. must_be_written d && not
    (list_any (λ a. bytes_eq d.name a.name.item) (written (view_arguments shown c.args.call.now.given.now)))) c.args.call.now.declared.now
    c.loop-argument.argument-index c.argument-item.result c.loop-argument-test.true c.argument-item.is
    (sym c.if-is_left_out.ensures) c.loop-argument.invariant

pub returns : goal.returns
unfolding gives_too_few
returns g c =
    let shown = g.S.ScalarValue.shown in
    none-passes (view_argument shown) (λ d. must_be_written d && not
    (list_any (λ a. bytes_eq d.name a.name.item) (written (view_arguments shown c.args.call.now.given.now)))) c.args.call.now.declared.now
    c.loop-argument.argument-index c.loop-argument-test.false c.loop-argument.invariant

pub returns-then-is_left_out : goal.returns-then-is_left_out
unfolding gives_too_few
returns-then-is_left_out g c =
    let shown = g.S.ScalarValue.shown in
    one-passes (view_argument shown) (λ d. must_be_written d && not
    (list_any (λ a. bytes_eq d.name a.name.item) (written (view_arguments shown c.args.call.now.given.now)))) c.args.call.now.declared.now
    c.loop-argument.argument-index c.argument-item.result c.loop-argument-test.true c.argument-item.is
    (sym c.if-is_left_out.ensures) c.loop-argument.invariant
