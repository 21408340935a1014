use Rattle.std.proofs.Common.{◌<◌, ◌≤◌, length, arith, sym, ◌∙◌}
use Rattle.graphql_spec.specs.Documents.{written}
use Rattle.std.specs.List.{list_any}
use Rattle.juniper_written.specs.FieldNames.{value_repeats_in}
use Rattle.juniper_syntax.specs.DocumentView.{view_arguments}
use Rattle.juniper_written.proofs.Deciding.{open-first, open-next, one-passes, none-passes}
use Rattle.juniper_written.proofs.unique_input_field_names.lists_repeat.Goals as goal

pub loop-index-init : goal.loop-index-init
loop-index-init g c = open-first (λ a. written (view_arguments g.S.ScalarValue.shown a.now)) (list_any value_repeats_in) c.args.arguments.now.lists.items

pub loop-index-preserved : goal.loop-index-preserved
loop-index-preserved g c =
    let lists = c.args.arguments.now.lists in
    let below : c.loop-index.index < length lists.items = omega (arith, c.loop-index-test.true, c.len-index-end.ensures, lists.ok.0) in
    open-next (λ a. written (view_arguments g.S.ScalarValue.shown a.now))
    (list_any value_repeats_in) lists.items c.loop-index.index c.index-given.result.now below c.index-given.ensures
    (sym c.in_ok-given_repeat.ensures ∙ c.if-branch.false) c.loop-index.invariant

pub returns : goal.returns
returns g c =
    let lists = c.args.arguments.now.lists in
    let past : length lists.items ≤ c.loop-index.index = omega (arith, c.loop-index-test.false, c.len-index-end.ensures, lists.ok.0) in
    none-passes (λ a. written (view_arguments g.S.ScalarValue.shown a.now))
    (list_any value_repeats_in) lists.items c.loop-index.index past c.loop-index.invariant

pub returns-then-branch : goal.returns-then-branch
returns-then-branch g c =
    let lists = c.args.arguments.now.lists in
    let below : c.loop-index.index < length lists.items = omega (arith, c.loop-index-test.true, c.len-index-end.ensures, lists.ok.0) in
    one-passes (λ a. written (view_arguments g.S.ScalarValue.shown a.now))
    (list_any value_repeats_in) lists.items c.loop-index.index c.index-given.result.now below c.index-given.ensures
    (sym c.in_ok-given_repeat.ensures ∙ c.if-branch.true) c.loop-index.invariant
