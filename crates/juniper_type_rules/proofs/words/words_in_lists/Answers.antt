use Rattle.std.proofs.Common.{◌<◌, ◌≤◌, length, [], ◌++◌, ap, ◌∙◌, arith, map}
use Rattle.std.specs.List.{flat_map}
use Rattle.graphql_spec.specs.Documents.{written}
use Rattle.juniper_type_rules.specs.Variables.{words_given}
use Rattle.juniper_syntax.specs.DocumentView.{view_arguments, view_word}
use Rattle.juniper_written.proofs.Lists.{flat-next, flat-all, flat-seen}
use Rattle.juniper_type_rules.proofs.words.words_in_lists.Goals as goal

pub loop-index-init : goal.loop-index-init
loop-index-init g c =
    let shown = g.S.ScalarValue.shown in
    ap (λ l. map view_word l ++ flat_map (λ x. flat_map words_given (written (view_arguments shown x.now))) c.args.arguments.now.lists.items)
    c.new-words.ensures.items

pub loop-index-preserved : goal.loop-index-preserved
loop-index-preserved g c =
    let shown = g.S.ScalarValue.shown in
    let l = c.loop-index in
    let xs = c.args.arguments.now.lists in
    let below : l.index < length xs.items = omega (arith, c.loop-index-test.true, c.len-index-end.ensures, xs.ok.0) in
    flat-next (λ x. flat_map words_given (written (view_arguments shown x.now))) xs.items [] l.index c.index-given.result.now
    (map view_word l.words.items) (map view_word c.push_of_given.new.words.items) below c.index-given.ensures l.invariant c.in_ok-push_of_given.ensures

pub returns : goal.returns
returns g c =
    let shown = g.S.ScalarValue.shown in
    let xs = c.args.arguments.now.lists in
    let past : length xs.items ≤ c.loop-index.index = omega (arith, c.loop-index-test.false, c.len-index-end.ensures, xs.ok.0) in
    flat-all (λ x. flat_map words_given (written (view_arguments shown x.now))) xs.items [] c.loop-index.index
    (map view_word c.loop-index.words.items) past c.loop-index.invariant
    ∙ flat-seen (λ x. written (view_arguments shown x.now)) (flat_map words_given) xs.items
