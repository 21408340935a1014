use Rattle.std.proofs.Common.{◌<◌, ◌≤◌, length, [], ◌++◌, ap, map, ◌∙◌, arith}
use Rattle.juniper_syntax.specs.DocumentView.{view_word}
use Rattle.juniper_syntax.proofs.Lists.{seen-push}
use Rattle.juniper_written.specs.WrittenView.{view_names}
use Rattle.juniper_written.proofs.Lists.{seen-all, seen-next, seen-twice}
use Rattle.juniper_type_rules.proofs.words.names_of_words.Goals as goal

pub loop-index-init : goal.loop-index-init
loop-index-init c = ap (λ l. view_names l ++ map (λ w. w.item.now) c.args.words.now.items) c.in_ok-names.ensures.items

pub loop-index-preserved : goal.loop-index-preserved
loop-index-preserved c =
    let l = c.loop-index in
    let xs = c.args.words.now in
    let below : l.index < length xs.items = omega (arith, c.loop-index-test.true, c.len-index-end.ensures, xs.ok.0) in
    seen-next (λ w. w.item.now) xs.items [] l.index c.index-word.result.now (view_names l.names.items) (view_names c.push.new.self.items) below
    c.index-word.ensures l.invariant (seen-push (λ n. n.now) l.names.items c.push.new.self.items _ c.in_ok-push.ensures.items)

pub returns : goal.returns
returns c =
    let xs = c.args.words.now in
    let past : length xs.items ≤ c.loop-index.index = omega (arith, c.loop-index-test.false, c.len-index-end.ensures, xs.ok.0) in
    seen-all (λ w. w.item.now) xs.items [] c.loop-index.index (view_names c.loop-index.names.items) past c.loop-index.invariant
    ∙ seen-twice view_word (λ w. w.item) xs.items
