use Rattle.std.proofs.Common.{option_map, sym, ap, ◌∙◌}
use Rattle.std.specs.Option.{option_or}
use Rattle.std.specs.Str.{bytes_eq}
use Rattle.std.proofs.lemmas.Result.{on_ok_weaker}
use Rattle.juniper_syntax.specs.DocumentView.{view_definition, view_fragment, view_operation}
use Rattle.juniper_written.specs.WrittenView.{named}
use Rattle.juniper_written.specs.SpreadsView.{fragment_at}
use Rattle.juniper_written.proofs.ByName.{put-seen, operation-none, fragment-one}
use Rattle.juniper_written.proofs.by_name.put_fragment.Goals as goal

pub returns-in-Fragment : goal.returns-in-Fragment
unfolding fragment_at
returns-in-Fragment g c = on_ok_weaker c.put_first.result (λ put k.
    let shown = g.S.ScalarValue.shown in
    let old = c.args.first.now in
    ap (option_map (λ x. view_fragment shown x.now)) (put k)
    ∙ (put-seen (λ x. view_fragment shown x.now) (named old k) (bytes_eq k c.in-Fragment.fragment.item.name.item.now) _
    ∙ ap (option_or (fragment_at shown old k)) (sym (fragment-one (view_definition shown c.args.definition.now)
    (view_fragment shown c.in-Fragment.fragment) (ap (view_definition shown) c.in-Fragment.is) k)))) c.put_first.ensures

pub returns-in-Operation : goal.returns-in-Operation
returns-in-Operation g c = λ k.
    let shown = g.S.ScalarValue.shown in
    operation-none (view_definition shown c.args.definition.now) (view_operation shown c.in-Operation.field-0) (ap (view_definition shown) c.in-Operation.is)
    (fragment_at shown c.args.first.now k) k
