use Rattle.std.proofs.Common.{◌≡◌, cond, None, Some, option_map, sym, ap, ◌∙◌}
use Rattle.std.specs.Option.{option_or}
use Rattle.std.specs.Str.{bytes_eq}
use Rattle.std.proofs.lemmas.Result.{on_ok_weaker}
use Rattle.graphql_spec.specs.Documents.{fragment}
use Rattle.juniper_syntax.specs.DocumentView.{view_definition, view_fragment, view_operation}
use Rattle.juniper_written.specs.WrittenView.{named, view_names}
use Rattle.juniper_written.specs.SpreadsView.{spread_by}
use Rattle.juniper_written.proofs.ByName.{put-seen, operation-no-spreads, spreads-one, written-spreads}
use Rattle.juniper_written.proofs.by_name.put_spreads.Goals as goal

pub returns-in_ok-written-in-Fragment : goal.returns-in_ok-written-in-Fragment
unfolding spread_by
returns-in_ok-written-in-Fragment g c = on_ok_weaker c.put_first.result (λ put k.
    let shown = g.S.ScalarValue.shown in
    let old = c.args.spreads.now in
    let name = c.in-Fragment.fragment.item.name.item.now in
    let f = view_fragment shown c.in-Fragment.fragment in
    let written = c.in_ok-written-in-Fragment.written in
    let is : view_definition shown c.args.definition.now ≡ fragment f = ap (view_definition shown) c.in-Fragment.is in
    ap (option_map (λ v. view_names v.items)) (put k)
    ∙ (put-seen (λ v. view_names v.items) (named old k) (bytes_eq k name) written.spreads
    ∙ (ap (λ ns. option_or (spread_by old k) (cond (bytes_eq k name) (Some ns) None))
    (written-spreads shown written (view_definition shown c.args.definition.now) f is c.in_ok-written-in-Fragment.ensures)
    ∙ ap (option_or (spread_by old k)) (sym (spreads-one (view_definition shown c.args.definition.now) f is k))))) c.put_first.ensures

pub returns-in-Operation : goal.returns-in-Operation
returns-in-Operation g c = λ k.
    let shown = g.S.ScalarValue.shown in
    operation-no-spreads (view_definition shown c.args.definition.now) (view_operation shown c.in-Operation.field-0)
    (ap (view_definition shown) c.in-Operation.is) (spread_by c.args.spreads.now k) k
