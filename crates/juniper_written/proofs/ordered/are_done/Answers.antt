use Rattle.std.proofs.Common.{◌||◌, Bool, not, is_some, sym, ap, ◌∙◌}
use Rattle.std.specs.List.{list_all}
use Rattle.graphql_spec.specs.Shown.{Name}
use Rattle.juniper_written.specs.WrittenView.{has_name, view_names}
use Rattle.juniper_written.specs.SpreadsView.{names_or_none, spread_by}
use Rattle.juniper_written.proofs.Looking.{found-is, missing-is}
use Rattle.juniper_written.proofs.ordered.are_done.Goals as goal

pub returns-in-Some : goal.returns-in-Some
unfolding names_or_none
returns-in-Some c =
    let f : Name → Bool = λ n. has_name c.args.done.now n || not (is_some (spread_by c.args.spreads.now n)) in
    c.all_done.ensures ∙ (ap (λ l. list_all f (view_names l)) c.deref.ensures.value
    ∙ ap (λ o. list_all f (names_or_none o)) (sym (found-is c.args.spreads.now c.args.name.now c.get.result c.in-Some.names c.get.ensures c.in-Some.is)))

pub returns-in-None : goal.returns-in-None
unfolding names_or_none
returns-in-None c =
    ap (λ o. list_all (λ n. has_name c.args.done.now n || not (is_some (spread_by c.args.spreads.now n))) (names_or_none o))
    (sym (missing-is c.args.spreads.now c.args.name.now c.get.result c.get.ensures c.in-None.is))
