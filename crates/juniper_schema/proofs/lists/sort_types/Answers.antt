use Rattle.std.proofs.Common.{rules}
use Rattle.std.proofs.lemmas.Result.{on_ok_weaker}
use Rattle.std.proofs.lemmas.List.MinMax.{ranks_by}
use Rattle.std.proofs.lemmas.List.Sorted.{answers_always}
use Rattle.juniper_schema.specs.ListedTypes.{view_named}
use Rattle.graphql_spec.specs.TypeList.{comes_before}
use Rattle.juniper_schema.proofs.Sorting.{names_total, seen_in_order}
use Rattle.juniper_schema.proofs.lists.sort_types.Goals as goal

pub returns : goal.returns
returns g c =
    let view = view_named g.S.ScalarValue.shown in
    let order = ranks_by names_total (λ t. (view t).key) in
    on_ok_weaker c.sort_by.result
    (λ up. seen_in_order view comes_before order c.args.types.now.items c.sort_by.new.self.items
    (up _ order (answers_always _ _ _ (λ f a r k called. search rules)))
    (c.sort_by.ensures.stable _ order (answers_always _ _ _ (λ f a r k called. search rules))))
    c.sort_by.ensures.sorted
