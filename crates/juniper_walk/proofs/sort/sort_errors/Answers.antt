use Rattle.std.proofs.Common.{rules}
use Rattle.std.proofs.lemmas.Result.{on_ok_weaker}
use Rattle.std.proofs.lemmas.List.MinMax.{ranks_by}
use Rattle.std.proofs.lemmas.List.Sorted.{answers_always}
use Rattle.juniper_conversions.specs.ErrorView.{view_listed}
use Rattle.graphql_spec.proofs.ErrorOrder.{compare_total}
use Rattle.juniper_walk.proofs.ErrorSorting.{is_sorted_by, counts_stay}
use Rattle.juniper_walk.proofs.sort.sort_errors.Goals as goal

pub returns-clause-sorted : goal.returns-clause-sorted
returns-clause-sorted g c =
    let view = view_listed g.S.ScalarValue.shown in
    on_ok_weaker c.sort_by.result
    (λ h. is_sorted_by view _ (h _ (ranks_by compare_total view) (answers_always _ _ _ (λ f a r k called. search rules))))
    c.sort_by.ensures.sorted

pub returns-clause-counted : goal.returns-clause-counted
returns-clause-counted g c p = counts_stay (view_listed g.S.ScalarValue.shown) p _ _ c.sort_by.ensures.permutation

pub returns-clause-stable : goal.returns-clause-stable
returns-clause-stable g c =
    c.sort_by.ensures.stable _ (ranks_by compare_total (view_listed g.S.ScalarValue.shown)) (answers_always _ _ _ (λ f a r k called. search rules))
