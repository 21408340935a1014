use Rattle.std.proofs.Common.{sym, ap, subst, ◌∙◌}
use Rattle.std.proofs.lemmas.Result.{IfOk-weaker}
use Rattle.graphql_spec.specs.Documents.{fragments}
use Rattle.juniper_written.specs.WrittenView.{view_names}
use Rattle.juniper_written.specs.Order.{IsInOrder, found}
use Rattle.juniper_written.proofs.Taking.{found-in-order}
use Rattle.juniper_written.proofs.by_name.FragmentsByName.in_order.Goals as goal

pub returns : goal.returns
returns g c = IfOk-weaker c.fragments_of.result _ _ (λ r is d are.
    subst (IsInOrder (fragments d)) (sym (is d are ∙ ap (λ l. found (fragments d) (view_names l)) c.deref.ensures.value))
    (found-in-order (fragments d) (view_names c.in_ok-names.names.items) (c.in_ok-names.ensures (fragments d) are.spread))) c.fragments_of.ensures
