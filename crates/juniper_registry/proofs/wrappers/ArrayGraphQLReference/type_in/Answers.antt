use Rattle.std.proofs.Common.{true, Some, ap, ◌∙◌}
use Rattle.graphql_spec.specs.Types.{list_of}
use Rattle.juniper_syntax.specs.TypeView.{non_null}
use Rattle.juniper_registry.proofs.wrappers.ArrayGraphQLReference.type_in.Goals as goal

pub returns : goal.returns
returns g c = c.wrap_non_null.ensures ∙ (ap non_null c.in_ok-wrap_list.ensures ∙ ap (list_of true (Some g.row.N)) c.in_ok-item.ensures)
