use Rattle.std.proofs.Common.{true, None, ap, ◌∙◌}
use Rattle.graphql_spec.specs.Types.{list_of}
use Rattle.juniper_syntax.specs.TypeView.{non_null}
use Rattle.juniper_registry.proofs.wrappers.VecGraphQLReference.type_in.Goals as goal

pub returns : goal.returns
returns g c = c.wrap_non_null.ensures ∙ (ap non_null c.in_ok-wrap_list.ensures ∙ ap (list_of true None) c.in_ok-item.ensures)
