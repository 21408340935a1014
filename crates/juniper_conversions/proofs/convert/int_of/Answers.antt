use Rattle.std.proofs.Common.{ap, ◌∙◌}
use Rattle.std.specs.Option.{option_and_then}
use Rattle.graphql_spec.specs.Shown.{shown_int}
use Rattle.juniper_conversions.proofs.convert.int_of.Goals as goal

pub returns-in-Some : goal.returns-in-Some
returns-in-Some g c = c.try_to_int.ensures ∙ ap (option_and_then shown_int) c.in-Some.ensures
