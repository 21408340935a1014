use Rattle.std.proofs.Common.{refl}
use Rattle.graphql_spec.specs.Grammar.{span_of}
use Rattle.juniper_language.proofs.definitions.variables.Goals as goal

pub returns : goal.returns
unfolding span_of
returns g c = rw (c.in_ok-expect.ensures, c.in_ok-items.ensures, c.new.ensures.item, c.new.ensures.span, c.since-span.ensures, c.begin-start.ensures) refl
