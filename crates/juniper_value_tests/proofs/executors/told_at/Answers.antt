use Rattle.std.proofs.Common.{[], map, refl, sym, ap, subst}
use Rattle.graphql_spec.specs.Fragments.{HasNoCycle, deep, fragment_of}
use Rattle.juniper_syntax.specs.Scalars.{default_shown}
use Rattle.juniper_lookahead.specs.Expansion.{fragments_among, named_fragment}
use Rattle.juniper_value_tests.proofs.executors.told_at.Goals as goal

none-spread : HasNoCycle []
unfolding deep fragment_of
none-spread k = refl

pub at_field-executor-requires-clause-acyclic : goal.at_field-executor-requires-clause-acyclic
unfolding fragments_among
at_field-executor-requires-clause-acyclic c = subst HasNoCycle (sym (ap (map (named_fragment default_shown)) c.new-fragments.ensures.empty)) none-spread
