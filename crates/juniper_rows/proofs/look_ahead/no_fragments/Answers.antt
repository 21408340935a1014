use Rattle.std.proofs.Common.{[], map, refl, sym, ap, subst}
use Rattle.graphql_spec.specs.Fragments.{HasNoCycle, deep, fragment_of}
use Rattle.juniper_syntax.specs.Scalars.{default_shown}
use Rattle.juniper_lookahead.specs.Expansion.{fragments_among, named_fragment}
use Rattle.juniper_rows.proofs.look_ahead.no_fragments.Goals as goal

none-spread : HasNoCycle []
unfolding deep fragment_of
none-spread k = refl

pub returns : goal.returns
unfolding fragments_among
returns c = subst HasNoCycle (sym (ap (map (named_fragment default_shown)) c.new.ensures.empty)) none-spread
