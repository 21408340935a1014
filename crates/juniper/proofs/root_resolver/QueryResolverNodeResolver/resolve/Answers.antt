use Rattle.std.proofs.Common.{◌<◌, length, subst, sym}
use Rattle.juniper_execute.specs.Replied.{AreSome}
use Rattle.juniper.proofs.ManyReplies.{many-replied}
use Rattle.juniper.proofs.root_resolver.QueryResolverNodeResolver.resolve.Goals as goal

pub resolve_fields-requires-clause-some : goal.resolve_fields-requires-clause-some
resolve_fields-requires-clause-some g c = subst (λ l. 0 < length l) (sym c.deref.ensures.value) (subst AreSome c.in-Many.is c.requires.some)

pub returns-in-Ok-resolve_fields : goal.returns-in-Ok-resolve_fields
returns-in-Ok-resolve_fields g c =
    many-replied g.S.ScalarValue.shown _ _ _ _ c.in-Ok-resolve_fields.answers c.in-Many.is c.deref.ensures.value c.in-Ok-resolve_fields.ensures
