use Rattle.std.proofs.Common.{◌++◌, ◌∷◌, [], ap, ◌∙◌}
use Rattle.graphql_spec.specs.Fields.{typename_field}
use Rattle.juniper_meta.specs.MetaView.{view_field}
use Rattle.juniper_registry.proofs.Lists.{seen_last}
use Rattle.juniper_words.proofs.making.with_typename.Goals as goal

pub returns : goal.returns
unfolding typename_field
returns g c = seen_last (view_field g.S.ScalarValue.shown) c.push.new.self.items c.in_ok-made.made.items c.in_ok-field.field-0 typename_field
    c.in_ok-push.ensures.items c.in_ok-field.ensures.made ∙ ap (λ fs. fs ++ typename_field ∷ []) c.in_ok-made.ensures
