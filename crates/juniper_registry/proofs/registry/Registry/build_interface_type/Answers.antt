use Rattle.std.proofs.Common.{List, [], string_bytes, ap, ◌∙◌}
use Rattle.graphql_spec.specs.Schema.{FieldDeclaration, interface_type}
use Rattle.juniper_meta.specs.MetaView.{named_meta}
use Rattle.juniper_registry.proofs.registry.Registry.build_interface_type.Goals as goal

pub returns-clause-built : goal.returns-clause-built
returns-clause-built g c = rw c.in_ok-name.ensures (c.new.ensures
    ∙ ap (λ (fs : List FieldDeclaration). named_meta (string_bytes c.in_ok-name.name) (interface_type fs [])) c.in_ok-fields.ensures.made)
