use Rattle.std.proofs.Common.{option_map, string_bytes, sym, ap, ◌∙◌}
use Rattle.graphql_spec.specs.Fields.{declared_type}
use Rattle.juniper_meta.specs.MetaView.{view_field}
use Rattle.juniper_syntax.specs.TypeView.{view_type}
use Rattle.juniper_execute.proofs.Undeclared.{undeclared-is}
use Rattle.juniper_execute.proofs.question.declared_type.Goals as goal

pub returns-in-None : goal.returns-in-None
returns-in-None g c =
    undeclared-is (view_type (λ n. string_bytes n) c.args.undeclared.now) c.requires
    ∙ ap (λ f. declared_type (option_map (λ x. view_field g.S.ScalarValue.shown x.now) f)) (sym c.in-None.is)
