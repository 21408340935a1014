use Rattle.std.proofs.Common.{◌≡◌, IfSome, ap, ◌∙◌, subst}
use Rattle.graphql_spec.specs.Arguments.{coerced_arguments}
use Rattle.graphql_spec.specs.Documents.{written}
use Rattle.graphql_spec.specs.Fields.{declared_arguments, declared_type}
use Rattle.graphql_spec.specs.Types.{innermost}
use Rattle.juniper_schema.specs.MadeTypes.{around, view_made}
use Rattle.juniper_schema.specs.SchemaView.{meta_named, view_schema}
use Rattle.juniper_syntax.specs.InputView.{view_variables}
use Rattle.juniper_values.specs.ArgumentView.{view_arguments}
use Rattle.juniper_walk.specs.FieldWords.{head_of}
use Rattle.juniper_execute.proofs.service.ServiceResolver.question.Goals as goal

pub returns : goal.returns
unfolding declared_type
returns g c =
    let shown = g.S.ScalarValue.shown in
    let s = view_schema shown c.args.self.now.schema.now in
    let vars = view_variables shown c.args.self.now.variables.now in
    let head = head_of shown c.args.field.now in
    let declared = c.declared_type-declared.ensures ∙ ap declared_type c.field_of-declaration.ensures in
    record {
      declaration = c.field_of-declaration.ensures;
      declared = declared;
      shows = λ f m found known.
          let same = declared ∙ ap declared_type found in
          subst (λ t. view_made shown c.in_ok-shown.shown ≡ around m t) same
          (c.in_ok-shown.ensures m (ap (λ t. meta_named s (innermost t)) same ∙ known));
      given = subst (λ ds. IfSome c.in_ok-arguments.arguments (λ a. view_arguments shown a ≡ coerced_arguments ds vars (written head.arguments)))
          (c.arguments_of-of_field.ensures ∙ ap declared_arguments c.field_of-declaration.ensures) c.in_ok-arguments.ensures;
    }
