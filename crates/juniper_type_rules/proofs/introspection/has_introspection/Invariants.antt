use Rattle.graphql_spec.specs.Rules.{is_introspection}
use Rattle.juniper_syntax.specs.DocumentView.{view_field}
use Rattle.juniper_written.proofs.Deciding.{IsOpen}
use Rattle.juniper_type_rules.proofs.introspection.has_introspection.Given as goal

abbrev pub invariant-loop-index : goal.invariant-loop-index
invariant-loop-index g l = IsOpen (λ f. view_field g.S.ScalarValue.shown f.now) (λ h. is_introspection h.name.item) l.written.fields.items l.index
