-- How directives are seen that are lent (2.12).
use Rattle.std.specs.Prelude.{List, [], map, Option, Some, None}
use Rattle.std.specs.Borrow.{Bor}
use Rattle.graphql_spec.specs.Shown.{Shown}
use Rattle.graphql_spec.specs.Documents as spec
use Rattle.juniper_syntax.specs.declared.position.Spanning.{Spanning}
use Rattle.juniper_syntax.specs.declared.position.Span.{Span}
use Rattle.juniper_syntax.specs.declared.ast.Directive.{Directive}
use Rattle.juniper_syntax.specs.DocumentView.{view_directive}

module _ {S : Type 0} (shown : S → Shown) where
  abbrev pub view_lent : Option (Bor (List (Spanning (Directive S) Span))) → List spec.Directive
  view_lent None = []
  view_lent (Some ds) = map (view_directive shown) ds.now
