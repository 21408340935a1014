-- How the code's places are seen (2.1.3).
use Rattle.graphql_spec.specs.Positions as spec
use Rattle.juniper_syntax.specs.declared.position.SourcePosition.{SourcePosition}
use Rattle.juniper_syntax.specs.declared.position.Span.{Span}
use Rattle.juniper_syntax.specs.declared.position.Spanning.{Spanning}

abbrev pub view_position : SourcePosition → spec.Position
view_position p = record { index = p.index; line = p.line; column = p.column }

abbrev pub view_span : Span → spec.Span
view_span s = record { start = view_position s.start; end = view_position s.end }

-- an item with its place, seen by f
abbrev pub view_spanning : {A B : Type 0} → (A → B) → Spanning A Span → spec.Spanned B
view_spanning f x = record { item = f x.item; span = view_span x.span }
