-- The words of a field (2.5).
use Rattle.std.specs.Prelude.{ℕ, List, [], Vec}
use Rattle.std.specs.Option.{option_map_or}
use Rattle.std.specs.Borrow.{Bor}
use Rattle.std.specs.BTreeMap.{BTreeMap, get_by}
use Rattle.std.specs.Cmp.Lexicographic.{slice_cmp}
use Rattle.std.specs.Ordering.{nat_cmp}
use Rattle.std.specs.declared.alloc.Global.{Global}
use Rattle.graphql_spec.specs.Shown.{Shown, Name}
use Rattle.graphql_spec.specs.Documents.{Head}
use Rattle.juniper_syntax.specs.Positions.{view_span}
use Rattle.juniper_syntax.specs.declared.position.Spanning.{Spanning}
use Rattle.juniper_syntax.specs.declared.position.Span.{Span}
use Rattle.juniper_syntax.specs.DocumentView.{view_head}
use Rattle.juniper_syntax.specs.declared.ast.Field.{Field, out-Field}

-- the words of a field, and where it is written
abbrev pub head_of : {S : Type 0} → (S → Shown) → Spanning (Field S) Span → Head
head_of {S} shown f = view_head shown (out-Field S f.item) (view_span f.span)

-- the fields that a map has at a response key
abbrev pub fields_at : {O : Type 0} → BTreeMap (Bor (List ℕ)) (Vec O Global) → Name → List O
fields_at groups q = option_map_or (λ g. g.items) (get_by (λ n. slice_cmp nat_cmp q n.now) groups) []
