-- Input values by their parts, without places (2.9.7, 2.9.8).
use Rattle.std.specs.Prelude.{List, map, ◌≡◌, String, Vec}
use Rattle.std.specs.declared.alloc.Global.{Global}
use Rattle.juniper_syntax.specs.declared.position.Spanning.{Spanning}
use Rattle.juniper_syntax.specs.declared.position.Span.{Span}
use Rattle.juniper_syntax.specs.declared.input.InputValue.{InputValue}
use Rattle.juniper_syntax.specs.declared.input.InputValue as input

module _ {S : Type 0} where
  -- a list of these items
  abbrev pub IsListOf : InputValue S → List (InputValue S) → Type 0
  IsListOf v items = (is : Vec (Spanning (InputValue S) Span) Global) × (v ≡ input.List is) × (map (λ x. x.item) is.items ≡ items)

  -- an object of these fields, in order
  abbrev pub IsObjectOf : InputValue S → List (String Global × InputValue S) → Type 0
  IsObjectOf v fields = (fs : Vec (Spanning (String Global) Span × Spanning (InputValue S) Span) Global) × (v ≡ input.Object fs)
      × (map (λ f. (f.0.item, f.1.item)) fs.items ≡ fields)
