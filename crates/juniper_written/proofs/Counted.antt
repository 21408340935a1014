-- The operations of a document, counted, and whether one of them is alone.
use Rattle.std.proofs.Common.{◌≡◌, ℕ, suc, ◌+◌, ◌<◌, ◌≤◌, arith, true, false, List, ◌∷◌, length, get_or, drop, map, Option, Some, None, option_map, refl, ap}
use Rattle.std.proofs.Common.{◌∙◌}
use Rattle.std.specs.Option.{is_none, is_some}
use Rattle.std.proofs.lemmas.List.{drop_all}
use Rattle.graphql_spec.specs.Shown.{Shown}
use Rattle.graphql_spec.specs.Documents as spec
use Rattle.graphql_spec.specs.Documents.{operations}
use Rattle.juniper_syntax.specs.declared.position.Spanning.{Spanning}
use Rattle.juniper_syntax.specs.declared.position.Span.{Span}
use Rattle.juniper_syntax.specs.DocumentView.{view_definition}
use Rattle.juniper_syntax.specs.declared.ast.Definition.{Definition}
use Rattle.juniper_syntax.specs.declared.ast.Definition.TheVariants.{Operation, Fragment}
use Rattle.juniper_syntax.specs.declared.ast.Operation.{Operation as OperationType}
use Rattle.juniper_syntax.specs.declared.ast.Fragment.{Fragment as FragmentType}
use Rattle.juniper_syntax.proofs.Lists.{seen-left-is}

module _ {S : Type 0} (shown : S → Shown) (xs : List (Definition S)) where
  -- what is counted, with what is left, are all
  abbrev pub IsCount : ℕ → ℕ → Type 0
  IsCount i n = (n ≤ i) × (n + length (operations (map (view_definition shown) (drop i xs))) ≡ length (operations (map (view_definition shown) xs)))

  pub counts-operation : (i : ℕ) (x : Definition S) (n made : ℕ) → i < length xs → x ≡ get_or xs i x → (o : Spanning (OperationType S) Span) → x ≡ Operation o →
      made ≡ n + 1 → IsCount i n → IsCount (i + 1) made
  unfolding operations
  counts-operation i x n made below is o e more so_far =
      let rest : List spec.Definition = map (view_definition shown) (drop (i + 1) xs) in
      let left : length (operations (map (view_definition shown) (drop i xs))) ≡ suc (length (operations rest)) =
      ap (λ l. length (operations l)) (seen-left-is (view_definition shown) xs i x below is)
      ∙ ap (λ y. length (operations (view_definition shown y ∷ rest))) e in
      (omega (arith, so_far.0, more), omega (arith, so_far.1, left, more))

  pub counts-fragment : (i : ℕ) (x : Definition S) (n made : ℕ) → i < length xs → x ≡ get_or xs i x → (f : Spanning (FragmentType S) Span) → x ≡ Fragment f →
      made ≡ n → IsCount i n → IsCount (i + 1) made
  unfolding operations
  counts-fragment i x n made below is f e same so_far =
      let rest : List spec.Definition = map (view_definition shown) (drop (i + 1) xs) in
      let left : length (operations (map (view_definition shown) (drop i xs))) ≡ length (operations rest) =
      ap (λ l. length (operations l)) (seen-left-is (view_definition shown) xs i x below is)
      ∙ ap (λ y. length (operations (view_definition shown y ∷ rest))) e in
      (omega (arith, so_far.0, same), omega (arith, so_far.1, left, same))

  pub counts-all : (i n : ℕ) → length xs ≤ i → IsCount i n → n ≡ length (operations (map (view_definition shown) xs))
  unfolding operations
  counts-all i n past so_far =
      let none : length (operations (map (view_definition shown) (drop i xs))) ≡ 0 = rw (drop_all i xs past) refl in
      omega (arith, so_far.1, none)

pub nameless : {A B : Type 0} (f : A → B) (o : Option A) → is_some o ≡ false → is_none (option_map f o) ≡ true
nameless f None none = refl
nameless f (Some x) none = cc none

pub has-name : {A B : Type 0} (f : A → B) (o : Option A) → is_some o ≡ true → is_none (option_map f o) ≡ false
has-name f None some = cc some
has-name f (Some x) some = refl
