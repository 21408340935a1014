-- The text of a reference to a type, level by level.
use Rattle.std.proofs.Common.{◌≡◌, ℕ, true, false, [], ◌∷◌, ◌++◌, Option, Box, Global, codes, ap, ◌∙◌, append_assoc, rules}
use Rattle.graphql_spec.specs.Shown.{Name}
use Rattle.graphql_spec.specs.Types.{named, list_of, type_text, with_mark}
use Rattle.juniper_syntax.specs.TypeView.{view_type}
use Rattle.juniper_syntax.specs.declared.types.«Type».{«Type» as CodeType, Named, List as ListOf, NonNullNamed, NonNullList, the_lemmas}

module _ {N : Type 0} (name : N → Name) where
  view-Named : (n : N) → view_type name (Named n) ≡ named false (name n)
  view-Named n = search (rules, the_lemmas)

  view-NonNullNamed : (n : N) → view_type name (NonNullNamed n) ≡ named true (name n)
  view-NonNullNamed n = search (rules, the_lemmas)

  view-List : (t : Box (CodeType N) Global) (size : Option ℕ) → view_type name (ListOf t size) ≡ list_of false size (view_type name t.value)
  view-List t size = search (rules, the_lemmas)

  view-NonNullList : (t : Box (CodeType N) Global) (size : Option ℕ) → view_type name (NonNullList t size) ≡ list_of true size (view_type name t.value)
  view-NonNullList t size = search (rules, the_lemmas)

  pub text-Named : (n : N) → type_text (view_type name (Named n)) ≡ name n
  unfolding type_text with_mark
  text-Named n = ap type_text (view-Named n)

  pub text-NonNullNamed : (n : N) → type_text (view_type name (NonNullNamed n)) ≡ name n ++ codes "!"
  unfolding type_text with_mark
  text-NonNullNamed n = ap type_text (view-NonNullNamed n)

  pub text-List : (t : Box (CodeType N) Global) (size : Option ℕ)
      → type_text (view_type name (ListOf t size)) ≡ codes "[" ++ (type_text (view_type name t.value) ++ codes "]")
  unfolding type_text with_mark
  text-List t size = ap type_text (view-List t size)

  pub text-NonNullList : (t : Box (CodeType N) Global) (size : Option ℕ)
      → type_text (view_type name (NonNullList t size)) ≡ codes "[" ++ (type_text (view_type name t.value) ++ codes "]!")
  unfolding type_text with_mark
  text-NonNullList t size = ap type_text (view-NonNullList t size) ∙ ap (λ r. 91 ∷ r) (append_assoc (type_text (view_type name t.value)) (93 ∷ []) (33 ∷ []))
