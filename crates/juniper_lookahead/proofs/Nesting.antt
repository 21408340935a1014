-- How deep selections nest: what is left to go over falls below a spread and below an inline fragment.
use Rattle.std.proofs.Common.{◌≡◌, ℕ, zero, suc, ◌≤◌, ◌<◌, ◌+◌, ◌*◌, ◌-◌, length, get_or, List, [], ◌∷◌, Bor, ap, arith}
use Rattle.std.specs.List.{IsAmong}
use Rattle.std.specs.Map.{values_of}
use denote.Param.Weighed.{at_most, most}
use Rattle.juniper_syntax.specs.declared.position.Spanning.{Spanning}
use Rattle.juniper_syntax.specs.declared.position.Span.{Span}
use Rattle.juniper_syntax.specs.declared.ast.Fragment.{Fragment}
use Rattle.juniper_syntax.specs.declared.ast.InlineFragment.{InlineFragment as InlineType, out-InlineFragment}
use Rattle.juniper_syntax.specs.declared.ast.Selection.{Selection, InlineFragment, size-Selection}
use Rattle.juniper_syntax.specs.declared.ast.Selection.TheViews.{sized-InlineFragment, size_is-InlineFragment}
use Rattle.juniper_lookahead.specs.Nesting.{nesting, deepest_of}

module _ {S : Type 0} where
  shallow_at : (es : List (Bor (List ℕ) × Bor (Fragment S))) (f : Bor (Fragment S)) (i : ℕ) → i < length (values_of es) → f ≡ get_or (values_of es) i f →
      nesting f.now.selection_set.items ≤ most (λ e. nesting e.1.now.selection_set.items) es
  shallow_at [] f i p q = absurd (omega arith)
  shallow_at (e ∷ es) f zero p q = let d = ap (λ (x : Bor (Fragment S)). nesting x.now.selection_set.items) q in omega (arith, d)
  shallow_at (e ∷ es) f (suc i) p q = let d = shallow_at es f i (omega arith) q in omega (arith, d)

  pub value_shallow : (es : List (Bor (List ℕ) × Bor (Fragment S))) (f : Bor (Fragment S)) → IsAmong (values_of es) f
      → nesting f.now.selection_set.items ≤ deepest_of es
  unfolding deepest_of
  value_shallow es f h = shallow_at es f h.0 h.1.0 h.1.1

  pub inline_deeper : (s : Spanning (InlineType S) Span) → nesting (out-InlineFragment S s.item).selection_set.items < size-Selection S (InlineFragment s)
  unfolding nesting
  inline_deeper s = omega (arith, sized-InlineFragment S s, size_is-InlineFragment S s.item)

  pub selection_within : (ss : List (Selection S)) (i : ℕ) (x : Selection S) → i < length ss → x ≡ get_or ss i x → size-Selection S x ≤ nesting ss
  unfolding nesting
  selection_within ss i x below is = let d = ap (size-Selection S) is in let m = at_most (size-Selection S) ss i x below in omega (arith, d, m)

pub product_falls : (n d a b : ℕ) → 0 < n → a ≤ d → (n - 1) * (d + 1) + a < n * (d + 1) + b
product_falls zero d a b p q = absurd (omega arith)
product_falls (suc n) d a b p q = grind arith
