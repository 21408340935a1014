-- The nodes of what is left of a list, one step on and at the end.
use Rattle.std.proofs.Common.{◌≡◌, ◌≤◌, ◌<◌, ◌+◌, ℕ, Bool, List, [], ◌∷◌, ◌++◌, length, drop, map, cond, true, false, sym, ap, ◌∙◌, rules}
use Rattle.std.proofs.Math.ListN.{get_or}
use Rattle.std.proofs.lemmas.List.{append_assoc, at_drop_more, drop_all}
use Rattle.std.specs.List.{enumerate_from, filter}

-- the nodes of the entries that pass, in order, each by its place, where the first entry has this place
abbrev pub nodes_from : {E N : Type 0} → (ℕ → N) → (E → Bool) → ℕ → List E → List N
nodes_from node passes place es = map (λ e. node e.0) (filter (λ e. passes e.1) (enumerate_from place es))

module _ {E N : Type 0} (at : ℕ → N) (test : E → Bool) where
  -- the nodes of an entry and those behind it, where the test answers so at the entry
  abbrev tested : Bool → ℕ → E → List E → List N
  tested answer i e es =
      map (λ e. at e.0) (cond answer ((i, e) ∷ filter (λ e. test e.1) (enumerate_from (i + 1) es)) (filter (λ e. test e.1) (enumerate_from (i + 1) es)))

  met : (i : ℕ) (es : List E) (e : E) (answer : Bool) → i < length es → e ≡ get_or es i e → answer ≡ test e
      → nodes_from at test i (drop i es) ≡ tested answer i e (drop (i + 1) es)
  met i es e answer within entry is =
      at_drop_more (nodes_from at test i) es i e within ∙ ap (λ e. nodes_from at test i (e ∷ drop (i + 1) es)) (sym entry)
      ∙ ap (λ a. tested a i e (drop (i + 1) es)) (sym is)

  pub taken : (items whole : List N) (n : N) (i : ℕ) (es : List E) (e : E) → i < length es → e ≡ get_or es i e → true ≡ test e → n ≡ at i
      → items ++ nodes_from at test i (drop i es) ≡ whole → (items ++ n ∷ []) ++ nodes_from at test (i + 1) (drop (i + 1) es) ≡ whole
  taken items whole n i es e within entry passes node so_far =
      let left : List N = nodes_from at test (i + 1) (drop (i + 1) es) in
      ap (λ m. (items ++ m ∷ []) ++ left) node ∙ append_assoc items (at i ∷ []) left
      ∙ sym (ap (λ ns. items ++ ns) (met i es e true within entry passes)) ∙ so_far

  pub passed_over : (items whole : List N) (i : ℕ) (es : List E) (e : E) → i < length es → e ≡ get_or es i e → false ≡ test e
      → items ++ nodes_from at test i (drop i es) ≡ whole → items ++ nodes_from at test (i + 1) (drop (i + 1) es) ≡ whole
  passed_over items whole i es e within entry passes so_far = sym (ap (λ ns. items ++ ns) (met i es e false within entry passes)) ∙ so_far

  pub ended : (items whole : List N) (i : ℕ) (es : List E) → length es ≤ i → items ++ nodes_from at test i (drop i es) ≡ whole → items ≡ whole
  ended items whole i es beyond so_far = search (rules, drop_all i es beyond, so_far)
