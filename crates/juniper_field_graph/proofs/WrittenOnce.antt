-- Documents in which the rules on names find nothing: no field has an argument twice.
use Rattle.std.proofs.Common.{◌≡◌, ℕ, Bool, false, List, [], ◌∷◌, Option, Some, None, inl, inr, refl, ap, ◌∙◌}
use Rattle.std.specs.List.{flat_map, list_any}
use Rattle.std.proofs.lemmas.Bool.{or_parts}
use Rattle.graphql_spec.specs.Shown.{Name}
use Rattle.graphql_spec.specs.Types.{innermost}
use Rattle.graphql_spec.specs.Documents.{Definition, Document, Head, Selections, end, field, fragment, fragments, inline, name_or, operation, spread, written}
use Rattle.graphql_spec.specs.Fields.{declared_type, field_of}
use Rattle.graphql_spec.specs.Placed.{Placed, root_type}
use Rattle.graphql_spec.specs.Schema.{Schema}
use Rattle.graphql_spec.specs.ValidityLaws.{HasGoodNames}
use Rattle.graphql_spec.specs.Written.{arguments_repeat, heads, selections_of}
use Rattle.graphql_spec.specs.Laws.{In}
use Rattle.graphql_spec.proofs.Found.{names-hold}
use Rattle.graphql_spec.proofs.Grouping.{in_append, in_first, in_second}
use Rattle.graphql_spec.proofs.KnownSpreads.{found-fragment}
use Rattle.graphql_spec.proofs.ValidSets.{no-head-repeats}
use Rattle.juniper_merging.specs.MergingGraph.{FieldAt}
use Rattle.juniper_field_graph.specs.Gathering.{AreWritten, IsKnown, IsReady}
use Rattle.juniper_field_graph.specs.PlainKeys.{AreOnce, placed_on, written_if, written_in, written_on}

-- what no element of a list passes
none-passes : {A : Type 0} (test : A → Bool) (xs : List A) (x : A) → list_any test xs ≡ false → In x xs → test x ≡ false
none-passes test [] x e i = absurd i
none-passes test (y ∷ xs) x e (inl q) = ap test q ∙ (or_parts (test y) (list_any test xs) e).0
none-passes test (y ∷ xs) x e (inr i) = none-passes test xs x (or_parts (test y) (list_any test xs) e).1 i

module _ (s : Schema) (disabled : Bool) (d : Document) (names : HasGoodNames s disabled d) where
  written-once : (x : Definition) → In x d → (h : Head) → In h (heads (selections_of x)) → arguments_repeat (written h.arguments) ≡ false
  written-once x i h j = let n = names-hold s disabled d names x i in
      none-passes (λ (h : Head). arguments_repeat (written h.arguments)) (heads (selections_of x)) h
      (no-head-repeats x n.arguments_differ n.input_fields_differ) j

  pub are-written : AreWritten (fragments d)
  unfolding selections_of
  are-written k f e = written-once (fragment f) (found-fragment d k f e).0

  -- where all fragments are known, each definition is ready
  pub definitions-ready : (vs : List FieldAt) (words : ℕ → Head) (t : List (List ℕ)) (held : Name → Option ℕ) →
      ((k : Name) → IsKnown s (fragments d) vs words t held k) →
      (x : Definition) → In x d →
      IsReady s (fragments d) vs words t held (selections_of x)
  definitions-ready vs words t held known x i = record { once = written-once x i; known = λ k j. known k }

  written-head : (p : Name) (set : Selections) (x : Placed) → In x (written_on s p set) → In x.head (heads set)
  unfolding written_on placed_on heads
  written-head p end x i = absurd i
  written-head p (field h below rest) x (inl e) = inl (ap (λ y. y.head) e)
  written-head p (field h below rest) x (inr i) =
      let q = innermost (declared_type (field_of s p h.name.item)) in
      inr (elim (in_append x (written_on s q below) (written_on s p rest) i) [
        | inl j ↦ in_first x.head (heads below) (heads rest) (written-head q below x j)
        | inr j ↦ in_second x.head (heads below) (heads rest) (written-head p rest x j)
      ])
  written-head p (spread y rest) x i = written-head p rest x i
  written-head p (inline y below rest) x i =
      elim (in_append x (written_on s (name_or y.condition p) below) (written_on s p rest) i) [
        | inl j ↦ in_first x.head (heads below) (heads rest) (written-head (name_or y.condition p) below x j)
        | inr j ↦ in_second x.head (heads below) (heads rest) (written-head p rest x j)
      ]

  head-if : (p : Option Name) (set : Selections) (x : Placed) → In x (written_if s p set) → In x.head (heads set)
  unfolding written_if
  head-if None set x i = absurd i
  head-if (Some p) set x i = written-head p set x i

  definition-head : (y : Definition) (x : Placed) → In x (written_in s y) → In x.head (heads (selections_of y))
  unfolding written_in selections_of
  definition-head (operation o) x i = head-if (root_type s o.kind) o.selections x i
  definition-head (fragment f) x i = written-head f.condition.item f.selections x i

  in-one : (ys : List Definition) (x : Placed) → In x (flat_map (written_in s) ys) → (y : Definition) × In y ys × In x (written_in s y)
  in-one [] x i = absurd i
  in-one (y ∷ ys) x i = elim (in_append x (written_in s y) (flat_map (written_in s) ys) i) [
    | inl j ↦ (y, inl refl, j)
    | inr j ↦ let r = in-one ys x j in (r.0, inr r.1, r.2)
  ]

  -- no field that is written has an argument twice
  pub all-once : AreOnce (flat_map (written_in s) d)
  all-once x i = let r = in-one d x i in written-once r.0 r.1 x.head (definition-head r.0 x r.2)
