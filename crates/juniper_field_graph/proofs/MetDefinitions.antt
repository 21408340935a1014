-- Fields that are met, one definition behind the other.
use Rattle.std.proofs.Common.{◌≡◌, ℕ, ◌+◌, ◌<◌, ◌≤◌, false, List, [], ◌∷◌, length, replicate, get_or, drop, map, Some, None, refl, sym, subst}
use Rattle.std.specs.List.{flat_map}
use Rattle.std.proofs.lemmas.List.{drop_all}
use Rattle.graphql_spec.specs.Shown.{Shown, Name}
use Rattle.graphql_spec.specs.Documents as spec
use Rattle.graphql_spec.specs.Documents.{Selections}
use Rattle.graphql_spec.specs.Schema.{Schema}
use Rattle.graphql_spec.specs.Placed.{root_type}
use Rattle.juniper_syntax.specs.DocumentView.{view_definition}
use Rattle.juniper_syntax.specs.declared.ast.Definition.{Definition}
use Rattle.juniper_syntax.proofs.Lists.{seen-left-is}
use Rattle.juniper_field_graph.specs.MetView.{Meets, Table}
use Rattle.juniper_field_graph.specs.PlainKeys.{written_if, written_in, written_on}
use Rattle.juniper_field_graph.proofs.Meeting.{meets-nothing, meets-then}

module _ (s : Schema) where
  pub operation-met : (old new : Table) (x : spec.Definition) (o : spec.Operation) (root : Name) (set : Selections) → x ≡ spec.operation o →
      set ≡ o.selections → Some root ≡ root_type s o.kind →
      Meets s old new (written_on s root set) → Meets s old new (written_in s x)
  unfolding written_in written_if
  operation-met old new x o root set is same rooted m =
      subst (λ y. Meets s old new (written_in s y)) (sym is) (subst (λ r. Meets s old new (written_if s r o.selections)) rooted
      (subst (λ l. Meets s old new (written_on s root l)) same m))

  pub rootless-met : (t : Table) (x : spec.Definition) (o : spec.Operation) → x ≡ spec.operation o → None ≡ root_type s o.kind → Meets s t t (written_in s x)
  unfolding written_in written_if
  rootless-met t x o is rootless =
      subst (λ y. Meets s t t (written_in s y)) (sym is) (subst (λ r. Meets s t t (written_if s r o.selections)) rootless (meets-nothing s t))

  pub fragment-met : (old new : Table) (x : spec.Definition) (f : spec.Fragment) (set : Selections) → x ≡ spec.fragment f → set ≡ f.selections →
      Meets s old new (written_on s f.condition.item set) → Meets s old new (written_in s x)
  unfolding written_in
  fragment-met old new x f set is same m =
      subst (λ y. Meets s old new (written_in s y)) (sym is) (subst (λ l. Meets s old new (written_on s f.condition.item l)) same m)

-- nothing is met
abbrev pub none-met-yet : Table
none-met-yet k = None

module _ {S : Type 0} (shown : S → Shown) (s : Schema) (xs : List (Definition S)) where
  -- where what is left is met then, the whole is
  abbrev pub AreMetSoFar : ℕ → Table → Type 0
  AreMetSoFar i now = (then : Table) → Meets s now then (flat_map (written_in s) (map (view_definition shown) (drop i xs))) →
      Meets s none-met-yet then (flat_map (written_in s) (map (view_definition shown) xs))

  pub definitions-none : (now : Table) → ((k : ℕ) → now k ≡ None) → AreMetSoFar 0 now
  definitions-none now none = λ then after. subst (λ t. Meets s t then (flat_map (written_in s) (map (view_definition shown) xs))) (λ j k. none k j) after

  pub definition-next : (i : ℕ) (x : Definition S) (now new : Table) → i < length xs → x ≡ get_or xs i x → AreMetSoFar i now →
      Meets s now new (written_in s (view_definition shown x)) → AreMetSoFar (i + 1) new
  definition-next i x now new below is so-far one = λ then after.
      so-far then (subst (λ l. Meets s now then (flat_map (written_in s) l)) (sym (seen-left-is (view_definition shown) xs i x below is))
      (meets-then s now new then (written_in s (view_definition shown x)) (flat_map (written_in s) (map (view_definition shown) (drop (i + 1) xs))) one after))

  pub definitions-all : (i : ℕ) (now : Table) → length xs ≤ i → AreMetSoFar i now →
      Meets s none-met-yet now (flat_map (written_in s) (map (view_definition shown) xs))
  definitions-all i now over so-far = so-far now
      (subst (λ l. Meets s now now (flat_map (written_in s) (map (view_definition shown) l))) (sym (drop_all i xs over)) (meets-nothing s now))

-- as many marks as elements
pub none-marked : {A B : Type 0} (view : A → B) (xs : List A) → replicate (length xs) false ≡ map (λ _. false) (map view xs)
none-marked view [] = refl
none-marked view (x ∷ xs) = λ k. false ∷ none-marked view xs k
