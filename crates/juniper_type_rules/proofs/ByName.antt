-- The variables by name: a map to which the first of each name goes.
use Rattle.std.proofs.Common.{◌≡◌, ℕ, ◌+◌, ◌<◌, ◌≤◌, Bool, true, false, cond, List, [], ◌∷◌, length, get_or, drop, map, Option, Some, None, option_map, is_some}
use Rattle.std.proofs.Common.{Bor, refl, sym, ap, ◌∙◌}
use Rattle.std.specs.Option.{option_or, option_copied}
use Rattle.std.specs.Str.{bytes_eq}
use Rattle.std.proofs.lemmas.List.{drop_all}
use Rattle.graphql_spec.specs.Shown.{Shown, Name}
use Rattle.graphql_spec.specs.Documents as spec
use Rattle.graphql_spec.specs.VariableUses.{definition_of}
use Rattle.juniper_syntax.specs.declared.position.Spanning.{Spanning}
use Rattle.juniper_syntax.specs.declared.position.Span.{Span}
use Rattle.juniper_syntax.specs.DocumentView.{view_variable}
use Rattle.juniper_syntax.specs.declared.ast.VariableDefinition.{VariableDefinition}
use Rattle.juniper_syntax.proofs.Lists.{seen-left-is}
use Rattle.juniper_written.specs.WrittenView.{named}
use Rattle.juniper_written.specs.declared.name_map.NameMap.{NameMap}
use Rattle.juniper_type_rules.specs.UsesView.{definition_at}
use Rattle.juniper_type_rules.proofs.Tests.{some-map}

-- ## Options

or-none : {A : Type 0} (o : Option A) → o ≡ option_or o None
or-none None = refl
or-none (Some x) = refl

or-moves : {A : Type 0} (o p q : Option A) → option_or (option_or o p) q ≡ option_or o (option_or p q)
or-moves None p q = refl
or-moves (Some x) p q = refl

cond-or : {A : Type 0} (b : Bool) (x : A) (o : Option A) → cond b (Some x) o ≡ option_or (cond b (Some x) None) o
cond-or true x o = refl
cond-or false x o = refl

-- ## A loop over variables

-- the first variable, before the others
splits : (v : spec.VariableDefinition) (vs : List spec.VariableDefinition) (n : Name) →
    definition_of (v ∷ vs) n ≡ option_or (definition_of (v ∷ []) n) (definition_of vs n)
unfolding definition_of
splits v vs n = cond-or (bytes_eq n v.name.item) v (definition_of vs n)

pub none-of : (n : Name) → definition_of [] n ≡ None
unfolding definition_of
none-of n = refl

module _ {D : Type 0} (view : D → spec.VariableDefinition) (ds : List D) where
  -- what the map has, before what is left, is the whole
  abbrev pub IsFirstSoFar : ℕ → (Name → Option spec.VariableDefinition) → Type 0
  IsFirstSoFar i has = (n : Name) → option_or (has n) (definition_of (map view (drop i ds)) n) ≡ definition_of (map view ds) n

  pub first-init : (has : Name → Option spec.VariableDefinition) → ((n : Name) → has n ≡ None) → IsFirstSoFar 0 has
  first-init has empty = λ n. ap (λ o. option_or o (definition_of (map view ds) n)) (empty n)

  pub first-next : (has now : Name → Option spec.VariableDefinition) (i : ℕ) (x : D) → i < length ds → x ≡ get_or ds i x → IsFirstSoFar i has →
      ((n : Name) → now n ≡ option_or (has n) (definition_of (view x ∷ []) n)) → IsFirstSoFar (i + 1) now
  first-next has now i x below is so_far one = λ n.
      ap (λ o. option_or o (definition_of (map view (drop (i + 1) ds)) n)) (one n)
      ∙ (or-moves (has n) (definition_of (view x ∷ []) n) (definition_of (map view (drop (i + 1) ds)) n)
      ∙ (ap (option_or (has n)) (sym (splits (view x) (map view (drop (i + 1) ds)) n) ∙ ap (λ l. definition_of l n) (sym (seen-left-is view ds i x below is)))
      ∙ so_far n))

  pub first-all : (has : Name → Option spec.VariableDefinition) (i : ℕ) → length ds ≤ i → IsFirstSoFar i has → (n : Name) →
      has n ≡ definition_of (map view ds) n
  first-all has i past so_far n =
      or-none (has n) ∙ (ap (option_or (has n)) (sym (ap (λ l. definition_of (map view l) n) (drop_all i ds past) ∙ none-of n)) ∙ so_far n)

-- ## One variable more

map-or : {A B : Type 0} (f : A → B) (o p : Option A) → option_map f (option_or o p) ≡ option_or (option_map f o) (option_map f p)
map-or f None p = refl
map-or f (Some x) p = refl

map-cond : {A B : Type 0} (f : A → B) (b : Bool) (x : A) → option_map f (cond b (Some x) None) ≡ cond b (Some (f x)) None
map-cond f true x = refl
map-cond f false x = refl

module _ {S : Type 0} (shown : S → Shown) where
  abbrev Variable : Type 0
  Variable = Spanning (Bor (List ℕ)) Span × VariableDefinition S

  module _ (m : NameMap (Bor Variable)) (k : Name) where
    pub put-seen : (n : NameMap (Bor Variable)) (x : Bor Variable) → named n k ≡ option_or (named m k) (cond (bytes_eq k x.now.0.item.now) (Some x) None) →
        definition_at shown n k ≡ option_or (definition_at shown m k) (definition_of (view_variable shown x.now ∷ []) k)
    unfolding definition_at definition_of
    put-seen n x put =
        let view : Bor Variable → spec.VariableDefinition = λ v. view_variable shown v.now in
        ap (option_map view) put ∙ (map-or view (named m k) (cond (bytes_eq k x.now.0.item.now) (Some x) None)
        ∙ ap (option_or (option_map view (named m k))) (map-cond view (bytes_eq k x.now.0.item.now) x))

    -- nothing is in an empty map
    pub empty-at : named m k ≡ None → definition_at shown m k ≡ None
    unfolding definition_at
    empty-at none = ap (option_map (λ (v : Bor Variable). view_variable shown v.now)) none

    -- what a look-up tells
    pub there-is : is_some (named m k) ≡ is_some (definition_at shown m k)
    unfolding definition_at
    there-is = sym (some-map (λ (v : Bor Variable). view_variable shown v.now) (named m k))

    pub found-is : (o : Option (Bor (Bor Variable))) (v : Bor (Bor Variable)) → option_copied o ≡ named m k → o ≡ Some v →
        Some (view_variable shown v.now.now) ≡ definition_at shown m k
    unfolding definition_at
    found-is o v e is = ap (λ p. option_map (λ (w : Bor Variable). view_variable shown w.now) (option_copied p)) (sym is)
        ∙ ap (option_map (λ (w : Bor Variable). view_variable shown w.now)) e

    pub missing-is : (o : Option (Bor (Bor Variable))) → option_copied o ≡ named m k → o ≡ None → None ≡ definition_at shown m k
    unfolding definition_at
    missing-is o e is = ap (λ p. option_map (λ (w : Bor Variable). view_variable shown w.now) (option_copied p)) (sym is)
        ∙ ap (option_map (λ (w : Bor Variable). view_variable shown w.now)) e
