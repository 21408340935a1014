-- Of a valid document each written selection set merges.
use Rattle.std.specs.Prelude.{Bool, true, false, not, ◌&&◌, ◌||◌, map, List, [], ◌∷◌, ◌++◌, ◌≡◌, Option, Some, None}
use Rattle.std.specs.List.{list_any, flat_map}
use Rattle.std.specs.Option.{is_none}
use Rattle.std.specs.Str.{bytes_eq}
use Rattle.std.proofs.lemmas.Bool.{and_parts, or_parts, or_from}
use Rattle.std.proofs.lemmas.List.Folds.{list_any-append}
use Rattle.std.proofs.Common.{refl, sym, ap, ◌∙◌, inl, inr, subst}
use Rattle.graphql_spec.specs.Shown.{Name}
use Rattle.graphql_spec.specs.Types.{innermost}
use Rattle.graphql_spec.specs.Documents.{Word, Argument, Head, Selections, end, field, spread, inline, Operation, Definition, operation, fragment, Document}
use Rattle.graphql_spec.specs.Documents.{fragments, Fragment, written, name_or, word_name}
use Rattle.graphql_spec.specs.Fragments.{expand}
use Rattle.graphql_spec.specs.Schema.{Schema, FieldDeclaration}
use Rattle.graphql_spec.specs.Fields.{type_named, is_composite, field_of, declared_type}
use Rattle.graphql_spec.specs.Written.{heads, conditions, selections_of, defined_variables, all_directives, all_conditions, argument_lists, default_values}
use Rattle.graphql_spec.specs.Written.{values_in, repeats, field_repeats, has_argument, arguments_repeat}
use Rattle.graphql_spec.specs.Placed.{Placed, if_declared, if_composite, placed, root_type, placed_in}
use Rattle.graphql_spec.specs.Merging.{set_merges, sets_merge, definition_merges}
use Rattle.graphql_spec.specs.Rules.{repeats_argument, repeats_input_field, has_other_condition, has_unknown_field, cannot_merge}
use Rattle.graphql_spec.specs.Laws.{In}
use Rattle.graphql_spec.specs.ValidityLaws.{PlacedSet, sets_below, sets_from, sets_in, IsValidDocument, ValidSetsMayMerge, ValidSetsMerge, ValidOperationsMerge}
use Rattle.graphql_spec.proofs.Grouping.{in_append}
use Rattle.graphql_spec.proofs.KeptTypes.{schemas_merge}
use Rattle.graphql_spec.proofs.Expanded.{type_below, AreWell, FragmentsAreWell, whole_right}
use Rattle.graphql_spec.proofs.PairsMerge.{right-merge}
use Rattle.graphql_spec.proofs.Found.{names-hold, types-hold, sets-hold, phases-hold}
use Rattle.graphql_spec.proofs.KnownSpreads.{found-fragment, is-there, names_end_spreads}

-- ## Tests that nothing passes

any-parts : {A : Type 0} (test : A → Bool) (xs ys : List A) → list_any test (xs ++ ys) ≡ false → (list_any test xs ≡ false) × (list_any test ys ≡ false)
any-parts test xs ys e = or_parts (list_any test xs) (list_any test ys) (sym (list_any-append test xs ys) ∙ e)

any-map : {A B : Type 0} (test : B → Bool) (f : A → B) (xs : List A) → list_any test (map f xs) ≡ list_any (λ x. test (f x)) xs
any-map test f [] = refl
any-map test f (x ∷ xs) = ap (λ b. test (f x) || b) (any-map test f xs)

unturned : (b : Bool) → not b ≡ false → b ≡ true
unturned true e = refl
unturned false e = sym e

-- ## Arguments (5.4.2, 5.6.3)

has-argument-is : (n : Name) (as' : List Argument) → has_argument n as' ≡ list_any (bytes_eq n) (map (λ a. a.name.item) as')
unfolding has_argument
has-argument-is n [] = refl
has-argument-is n (a ∷ rest) = ap (λ b. bytes_eq n a.name.item || b) (has-argument-is n rest)

none-repeats : (as' : List Argument) → repeats (map (λ a. a.name.item) as') ≡ false → list_any field_repeats (map (λ a. a.value.item) as') ≡ false →
    arguments_repeat as' ≡ false
unfolding repeats arguments_repeat
none-repeats [] n v = refl
none-repeats (a ∷ rest) n v =
    let p = or_parts (list_any (bytes_eq a.name.item) (map (λ a. a.name.item) rest)) (repeats (map (λ a. a.name.item) rest)) n in
    let q = or_parts (field_repeats a.value.item) (list_any field_repeats (map (λ a. a.value.item) rest)) v in
    or_from (has_argument a.name.item rest) (field_repeats a.value.item || arguments_repeat rest) (has-argument-is a.name.item rest ∙ p.0)
    (or_from (field_repeats a.value.item) (arguments_repeat rest) q.0 (none-repeats rest p.1 q.1))

no-list-repeats : (ls : List (List Argument)) → list_any (λ as'. repeats (map (λ a. a.name.item) as')) ls ≡ false →
    list_any field_repeats (flat_map (λ as'. map (λ a. a.value.item) as') ls) ≡ false →
    list_any arguments_repeat ls ≡ false
no-list-repeats [] n v = refl
no-list-repeats (l ∷ ls) n v =
    let p = or_parts (repeats (map (λ a. a.name.item) l)) (list_any (λ as'. repeats (map (λ a. a.name.item) as')) ls) n in
    let q = any-parts field_repeats (map (λ a. a.value.item) l) (flat_map (λ as'. map (λ a. a.value.item) as') ls) v in
    or_from (arguments_repeat l) (list_any arguments_repeat ls) (none-repeats l p.0 q.0) (no-list-repeats ls p.1 q.1)

-- no field of the definition has an argument, or an object in one a field, twice
pub no-head-repeats : (x : Definition) → repeats_argument x ≡ false → repeats_input_field x ≡ false →
    list_any (λ h. arguments_repeat (written h.arguments)) (heads (selections_of x)) ≡ false
unfolding repeats_argument repeats_input_field values_in argument_lists
no-head-repeats x n v =
    let fields' = map (λ h. written h.arguments) (heads (selections_of x)) in
    let directives' = map (λ d. written d.arguments) (all_directives x) in
    let values = any-parts field_repeats (flat_map (λ as'. map (λ a. a.value.item) as') (fields' ++ directives')) (default_values (defined_variables x)) v in
    let all = no-list-repeats (fields' ++ directives') n values.0 in
    sym (any-map arguments_repeat (λ h. written h.arguments) (heads (selections_of x))) ∙ (any-parts arguments_repeat fields' directives' all).0

-- ## Fields on their types (5.3.1, 5.5.1.3)

module _ (s : Schema) where
  if_declared-is : (o : Option FieldDeclaration) (f : Name → List Placed) → is_none o ≡ false → if_declared s o f ≡ f (innermost (declared_type o))
  unfolding if_declared declared_type
  if_declared-is None f e = cc
  if_declared-is (Some g) f e = refl

  abbrev is_other : Name → Bool
  is_other n = not (is_composite (type_named s n))

  composite : (n : Name) → is_other n ≡ false → is_composite (type_named s n) ≡ true
  composite n e = unturned (is_composite (type_named s n)) e

  -- a condition that is composite, and those behind it
  condition-parts : (o : Option Word) (p : Name) (rest : List Name) (f : Name → List Placed) →
      list_any is_other (elim o [ None ↦ rest | Some w ↦ w.item ∷ rest ]) ≡ false →
      (if_composite s p (word_name o) f ≡ f (name_or o p)) × (list_any is_other rest ≡ false)
  unfolding if_composite word_name name_or
  condition-parts None p rest f e = (refl, e)
  condition-parts (Some w) p rest f e = let q = or_parts (is_other w.item) (list_any is_other rest) e in (rw (composite w.item q.0) refl, q.1)

  abbrev lacks : Placed → Bool
  lacks x = is_none x.declared

  abbrev repeats_at : Head → Bool
  repeats_at h = arguments_repeat (written h.arguments)

  module _ (fs : List Fragment) where
    -- what the rules find nothing in is well
    well : (p : Name) (set : Selections) → list_any lacks (placed s p set) ≡ false → list_any is_other (conditions set) ≡ false →
        list_any repeats_at (heads set) ≡ false → sets_merge s fs p set ≡ true → AreWell s fs p set
    unfolding placed conditions heads sets_merge
    well p end a b c m = tt
    well p (field h below rest) a b c m =
        let o = field_of s p h.name.item in
        let u = or_parts (is_none o) (list_any lacks (if_declared s o (λ q. placed s q below) ++ placed s p rest)) a in
        let v = any-parts lacks (if_declared s o (λ q. placed s q below)) (placed s p rest) u.1 in
        let inside : list_any lacks (placed s (type_below s p h.name.item) below)
        ≡ false = sym (ap (list_any lacks) (if_declared-is o (λ q. placed s q below) u.0)) ∙ v.0 in
        let cs = any-parts is_other (conditions below) (conditions rest) b in
        let hs = or_parts (repeats_at h) (list_any repeats_at (heads below ++ heads rest)) c in
        let hr = any-parts repeats_at (heads below) (heads rest) hs.1 in
        let ms = and_parts (set_merges s fs (type_below s p h.name.item) below && sets_merge s fs (type_below s p h.name.item) below)
        (sets_merge s fs p rest) m in
        let mb = and_parts (set_merges s fs (type_below s p h.name.item) below) (sets_merge s fs (type_below s p h.name.item) below) ms.0 in (
          record { declared = is-there o u.0; once = hs.0; merges = mb.0 },
          (well (type_below s p h.name.item) below inside cs.0 hr.0 mb.1, well p rest v.1 cs.1 hr.1 ms.1),
        )
    well p (spread x rest) a b c m = well p rest a b c m
    well p (inline x below rest) a b c m =
        let q = name_or x.condition p in
        let cp = condition-parts x.condition p (conditions below ++ conditions rest) (λ q. placed s q below) b in
        let v = any-parts lacks (if_composite s p (word_name x.condition) (λ q. placed s q below)) (placed s p rest) a in
        let inside : list_any lacks (placed s q below) ≡ false = sym (ap (list_any lacks) cp.0) ∙ v.0 in
        let cs = any-parts is_other (conditions below) (conditions rest) cp.1 in
        let hr = any-parts repeats_at (heads below) (heads rest) c in
        let ms = and_parts (set_merges s fs q below && sets_merge s fs q below) (sets_merge s fs p rest) m in
        let mb = and_parts (set_merges s fs q below) (sets_merge s fs q below) ms.0 in
        (mb.0, (well q below inside cs.0 hr.0 mb.1, well p rest v.1 cs.1 hr.1 ms.1))

    -- a set that merges, and is well
    record GoodSet (set : PlacedSet) : Type 0 where
      merges : set_merges s fs set.parent set.selections ≡ true
      well : AreWell s fs set.parent set.selections

    good-below : (p : Name) (sel : Selections) → AreWell s fs p sel → (set : PlacedSet) → In set (sets_below s p sel) → GoodSet set
    unfolding sets_below
    good-below p end w set i = absurd i
    good-below p (field h below rest) w set (inl e) = subst GoodSet (sym e) (record { merges = w.0.merges; well = w.1.0 })
    good-below p (field h below rest) w set (inr i) = elim (in_append set (sets_below s (type_below s p h.name.item) below) (sets_below s p rest) i) [
      | inl j ↦ good-below (type_below s p h.name.item) below w.1.0 set j
      | inr j ↦ good-below p rest w.1.1 set j
    ]
    good-below p (spread x rest) w set i = good-below p rest w set i
    good-below p (inline x below rest) w set (inl e) = subst GoodSet (sym e) (record { merges = w.0; well = w.1.0 })
    good-below p (inline x below rest) w set (inr i) = elim (in_append set (sets_below s (name_or x.condition p) below) (sets_below s p rest) i) [
      | inl j ↦ good-below (name_or x.condition p) below w.1.0 set j
      | inr j ↦ good-below p rest w.1.1 set j
    ]

    good-from : (p : Name) (sel : Selections) → set_merges s fs p sel ≡ true → AreWell s fs p sel → (set : PlacedSet) → In set (sets_from s p sel) → GoodSet set
    unfolding sets_from
    good-from p sel m w set (inl e) = subst GoodSet (sym e) (record { merges = m; well = w })
    good-from p sel m w set (inr i) = good-below p sel w set i

-- ## Definitions

placed-operation : (s : Schema) (o : Operation) (p : Name) → root_type s o.kind ≡ Some p → placed_in s (operation o) ≡ placed s p o.selections
unfolding placed_in
placed-operation s o p r = rw (r, placed_in) refl

merges-operation : (s : Schema) (d : Document) (o : Operation) (p : Name) → root_type s o.kind ≡ Some p →
    definition_merges s d (operation o) ≡ (set_merges s (fragments d) p o.selections && sets_merge s (fragments d) p o.selections)
unfolding definition_merges
merges-operation s d o p r = rw (r, definition_merges) refl

sets-operation : (s : Schema) (o : Operation) (p : Name) → root_type s o.kind ≡ Some p → sets_in s (operation o) ≡ sets_from s p o.selections
unfolding sets_in
sets-operation s o p r = rw (r, sets_in) refl

no-sets : (s : Schema) (o : Operation) → root_type s o.kind ≡ None → sets_in s (operation o) ≡ []
unfolding sets_in
no-sets s o r = rw (r, sets_in) refl

placed-fragment : (s : Schema) (f : Fragment) → is_composite (type_named s f.condition.item) ≡ true →
    placed_in s (fragment f) ≡ placed s f.condition.item f.selections
unfolding placed_in if_composite
placed-fragment s f e = rw e refl

module _ (s : Schema) (disabled : Bool) (d : Document) (valid : IsValidDocument s disabled d) where
  -- what an operation selects on its root type, and what is written below
  operation-good : (o : Operation) (p : Name) → In (operation o) d → root_type s o.kind ≡ Some p → (set : PlacedSet) → In set (sets_from s p o.selections) →
      GoodSet s (fragments d) set
  unfolding selections_of has_unknown_field has_other_condition all_conditions cannot_merge
  operation-good o p i r =
      let phases = phases-hold s disabled d valid in
      let names = names-hold s disabled d phases.names (operation o) i in
      let types = types-hold s disabled d phases.types (operation o) i in
      let merged = sym (merges-operation s d o p r) ∙ unturned (definition_merges s d (operation o)) (sets-hold s disabled d phases.uses (operation o) i) in
      let m = and_parts (set_merges s (fragments d) p o.selections) (sets_merge s (fragments d) p o.selections) merged in
      let a = sym (ap (list_any (lacks s)) (placed-operation s o p r)) ∙ types.fields_known in
      good-from s (fragments d) p o.selections m.0 (well s (fragments d) p o.selections a types.conditions_composite
      (no-head-repeats (operation o) names.arguments_differ names.input_fields_differ) m.1)

  -- what a fragment holds on its condition
  fragment-well : (f : Fragment) → In (fragment f) d → (set_merges s (fragments d) f.condition.item f.selections ≡ true)
      × AreWell s (fragments d) f.condition.item f.selections
  unfolding selections_of has_unknown_field has_other_condition all_conditions cannot_merge definition_merges
  fragment-well f i =
      let phases = phases-hold s disabled d valid in
      let names = names-hold s disabled d phases.names (fragment f) i in
      let types = types-hold s disabled d phases.types (fragment f) i in
      let m = and_parts (set_merges s (fragments d) f.condition.item f.selections) (sets_merge s (fragments d) f.condition.item f.selections)
      (unturned (definition_merges s d (fragment f)) (sets-hold s disabled d phases.uses (fragment f) i)) in
      let c = or_parts (is_other s f.condition.item) (list_any (is_other s) (conditions f.selections)) types.conditions_composite in
      let a = sym (ap (list_any (lacks s)) (placed-fragment s f (composite s f.condition.item c.0))) ∙ types.fields_known in
      (m.0, well s (fragments d) f.condition.item f.selections a c.1 (no-head-repeats (fragment f) names.arguments_differ names.input_fields_differ) m.1)

  fragments-well : FragmentsAreWell s (fragments d)
  fragments-well k f e = (fragment-well f (found-fragment d k f e).0).1

  set-good : (x : Definition) → In x d → (set : PlacedSet) → In set (sets_in s x) → GoodSet s (fragments d) set
  unfolding sets_in
  set-good (operation o) i set j = go (root_type s o.kind) refl
    where
      go : (r : Option Name) → root_type s o.kind ≡ r → GoodSet s (fragments d) set
      go None r = absurd (subst (In set) (no-sets s o r) j)
      go (Some p) r = operation-good o p i r set (subst (In set) (sets-operation s o p r) j)
  set-good (fragment f) i set j = let w = fragment-well f i in good-from s (fragments d) f.condition.item f.selections w.0 w.1 set j

-- ## The laws

pub valid_sets_may_merge : ValidSetsMayMerge
unfolding set_merges
valid_sets_may_merge s disabled d valid x i set j n =
    let g = set-good s disabled d valid x i set j in
    let ends = names_end_spreads s disabled d (phases-hold s disabled d valid).names in
    right-merge s set.parent (expand (λ y. true) (fragments d) set.selections)
    (whole_right s (fragments d) ends (fragments-well s disabled d valid) set.parent set.selections g.well) g.merges n

pub valid_sets_merge : {N : Type 0} → ValidSetsMerge N
valid_sets_merge s e disabled d valid vars concrete answer passes x i set j =
    schemas_merge s e vars concrete answer passes (fragments d) set.parent set.selections (valid_sets_may_merge s disabled d valid x i set j)

-- what an operation selects on its root type is one of its sets
pub operation-set : (s : Schema) (o : Operation) (root : Name) → root_type s o.kind ≡ Some root →
    In (record { parent = root; selections = o.selections }) (sets_in s (operation o))
unfolding sets_from
operation-set s o root r = subst (In (record { parent = root; selections = o.selections })) (sym (sets-operation s o root r)) (inl refl)

pub valid_operations_merge : {N : Type 0} → ValidOperationsMerge N
valid_operations_merge s e disabled d valid vars concrete answer passes o i root r =
    valid_sets_merge s e disabled d valid vars concrete answer passes (operation o) i (record { parent = root; selections = o.selections })
    (operation-set s o root r)
