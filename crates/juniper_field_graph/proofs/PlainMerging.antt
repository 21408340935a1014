-- Where keys are plain, all fields merge.
use Rattle.std.specs.Prelude.{ℕ, zero, suc, Bool, true, false, not, ◌&&◌, ◌||◌, List, [], ◌∷◌, ◌++◌, Option, Some, None, ◌≡◌, map}
use Rattle.std.specs.List.{flat_map, list_all}
use Rattle.std.proofs.lemmas.Bool.{and_from}
use Rattle.std.proofs.Common.{refl, sym, inl, inr, subst}
use Rattle.graphql_spec.specs.Shown.{Name}
use Rattle.graphql_spec.specs.Types.{innermost}
use Rattle.graphql_spec.specs.Documents.{Definition, Document, Fragment, Operation, Selections, end, field, spread, inline, operation, fragment, fragments}
use Rattle.graphql_spec.specs.Documents.{name_or}
use Rattle.graphql_spec.specs.Selections.{Forest, depth}
use Rattle.graphql_spec.specs.Fragments.{expand, fragment_of}
use Rattle.graphql_spec.specs.Schema.{Schema}
use Rattle.graphql_spec.specs.Fields.{field_of, declared_type}
use Rattle.graphql_spec.specs.Placed.{Placed, root_type}
use Rattle.graphql_spec.specs.Overlap.{Field, fields}
use Rattle.graphql_spec.specs.Laws.{In}
use Rattle.graphql_spec.specs.Merging.{definition_merges, each_pair, each_two, fields_at, may_meet, merge, same_arguments, same_key, same_name, set_merges}
use Rattle.graphql_spec.specs.Merging.{sets_merge, shapes_agree, type_at, types_agree}
use Rattle.graphql_spec.specs.Rules.{cannot_merge}
use Rattle.graphql_spec.proofs.KnownSpreads.{found-fragment}
use Rattle.juniper_merging.proofs.Tests.{all-from}
use Rattle.graphql_spec.proofs.Grouping.{in_append, in_first, in_second}
use Rattle.juniper_field_graph.specs.PlainKeys.{are_plain, has_plain_keys, placed_on, written_if, written_in, written_on}
use Rattle.juniper_field_graph.proofs.PlainFields.{Alike, alike-parts, plain-in}
use Rattle.juniper_field_graph.proofs.PlainForests.{AreThere, AreWritten, Stands, each-stands, expand-there}

keyed-from : (k b : Bool) → (k ≡ true → b ≡ true) → (not k || b) ≡ true
keyed-from true b f = f refl
keyed-from false b f = refl

or-second : (a b : Bool) → b ≡ true → (a || b) ≡ true
or-second true b e = refl
or-second false b e = e

two-all : {A : Type 0} (R : A → A → Bool) (xs : List A) → ((x y : A) → In x xs → In y xs → R x y ≡ true) → each_two R xs ≡ true
unfolding each_two
two-all R [] f = refl
two-all R (x ∷ xs) f =
    and_from (list_all (R x) xs) (each_two R xs) (all-from (R x) xs (λ y i. f x y (inl refl) (inr i))) (two-all R xs (λ y z i j. f y z (inr i) (inr j)))

pairs-all : (R : Field → Field → Bool) (xs : List Field) → ((x y : Field) → In x xs → In y xs → same_key x y ≡ true → R x y ≡ true) → each_pair R xs ≡ true
unfolding each_pair
pairs-all R xs f = two-all (λ x y. not (same_key x y) || R x y) xs (λ x y i j. keyed-from (same_key x y) (R x y) (f x y i j))

module _ (s : Schema) (all : List Placed) (is-plain : are_plain s all ≡ true) where
  stands-below : (x y : Field) → Stands s all x → Stands s all y → (z : Field) → In z (fields_at s x ++ fields_at s y) → Stands s all z
  unfolding fields_at
  stands-below x y a b z i = elim (in_append z (fields_at s x) (fields_at s y) i) [
    | inl j ↦ each-stands s all (innermost (type_at s x)) x.occurrence.below a.below z j
    | inr j ↦ each-stands s all (innermost (type_at s y)) y.occurrence.below b.below z j
  ]

  alike : (x y : Field) → Stands s all x → Stands s all y → same_key x y ≡ true →
      Alike s (placed_on s x.parent x.occurrence.head) (placed_on s y.parent y.occurrence.head)
  unfolding same_key placed_on
  alike x y a b e = alike-parts s (placed_on s x.parent x.occurrence.head) (placed_on s y.parent y.occurrence.head)
      (plain-in s all is-plain (placed_on s x.parent x.occurrence.head) (placed_on s y.parent y.occurrence.head) a.own b.own e)

  types-same : (x y : Field) → Stands s all x → Stands s all y → same_key x y ≡ true → types_agree s (type_at s x) (type_at s y) ≡ true
  unfolding type_at placed_on
  types-same x y a b e = (alike x y a b e).type

  call-same : (x y : Field) → Stands s all x → Stands s all y → same_key x y ≡ true → (same_name x y && same_arguments x y) ≡ true
  unfolding same_name same_arguments placed_on
  call-same x y a b e = (alike x y a b e).call

  shapes-plain : (n : ℕ) (x y : Field) → Stands s all x → Stands s all y → same_key x y ≡ true → shapes_agree s n x y ≡ true
  unfolding shapes_agree
  shapes-plain zero x y a b e = types-same x y a b e
  shapes-plain (suc n) x y a b e =
      let F = fields_at s x ++ fields_at s y in
      and_from (types_agree s (type_at s x) (type_at s y)) (each_pair (shapes_agree s n) F) (types-same x y a b e)
      (pairs-all (shapes_agree s n) F (λ z w i j. shapes-plain n z w (stands-below x y a b z i) (stands-below x y a b w j)))

  merge-plain : (n : ℕ) (x y : Field) → Stands s all x → Stands s all y → same_key x y ≡ true → merge s n x y ≡ true
  unfolding merge
  merge-plain zero x y a b e =
      let C = same_name x y && same_arguments x y in
      and_from (shapes_agree s zero x y) (not (may_meet s x y) || C) (shapes-plain zero x y a b e)
      (or-second (not (may_meet s x y)) C (call-same x y a b e))
  merge-plain (suc n) x y a b e =
      let F = fields_at s x ++ fields_at s y in
      let C = same_name x y && same_arguments x y in
      and_from (shapes_agree s (suc n) x y) (not (may_meet s x y) || (C && each_pair (merge s n) F)) (shapes-plain (suc n) x y a b e)
      (or-second (not (may_meet s x y)) (C && each_pair (merge s n) F)
      (and_from C (each_pair (merge s n) F) (call-same x y a b e)
      (pairs-all (merge s n) F (λ z w i j. merge-plain n z w (stands-below x y a b z i) (stands-below x y a b w j)))))

  forest-merges : (n : ℕ) (p : Name) (t : Forest) → AreThere s all p t → each_pair (merge s n) (fields p t) ≡ true
  forest-merges n p t a = pairs-all (merge s n) (fields p t) (λ x y i j. merge-plain n x y (each-stands s all p t a x i) (each-stands s all p t a y j))

  module _ (fs : List Fragment) (held : (k : Name) (f : Fragment) → fragment_of fs k ≡ Some f → AreWritten s all f.condition.item f.selections) where
    set-plain : (p : Name) (set : Selections) → AreWritten s all p set → set_merges s fs p set ≡ true
    unfolding set_merges
    set-plain p set w = let t = expand (λ d. true) fs set in forest-merges (depth t) p t (expand-there s all fs held (λ d. true) p set w)

    sets-plain : (p : Name) (set : Selections) → AreWritten s all p set → sets_merge s fs p set ≡ true
    unfolding sets_merge written_on
    sets-plain p end w = refl
    sets-plain p (field h below rest) w =
        let q = innermost (declared_type (field_of s p h.name.item)) in
        let u : AreWritten s all q below = λ x i. w x (inr (in_first x (written_on s q below) (written_on s p rest) i)) in
        and_from (set_merges s fs q below && sets_merge s fs q below) (sets_merge s fs p rest)
        (and_from (set_merges s fs q below) (sets_merge s fs q below) (set-plain q below u) (sets-plain q below u))
        (sets-plain p rest (λ x i. w x (inr (in_second x (written_on s q below) (written_on s p rest) i))))
    sets-plain p (spread x rest) w = sets-plain p rest w
    sets-plain p (inline x below rest) w =
        let q = name_or x.condition p in
        let u : AreWritten s all q below = λ y i. w y (in_first y (written_on s q below) (written_on s p rest) i) in
        and_from (set_merges s fs q below && sets_merge s fs q below) (sets_merge s fs p rest)
        (and_from (set_merges s fs q below) (sets_merge s fs q below) (set-plain q below u) (sets-plain q below u))
        (sets-plain p rest (λ y i. w y (in_second y (written_on s q below) (written_on s p rest) i)))

    both-plain : (p : Name) (set : Selections) → AreWritten s all p set → (set_merges s fs p set && sets_merge s fs p set) ≡ true
    both-plain p set w = and_from (set_merges s fs p set) (sets_merge s fs p set) (set-plain p set w) (sets-plain p set w)

-- ## Documents

in-flat : {A B : Type 0} (f : A → List B) (xs : List A) (x : A) (y : B) → In x xs → In y (f x) → In y (flat_map f xs)
in-flat f [] x y i j = absurd i
in-flat f (z ∷ xs) x y (inl e) j = in_first y (f z) (flat_map f xs) (subst (λ w. In y (f w)) e j)
in-flat f (z ∷ xs) x y (inr i) j = in_second y (f z) (flat_map f xs) (in-flat f xs x y i j)

module _ (s : Schema) (d : Document) (plain : has_plain_keys s d ≡ true) where
  abbrev every : List Placed
  every = flat_map (written_in s) d

  is-plain : are_plain s every ≡ true
  unfolding has_plain_keys
  is-plain = plain

  held : (k : Name) (f : Fragment) → fragment_of (fragments d) k ≡ Some f → AreWritten s every f.condition.item f.selections
  unfolding written_in
  held k f e x j = in-flat (written_in s) d (fragment f) x (found-fragment d k f e).0 j

  root-written : (o : Operation) (p : Name) → root_type s o.kind ≡ Some p → In (operation o) d → AreWritten s every p o.selections
  unfolding written_in written_if
  root-written o p e i x j = in-flat (written_in s) d (operation o) x i (subst (λ r. In x (written_if s r o.selections)) (sym e) j)

  operation-plain : (o : Operation) (p : Option Name) → root_type s o.kind ≡ p → In (operation o) d → definition_merges s d (operation o) ≡ true
  unfolding definition_merges
  operation-plain o None e i = rw (e, definition_merges) refl
  operation-plain o (Some p) e i = rw (e, definition_merges) (both-plain s every is-plain (fragments d) held p o.selections (root-written o p e i))

  pub plain-merges : (x : Definition) → In x d → definition_merges s d x ≡ true
  unfolding definition_merges written_in
  plain-merges (fragment f) i = both-plain s every is-plain (fragments d) held f.condition.item f.selections
      (λ x j. in-flat (written_in s) d (fragment f) x i j)
  plain-merges (operation o) i = operation-plain o (root_type s o.kind) refl i

  each-false : (xs : List Definition) → ((x : Definition) → In x xs → definition_merges s d x ≡ true) → map (λ _. false) xs ≡ map (cannot_merge s d) xs
  unfolding cannot_merge
  each-false [] f = refl
  each-false (x ∷ xs) f = λ k. not (sym (f x (inl refl)) k) ∷ each-false xs (λ y i. f y (inr i)) k

  pub none-found : map (λ _. false) d ≡ map (cannot_merge s d) d
  none-found = each-false d plain-merges
