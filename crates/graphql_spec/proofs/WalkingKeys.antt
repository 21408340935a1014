-- An object, response key by response key.
use Rattle.std.proofs.Common.{◌≡◌, ◌||◌, ◌&&◌, ℕ, suc, Bool, true, false, List, [], ◌∷◌, ◌++◌, map, refl, sym, ap, ◌∙◌, inl, inr, subst, arith, append_assoc}
use Rattle.std.specs.List.{flat_map}
use Rattle.std.proofs.lemmas.Bool.{cases_Bool}
use Rattle.std.proofs.lemmas.List.{append-nil, map-append}
use Rattle.std.proofs.lemmas.Grind.{flat_map-append}
use Rattle.graphql_spec.specs.Shown.{Name}
use Rattle.graphql_spec.specs.Positions.{Position}
use Rattle.graphql_spec.specs.Values.{Value, null, object, Entries, no_entries, entry, is_null, put, append}
use Rattle.graphql_spec.specs.Types.{TypeRef, required}
use Rattle.graphql_spec.specs.Errors.{Place, key, Listed}
use Rattle.graphql_spec.specs.Selections.{Forest, depth, Occurrence, occurrences, keys, with_key, all_below}
use Rattle.graphql_spec.specs.Resolvers.{World}
use Rattle.graphql_spec.specs.Execution.{type_of, reply_of, whole_object, is_lost, entries, data_of, grouped}
use Rattle.graphql_spec.specs.Failures.{Failure}
use Rattle.graphql_spec.specs.Nulls.{key_standing, reply_standing, nulls, nulls_of}
use Rattle.graphql_spec.specs.Walk.{Met}
use Rattle.graphql_spec.proofs.Lists.{known}
use Rattle.graphql_spec.proofs.Grouping.{in_append}
use Rattle.graphql_spec.proofs.Objects.{append-entries, has_entry-known}
use Rattle.graphql_spec.proofs.Failing.{Distinct, distinct-keys, tally, tally-append}
use Rattle.graphql_spec.proofs.Walk.{met-join, met-stop}
use Rattle.graphql_spec.proofs.Places.{met-none}
use Rattle.graphql_spec.proofs.Whole.{data_is_grouped, failures_are_grouped}
use Rattle.graphql_spec.proofs.Depth.{nulls-deep, nulls-suc, Fits, fits-occurrences, fits-below, fits-key, grouped-deep}
use Rattle.graphql_spec.specs.GroupLaws.{for_picked}
use Rattle.graphql_spec.specs.GroupWalks.{key_value, failures_at, nulls_at, NoKeyWalked, OneMoreKey, AllKeysWalked}
use Rattle.graphql_spec.proofs.Running.{put-new, distinct-new}

lost-append : (xs ys : List Name) (t : Name → TypeRef) (f : Name → Value) → is_lost (xs ++ ys) t f ≡ (is_lost xs t f || is_lost ys t f)
unfolding is_lost
lost-append [] ys t f = refl
lost-append (x ∷ xs) ys t f = ap (λ z. (required (t x) && is_null (f x)) || z) (lost-append xs ys t f)
    ∙ or-assoc (required (t x) && is_null (f x)) (is_lost xs t f) (is_lost ys t f)
  where
    or-assoc : (a b c : Bool) → (a || (b || c)) ≡ ((a || b) || c)
    or-assoc true b c = refl
    or-assoc false b c = refl

or-false : (b : Bool) → (b || false) ≡ b
or-false true = refl
or-false false = refl

or-true : (b : Bool) → (b || true) ≡ true
or-true true = refl
or-true false = refl

both-swap : (a b : Bool) → (a && b) ≡ (b && a)
both-swap true true = refl
both-swap true false = refl
both-swap false true = refl
both-swap false false = refl

-- an object that is there
object-from : (ks : List Name) (t : Name → TypeRef) (f : Name → Value) (es : Entries) → object es ≡ whole_object ks t f → (is_lost ks t f ≡ false) ×
    (es ≡ entries ks f)
unfolding whole_object
object-from ks t f es e = elim (cases_Bool (is_lost ks t f)) [
  | inl q ↦ let z : object es ≡ null = rw q at e in cc
  | inr q ↦ let z : object es ≡ object (entries ks f) = rw q at e in (q, same es (entries ks f) z)
]
  where
    same : (a b : Entries) → object a ≡ object b → a ≡ b
    same a b z = cc

null-from-lost : (ks : List Name) (t : Name → TypeRef) (f : Name → Value) → null ≡ whole_object ks t f → is_lost ks t f ≡ true
unfolding whole_object
null-from-lost ks t f e = elim (cases_Bool (is_lost ks t f)) [
  | inl q ↦ q
  | inr q ↦ let z : null ≡ object (entries ks f) = rw q at e in cc
]

whole-lost : (ks : List Name) (t : Name → TypeRef) (f : Name → Value) → is_lost ks t f ≡ true → whole_object ks t f ≡ null
unfolding whole_object
whole-lost ks t f e = rw e refl

whole-kept : (ks : List Name) (t : Name → TypeRef) (f : Name → Value) → is_lost ks t f ≡ false → whole_object ks t f ≡ object (entries ks f)
unfolding whole_object
whole-kept ks t f e = rw e refl

flat-one : {A : Type 0} (F : Name → List A) (k : Name) → flat_map F (k ∷ []) ≡ F k
flat-one F k = append-nil (F k)

flat-more : {A : Type 0} (F : Name → List A) (front : List Name) (k : Name) → flat_map F (front ++ k ∷ []) ≡ flat_map F front ++ F k
flat-more F front k = flat_map-append F front (k ∷ []) ∙ ap (λ z. flat_map F front ++ z) (flat-one F k)

pub flat-rest : {A : Type 0} (F : Name → List A) (front rest : List Name) (k : Name) →
    flat_map F (front ++ k ∷ rest) ≡ (flat_map F front ++ F k) ++ flat_map F rest
flat-rest F front rest k = flat_map-append F front (k ∷ rest) ∙ sym (append_assoc (flat_map F front) (F k) (flat_map F rest))

map-flat : (f : Failure → Failure) (F : Name → List Failure) (ks : List Name) → map f (flat_map F ks) ≡ flat_map (λ k. map f (F k)) ks
map-flat f F [] = refl
map-flat f F (k ∷ ks) = map-append f (F k) (flat_map F ks) ∙ ap (λ z. map f (F k) ++ z) (map-flat f F ks)

module _ {N : Type 0} (W : World N) (here above : Place) (T : Name) (m : N) (os : List Occurrence) (tell : Place → Place)
    (pick : List Position → List Position) where
  abbrev t-of : Name → TypeRef
  t-of k = type_of W T (with_key k os)

  pub no-key-walked : NoKeyWalked W here above T m os tell pick
  unfolding whole_object is_lost entries is_null
  no-key-walked = record { value = refl; errors = met-none tell above }

  -- what was listed before, and of one key
  both-met : (a b : Bool) (errors more : List Listed) (front : List Name) (k : Name) →
      Met tell a errors (flat_map (failures_at W here above T m os pick) front) above (flat_map (nulls_at W here above T m os) front) →
      Met tell b more (failures_at W here above T m os pick k) above (nulls_at W here above T m os k) →
      Met tell (a || b) (errors ++ more) (flat_map (failures_at W here above T m os pick) front ++ failures_at W here above T m os pick k) above
      (flat_map (nulls_at W here above T m os) front ++ nulls_at W here above T m os k)
  unfolding tally
  both-met a b errors more front k x y = met-join tell a b errors more _ (flat_map (failures_at W here above T m os pick) front)
      (failures_at W here above T m os pick k) above _ (flat_map (nulls_at W here above T m os) front) (nulls_at W here above T m os k) x y
      (λ p. tally-append p (flat_map (failures_at W here above T m os pick) front) (failures_at W here above T m os pick k))
      (λ p i. in_append p (flat_map (nulls_at W here above T m os) front) (nulls_at W here above T m os k) i)

  more-met : (a b c : Bool) (errors more : List Listed) (front : List Name) (k : Name) → (a || b) ≡ c →
      Met tell a errors (flat_map (failures_at W here above T m os pick) front) above (flat_map (nulls_at W here above T m os) front) →
      Met tell b more (failures_at W here above T m os pick k) above (nulls_at W here above T m os k) →
      Met tell c (errors ++ more) (flat_map (failures_at W here above T m os pick) (front ++ k ∷ [])) above
      (flat_map (nulls_at W here above T m os) (front ++ k ∷ []))
  more-met a b c errors more front k q x y = subst (λ z. Met tell z (errors ++ more)
      (flat_map (failures_at W here above T m os pick) (front ++ k ∷ [])) above (flat_map (nulls_at W here above T m os) (front ++ k ∷ []))) q
      (subst (λ z. Met tell (a || b) (errors ++ more) z above (flat_map (nulls_at W here above T m os) (front ++ k ∷ [])))
      (sym (flat-more (failures_at W here above T m os pick) front k))
      (subst (λ z. Met tell (a || b) (errors ++ more) (flat_map (failures_at W here above T m os pick) front ++ failures_at W here above T m os pick
      k) above z) (sym (flat-more (nulls_at W here above T m os) front k)) (both-met a b errors more front k x y)))

  stop-met : (errors more : List Listed) (front rest : List Name) (k : Name) → Met tell false errors
      (flat_map (failures_at W here above T m os pick) front) above (flat_map (nulls_at W here above T m os) front) →
      Met tell true more (failures_at W here above T m os pick k) above (nulls_at W here above T m os k) →
      Met tell true (errors ++ more) (flat_map (failures_at W here above T m os pick) (front ++ k ∷ rest)) above
      (flat_map (nulls_at W here above T m os) (front ++ k ∷ rest))
  unfolding tally
  stop-met errors more front rest k x y = let F = failures_at W here above T m os pick in
      met-stop tell (errors ++ more) (flat_map F (front ++ k ∷ rest)) (flat_map F front ++ F k) (flat_map F rest) above
      (flat_map (nulls_at W here above T m os) (front ++ k ∷ rest)) (flat_map (nulls_at W here above T m os) front ++ nulls_at W here above T m os k)
      (both-met false true errors more front k x y) (λ p. ap (tally p) (flat-rest F front rest k) ∙ tally-append p (flat_map F front ++ F k)
      (flat_map F rest))

  lost-at : (k : Name) (v : Value) (b : Bool) → v ≡ key_value W here above T m os k → (is_null v && required (t-of k)) ≡ b →
      (required (t-of k) && is_null (key_value W here above T m os k)) ≡ b
  lost-at k v b e q = both-swap (required (t-of k)) (is_null (key_value W here above T m os k)) ∙ (ap (λ z. is_null z && required (t-of k)) (sym e) ∙ q)

  lost-with : (front rest : List Name) (k : Name) → (required (t-of k) && is_null (key_value W here above T m os k)) ≡ true →
      is_lost (front ++ k ∷ rest) t-of (key_value W here above T m os) ≡ true
  unfolding is_lost
  lost-with front rest k q = lost-append front (k ∷ rest) t-of (key_value W here above T m os)
      ∙ rw q (or-true (is_lost front t-of (key_value W here above T m os)))

  kept-with : (front : List Name) (k : Name) → is_lost front t-of (key_value W here above T m os) ≡ false →
      (required (t-of k) && is_null (key_value W here above T m os k)) ≡ false → is_lost (front ++ k ∷ []) t-of (key_value W here above T m os) ≡ false
  unfolding is_lost
  kept-with front k p q = lost-append front (k ∷ []) t-of (key_value W here above T m os) ∙ rw (p, q) refl

  kept-entries : (front : List Name) (k : Name) (v : Value) → known k front ≡ false → v ≡ key_value W here above T m os k →
      put k v (entries front (key_value W here above T m os)) ≡ entries (front ++ k ∷ []) (key_value W here above T m os)
  unfolding entries
  kept-entries front k v new e = put-new k v (entries front (key_value W here above T m os)) (has_entry-known k front (key_value W here above T m os) ∙ new)
      ∙ (ap (λ z. append (entries front (key_value W here above T m os)) (entry k z no_entries)) e
      ∙ append-entries front (k ∷ []) (key_value W here above T m os))

  pub one-more-key : OneMoreKey W here above T m os tell pick
  unfolding key_value failures_at nulls_at is_null
  one-more-key front rest k same v more d errors =
      let new = distinct-new front rest k (subst Distinct same (distinct-keys os)) in
      let f : Name → Value = key_value W here above T m os in (
        λ es w q. let o = object-from front t-of f es w.value in let l = lost-at k v false d.value q in record {
          value = ap object (ap (put k v) o.1 ∙ kept-entries front k v new d.value) ∙ sym (whole-kept (front ++ k ∷ []) t-of f (kept-with front k o.0 l));
          errors = more-met false (is_null v && required (t-of k)) false errors more front k q w.errors d.errors;
        },
        λ es w q. record {
          value = sym (whole-lost (front ++ k ∷ rest) t-of f (lost-with front rest k (lost-at k v true d.value q)));
          errors = stop-met errors more front rest k w.errors (rw q at d.errors);
        },
        λ es w q. record {
          value = sym (whole-lost (front ++ k ∷ []) t-of f (lost-with front [] k (lost-at k v true d.value q)));
          errors = more-met false (is_null v && required (t-of k)) true errors more front k q w.errors d.errors;
        },
        λ w. record {
          value = sym (whole-lost (front ++ k ∷ []) t-of f (lost-append front (k ∷ []) t-of f ∙ ap (λ z. z || is_lost (k ∷ []) t-of f)
              (null-from-lost front t-of f w.value)));
          errors = more-met true (is_null v && required (t-of k)) true errors more front k refl w.errors d.errors;
        },
      )

module _ {N : Type 0} (W : World N) where
  fits-more : (d : ℕ) (os : List Occurrence) → Fits d os → Fits (suc d) os
  fits-more d os f o i = let r = f o i in omega (arith, r)

  deep-nulls : (d : ℕ) (here above : Place) (xs : List Occurrence) → Fits (suc d) xs → (T : Name) (m : N) →
      key_standing W (grouped W d) (nulls W d) here T m xs ≡ reply_standing W (λ U n. data_of W U n (all_below xs))
      (λ place U n. nulls_of W place U n (all_below xs)) here (type_of W T xs) (reply_of W T m xs)
  unfolding key_standing data_of nulls_of
  deep-nulls d here above xs f T m =
      ap (λ (X : Name → N → Value). reply_standing W X (λ place U n. nulls W d place U n (occurrences W.possible U (all_below xs))) here (type_of W T xs)
      (reply_of W T m xs))
      (λ i U n. grouped-deep W d (depth (all_below xs)) U n (occurrences W.possible U (all_below xs)) (fits-below d W.possible U xs f)
      (fits-occurrences W.possible U (all_below xs)) i)
      ∙ ap (λ (X : Place → Name → N → List Place). reply_standing W (λ U n. grouped W (depth (all_below xs)) U n
      (occurrences W.possible U (all_below xs))) X here (type_of W T xs) (reply_of W T m xs))
      (λ i place U n. nulls-deep W d (depth (all_below xs)) place U n (occurrences W.possible U (all_below xs)) (fits-below d W.possible U xs f)
      (fits-occurrences W.possible U (all_below xs)) i)

  pub nulls-are-grouped : (here above : Place) (T : Name) (m : N) (s : Forest) → nulls_of W here T m s ≡ flat_map
      (nulls_at W here above T m (occurrences W.possible T s)) (keys (occurrences W.possible T s))
  unfolding nulls_of nulls_at
  nulls-are-grouped here above T m s =
      let os : List Occurrence = occurrences W.possible T s in
      let f : Fits (depth s) os = fits-occurrences W.possible T s in
      nulls-deep W (depth s) (suc (depth s)) here T m os f (fits-more (depth s) os f)
      ∙ (nulls-suc W (depth s) here T m os
      ∙ ap (λ (F : Name → List Place). flat_map F (keys os)) (λ i k. deep-nulls (depth s) (here ++ key k ∷ []) above (with_key k os)
      (fits-key (suc (depth s)) k os (fits-more (depth s) os f)) T m i))

  pub all-keys-walked : AllKeysWalked W
  unfolding key_value failures_at
  all-keys-walked tell pick here above T m s v es w = (
    w.value ∙ sym (data_is_grouped W T m s),
    subst (λ z. Met tell (is_null v) es z above (nulls_of W here T m s)) (sym (ap (map (for_picked pick)) (failures_are_grouped W here above T m s) ∙
        map-flat (for_picked pick) _ (keys (occurrences W.possible T s))))
        (subst (λ z. Met tell (is_null v) es (flat_map (failures_at W here above T m (occurrences W.possible T s) pick)
        (keys (occurrences W.possible T s))) above z) (sym (nulls-are-grouped here above T m s)) w.errors),
  )
