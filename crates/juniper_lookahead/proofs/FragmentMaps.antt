-- Maps of fragments by name: one definition after the other, from the last, so that the first of each name stays.
use Rattle.std.proofs.Common.{◌≡◌, ℕ, ◌+◌, ◌<◌, ◌≤◌, Bool, true, false, cond, List, [], ◌∷◌, length, get_or, drop, map, Option, Some, None, option_map}
use Rattle.std.proofs.Common.{Bor, refl, sym, ap, ◌∙◌, ◌-◌, arith}
use Rattle.std.specs.Option.{option_or}
use Rattle.std.specs.BTreeMap.{BTreeMap, get_by}
use Rattle.std.specs.Map.{lookup, update}
use Rattle.std.specs.Str.{bytes_eq}
use Rattle.std.specs.Ordering.{is_eq, nat_cmp}
use Rattle.std.specs.Cmp.Lexicographic.{slice_cmp}
use Rattle.std.proofs.lemmas.Map.Text.{is_eq-slice_cmp}
use Rattle.std.proofs.lemmas.Bool.{both_ways}
use Rattle.std.proofs.lemmas.Cmp.{nat_list_eq_equiv}
use Rattle.std.proofs.lemmas.List.{drop_all}
use Rattle.graphql_spec.specs.Shown.{Name}
use Rattle.graphql_spec.specs.Documents as spec
use Rattle.graphql_spec.specs.Documents.{operation, fragment, fragments}
use Rattle.std.specs.Bool.{Decides}
use Rattle.std.proofs.lemmas.Slice.Eq.{bytes_eq-Decides}
use Rattle.graphql_spec.specs.Fragments.{fragment_of}
use Rattle.juniper_lookahead.specs.FragmentView.{fragment_named, unplaced}
use Rattle.juniper_syntax.proofs.Lists.{seen-left-is}
use Rattle.juniper_lookahead.proofs.ByName.{cond-map}

decided : {P : Type 0} (r : Bool) → Decides r P → r ≡ true → P
decided true d e = d.0 refl
decided false d e = absurd (both_ways false refl e)

pub same : (k j : Name) → bytes_eq k j ≡ true → k ≡ j
same k j e = decided (bytes_eq k j) (bytes_eq-Decides k j) e

-- ## One definition before the others

cond-or : {A : Type 0} (b : Bool) (x : A) (o : Option A) → cond b (Some x) o ≡ option_or (cond b (Some x) None) o
cond-or true x o = refl
cond-or false x o = refl

map-or : {A B : Type 0} (f : A → B) (o p : Option A) → option_map f (option_or o p) ≡ option_or (option_map f o) (option_map f p)
map-or f None p = refl
map-or f (Some x) p = refl

first-splits : (x : spec.Definition) (xs : List spec.Definition) (k : Name) →
    fragment_of (fragments (x ∷ xs)) k ≡ option_or (fragment_of (fragments (x ∷ [])) k) (fragment_of (fragments xs) k)
unfolding fragments fragment_of
first-splits (operation o) xs k = refl
first-splits (fragment f) xs k = cond-or (bytes_eq k f.name.item) f (fragment_of (fragments xs) k)

pub fragment-splits : (x : spec.Definition) (xs : List spec.Definition) (k : Name) →
    fragment_named (fragments (x ∷ xs)) k ≡ option_or (fragment_named (fragments (x ∷ [])) k) (fragment_named (fragments xs) k)
unfolding fragment_named
fragment-splits x xs k = ap (option_map unplaced) (first-splits x xs k) ∙ map-or unplaced (fragment_of (fragments (x ∷ [])) k) (fragment_of (fragments xs) k)

pub fragment-none : (k : Name) → fragment_named (fragments []) k ≡ None
unfolding fragments fragment_of fragment_named
fragment-none k = refl

-- ## A loop over definitions, from the last to the first

module _ {D : Type 0} (view : D → spec.Definition) (ds : List D) where
  -- what is named among the definitions from the ith on
  abbrev named_from : ℕ → Name → Option spec.Fragment
  named_from i k = fragment_named (fragments (map view (drop i ds))) k

  pub none-put : (has : Name → Option spec.Fragment) → ((k : Name) → has k ≡ None) → (k : Name) → has k ≡ named_from (length ds - 0) k
  none-put has empty k =
      empty k ∙ sym (ap (λ l. fragment_named (fragments (map view l)) k) (drop_all (length ds - 0) ds (omega arith)) ∙ fragment-none k)

  pub one-more-put : (has now : Name → Option spec.Fragment) (i : ℕ) (x : D) → i < length ds → x ≡ get_or ds (length ds - 1 - i) x →
      ((k : Name) → has k ≡ named_from (length ds - i) k) → ((k : Name) → now k ≡ option_or (fragment_named (fragments (view x ∷ [])) k) (has k)) →
      (k : Name) → now k ≡ named_from (length ds - (i + 1)) k
  one-more-put has now i x below is so_far put k =
      let j : ℕ = length ds - (i + 1) in
      let one : length ds - 1 - i ≡ j = omega (arith, below) in
      let next : j + 1 ≡ length ds - i = omega (arith, below) in
      let all = seen-left-is view ds j x (omega (arith, below)) (is ∙ ap (λ m. get_or ds m x) one) in
      put k ∙ (ap (option_or (fragment_named (fragments (view x ∷ [])) k)) (so_far k ∙ ap (λ m. named_from m k) (sym next))
      ∙ (sym (fragment-splits (view x) (map view (drop (j + 1) ds)) k) ∙ sym (ap (λ l. fragment_named (fragments l) k) all)))

  pub all-put : (has : Name → Option spec.Fragment) (i : ℕ) → length ds ≤ i → ((k : Name) → has k ≡ named_from (length ds - i) k) →
      (k : Name) → has k ≡ fragment_named (fragments (map view ds)) k
  all-put has i past so_far k = let z : length ds - i ≡ 0 = omega arith in so_far k ∙ ap (λ m. named_from m k) z

-- ## One entry more

put-one : {V W : Type 0} (view : V → W) (name : Name) (x : V) (old new : Name → Option V) →
    ((k : Name) → new k ≡ update bytes_eq old name (Some x) k) →
    (k : Name) → option_map view (new k) ≡ option_or (cond (bytes_eq k name) (Some (view x)) None) (option_map view (old k))
put-one view name x old new put k =
    ap (option_map view) (put k)
    ∙ (cond-map view (bytes_eq name k) x (old k) ∙ cond-or (bytes_eq name k) (view x) (option_map view (old k))
    ∙ ap (λ b. option_or (cond b (Some (view x)) None) (option_map view (old k))) (nat_list_eq_equiv.symm name k))

-- ## Look-ups by the order of names

same-test : (n : Name) → ◌≡◌ {A = Bor (List ℕ) → Bool} (λ k. is_eq (slice_cmp nat_cmp n k.now)) (λ k. bytes_eq n k.now)
same-test n = λ i k. is_eq-slice_cmp n k.now i

-- a look-up by the order of names finds what one by their bytes finds
pub found-in-order : {V : Type 0} (n : Name) (es : List (Bor (List ℕ) × V)) →
    lookup (λ k. is_eq (slice_cmp nat_cmp n k.now)) es ≡ lookup (λ k. bytes_eq n k.now) es
found-in-order n es = ap (λ test. lookup test es) (same-test n)

pub put-in-order : {V : Type 0} (name : Name) (x : V) (old new : BTreeMap (Bor (List ℕ)) V) →
    ((cs : Name) → get_by (λ n. slice_cmp nat_cmp cs n.now) new ≡ update bytes_eq (λ ds. get_by (λ n. slice_cmp nat_cmp ds n.now) old) name (Some x) cs) →
    (k : Name) → lookup (λ n. bytes_eq k n.now) new.entries ≡ update bytes_eq (λ j. lookup (λ n. bytes_eq j n.now) old.entries) name (Some x) k
put-in-order name x old new put k =
    sym (found-in-order k new.entries) ∙ (put k ∙ ap (cond (bytes_eq name k) (Some x)) (found-in-order k old.entries))

-- ## What a definition puts in

pub operation-none : (x : spec.Definition) (o : spec.Operation) → x ≡ operation o → (old : Option spec.Fragment) (k : Name) →
    old ≡ option_or (fragment_named (fragments (x ∷ [])) k) old
unfolding fragments fragment_of fragment_named
operation-none x o is old k = ap (λ y. option_or (fragment_named (fragments (y ∷ [])) k) old) (sym is)

fragment-one : (x : spec.Definition) (f : spec.Fragment) → x ≡ fragment f → (k : Name) →
    fragment_named (fragments (x ∷ [])) k ≡ cond (bytes_eq k f.name.item) (Some (unplaced f)) None
unfolding fragments fragment_of fragment_named
fragment-one x f is k = ap (λ y. fragment_named (fragments (y ∷ [])) k) is ∙ cond-map unplaced (bytes_eq k f.name.item) f None

pub fragment-put : {V : Type 0} (view : V → spec.Fragment) (x : V) (d : spec.Definition) (f : spec.Fragment) → d ≡ fragment f → view x ≡ unplaced f →
    (old new : Name → Option V) → ((k : Name) → new k ≡ update bytes_eq old f.name.item (Some x) k) →
    (k : Name) → option_map view (new k) ≡ option_or (fragment_named (fragments (d ∷ [])) k) (option_map view (old k))
fragment-put view x d f kind same_fragment old new put k =
    put-one view f.name.item x old new put k
    ∙ ap (λ o. option_or o (option_map view (old k))) (ap (λ g. cond (bytes_eq k f.name.item) (Some g) None) same_fragment ∙ sym (fragment-one d f kind k))

-- nothing is in an empty map
pub empty-at : {V W : Type 0} (view : V → W) (es : List (Bor (List ℕ) × V)) → es ≡ [] → (k : Name) →
    option_map view (lookup (λ n. bytes_eq k n.now) es) ≡ None
empty-at view es none k = ap (λ l. option_map view (lookup (λ n. bytes_eq k n.now) l)) none
