-- Maps to which the first of each name goes.
use Rattle.std.proofs.Common.{◌≡◌, ℕ, ◌+◌, ◌<◌, ◌≤◌, Bool, true, false, cond, List, [], ◌∷◌, length, get_or, drop, map, Option, Some, None, option_map, refl}
use Rattle.std.proofs.Common.{sym, ap, ◌∙◌}
use Rattle.std.specs.Option.{option_or}
use Rattle.std.specs.Str.{bytes_eq}
use Rattle.std.proofs.lemmas.List.{drop_all}
use Rattle.graphql_spec.specs.Shown.{Shown, Name}
use Rattle.graphql_spec.specs.Documents as spec
use Rattle.graphql_spec.specs.Documents.{operation, fragment, fragments}
use Rattle.graphql_spec.specs.Fragments.{fragment_of, spreads}
use Rattle.juniper_syntax.proofs.Lists.{seen-left-is}
use Rattle.graphql_spec.specs.Written.{selections_of}
use Rattle.juniper_written.specs.Parts.{Parts, parts_of}
use Rattle.juniper_written.specs.WrittenView.{view_names, view_written}
use Rattle.juniper_written.specs.declared.written.Written.{Written}
use Rattle.juniper_written.specs.SpreadsView.{spreads_at}

or-none : {A : Type 0} (o : Option A) → o ≡ option_or o None
or-none None = refl
or-none (Some x) = refl

or-moves : {A : Type 0} (o p q : Option A) → option_or (option_or o p) q ≡ option_or o (option_or p q)
or-moves None p q = refl
or-moves (Some x) p q = refl

map-cond : {A B : Type 0} (f : A → B) (b : Bool) (x : A) → option_map f (cond b (Some x) None) ≡ cond b (Some (f x)) None
map-cond f true x = refl
map-cond f false x = refl

-- ## One definition before the others

cond-or : {A : Type 0} (b : Bool) (x : A) (o : Option A) → cond b (Some x) o ≡ option_or (cond b (Some x) None) o
cond-or true x o = refl
cond-or false x o = refl

map-or : {A B : Type 0} (f : A → B) (o p : Option A) → option_map f (option_or o p) ≡ option_or (option_map f o) (option_map f p)
map-or f None p = refl
map-or f (Some x) p = refl

pub fragment-splits : (x : spec.Definition) (xs : List spec.Definition) (k : Name) →
    fragment_of (fragments (x ∷ xs)) k ≡ option_or (fragment_of (fragments (x ∷ [])) k) (fragment_of (fragments xs) k)
unfolding fragments fragment_of
fragment-splits (operation o) xs k = refl
fragment-splits (fragment f) xs k = cond-or (bytes_eq k f.name.item) f (fragment_of (fragments xs) k)

pub spreads-split : (x : spec.Definition) (xs : List spec.Definition) (k : Name) →
    spreads_at (fragments (x ∷ xs)) k ≡ option_or (spreads_at (fragments (x ∷ [])) k) (spreads_at (fragments xs) k)
unfolding spreads_at
spreads-split x xs k = ap (option_map (λ f. spreads f.selections)) (fragment-splits x xs k)
    ∙ map-or (λ f. spreads f.selections) (fragment_of (fragments (x ∷ [])) k) (fragment_of (fragments xs) k)

pub fragment-none : (k : Name) → fragment_of (fragments []) k ≡ None
unfolding fragments fragment_of
fragment-none k = refl

pub spreads-none : (k : Name) → spreads_at (fragments []) k ≡ None
unfolding fragments fragment_of spreads_at
spreads-none k = refl

-- ## A loop over definitions

module _ {A D : Type 0} (F : List spec.Definition → Name → Option A)
    (splits : (x : spec.Definition) (xs : List spec.Definition) (k : Name) → F (x ∷ xs) k ≡ option_or (F (x ∷ []) k) (F xs k))
    (none : (k : Name) → F [] k ≡ None)
    (view : D → spec.Definition) (ds : List D) where
  pub first-init : (has : Name → Option A) → ((k : Name) → has k ≡ None) → (k : Name) → option_or (has k) (F (map view ds) k) ≡ F (map view ds) k
  first-init has empty k = ap (λ o. option_or o (F (map view ds) k)) (empty k)

  pub first-next : (has now : Name → Option A) (i : ℕ) (x : D) → i < length ds → x ≡ get_or ds i x →
      ((k : Name) → option_or (has k) (F (map view (drop i ds)) k) ≡ F (map view ds) k) →
      ((k : Name) → now k ≡ option_or (has k) (F (view x ∷ []) k)) → (k : Name) → option_or (now k) (F (map view (drop (i + 1) ds)) k) ≡ F (map view ds) k
  first-next has now i x below is so_far one k =
      ap (λ o. option_or o (F (map view (drop (i + 1) ds)) k)) (one k)
      ∙ (or-moves (has k) (F (view x ∷ []) k) (F (map view (drop (i + 1) ds)) k)
      ∙ (ap (option_or (has k)) (sym (splits (view x) (map view (drop (i + 1) ds)) k) ∙ ap (λ l. F l k) (sym (seen-left-is view ds i x below is))) ∙ so_far k))

  pub first-all : (has : Name → Option A) (i : ℕ) → length ds ≤ i → ((k : Name) → option_or (has k) (F (map view (drop i ds)) k) ≡ F (map view ds) k) →
      (k : Name) → has k ≡ F (map view ds) k
  first-all has i past so_far k =
      or-none (has k) ∙ (ap (option_or (has k)) (sym (ap (λ l. F (map view l) k) (drop_all i ds past) ∙ none k)) ∙ so_far k)

-- ## One entry more

pub put-seen : {V W : Type 0} (view : V → W) (o : Option V) (b : Bool) (x : V) →
    option_map view (option_or o (cond b (Some x) None)) ≡ option_or (option_map view o) (cond b (Some (view x)) None)
put-seen view o b x = map-or view o (cond b (Some x) None) ∙ ap (option_or (option_map view o)) (map-cond view b x)

-- ## What a definition puts in

pub operation-none : (x : spec.Definition) (o : spec.Operation) → x ≡ operation o → (old : Option spec.Fragment) (k : Name) →
    old ≡ option_or old (fragment_of (fragments (x ∷ [])) k)
unfolding fragments fragment_of
operation-none x o is old k = or-none old ∙ ap (λ y. option_or old (fragment_of (fragments (y ∷ [])) k)) (sym is)

pub operation-no-spreads : (x : spec.Definition) (o : spec.Operation) → x ≡ operation o → (old : Option (List Name)) (k : Name) →
    old ≡ option_or old (spreads_at (fragments (x ∷ [])) k)
unfolding fragments fragment_of spreads_at
operation-no-spreads x o is old k = or-none old ∙ ap (λ y. option_or old (spreads_at (fragments (y ∷ [])) k)) (sym is)

pub fragment-one : (x : spec.Definition) (f : spec.Fragment) → x ≡ fragment f → (k : Name) →
    fragment_of (fragments (x ∷ [])) k ≡ cond (bytes_eq k f.name.item) (Some f) None
unfolding fragments fragment_of
fragment-one x f is k = ap (λ y. fragment_of (fragments (y ∷ [])) k) is

pub spreads-one : (x : spec.Definition) (f : spec.Fragment) → x ≡ fragment f → (k : Name) →
    spreads_at (fragments (x ∷ [])) k ≡ cond (bytes_eq k f.name.item) (Some (spreads f.selections)) None
unfolding spreads_at
spreads-one x f is k = ap (option_map (λ g. spreads g.selections)) (fragment-one x f is k) ∙ map-cond (λ g. spreads g.selections) (bytes_eq k f.name.item) f

-- what is written in a fragment has its spreads
pub written-spreads : {S : Type 0} (shown : S → Shown) (w : Written S) (x : spec.Definition) (f : spec.Fragment) → x ≡ fragment f →
    view_written shown w ≡ parts_of x → view_names w.spreads.items ≡ spreads f.selections
unfolding parts_of selections_of
written-spreads shown w x f is e = ap (λ (p : Parts). p.spreads) e ∙ ap (λ y. spreads (selections_of y)) is
