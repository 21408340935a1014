-- Selections with every fragment put in: where each written set is right, so is the whole.
use Rattle.std.specs.Prelude.{ℕ, true, false, List, [], ◌∷◌, ◌≡◌, zero, suc, length, cond, Option, None, Some, IsTrue}
use Rattle.std.specs.Option.{is_some}
use Rattle.std.proofs.lemmas.Bool.{both_ways}
use Rattle.std.proofs.Common.{refl, sym, ap, ◌∙◌, inl, inr, subst}
use Rattle.graphql_spec.specs.Shown.{Name}
use Rattle.graphql_spec.specs.Types.{innermost}
use Rattle.graphql_spec.specs.Documents.{Word, Directive, Head, Spread, Inline, Selections, Fragment, written, name_or}
use Rattle.graphql_spec.specs.Directives.{admits}
use Rattle.graphql_spec.specs.Selections.{Forest, end, field, under, depth}
use Rattle.graphql_spec.specs.Fragments.{fragment_of, put_under, filled, expand, asked, spreads, deep_in, deep, HasNoCycle}
use Rattle.graphql_spec.specs.Schema.{Schema}
use Rattle.graphql_spec.specs.Fields.{field_of, declared_type}
use Rattle.graphql_spec.specs.Written.{arguments_repeat}
use Rattle.graphql_spec.specs.Overlap.{condition_or, fields, declares_field}
use Rattle.graphql_spec.specs.Merging.{each_pair, merge, set_merges}
use Rattle.graphql_spec.specs.Laws.{In}
use Rattle.graphql_spec.proofs.Grouping.{in_first, in_second}
use Rattle.graphql_spec.proofs.Fragments.{any-at, expand-end, expand-field, expand-inline, expand-spread}

-- ## What holds of expanded selections

-- the type that stands below a field of the type p
abbrev pub type_below : Schema → Name → Name → Name
type_below s p f = innermost (declared_type (field_of s p f))

module _ (s : Schema) where
  -- the field is one of the type p, has no argument twice, and what it selects merges
  pub record IsRight (p : Name) (h : Head) (below : Forest) : Type 0 where
    pub declared : IsTrue (declares_field s p h.name.item)
    pub once : arguments_repeat (written h.arguments) ≡ false
    pub merges : each_pair (merge s (depth below)) (fields (type_below s p h.name.item) below) ≡ true

  -- so it is of each field of selections on the type p
  abbrev pub AreRight : Name → Forest → Type 0
  AreRight p end = Unit {0}
  AreRight p (field h below rest) = IsRight p h below × (AreRight (type_below s p h.name.item) below × AreRight p rest)
  AreRight p (under c below rest) = AreRight (condition_or p c) below × AreRight p rest

-- ## What the rules give of written selections

module _ (s : Schema) (fs : List Fragment) where
  -- the same, of what is written, with its fragments put in
  pub record IsWell (p : Name) (h : Head) (below : Selections) : Type 0 where
    pub declared : IsTrue (declares_field s p h.name.item)
    pub once : arguments_repeat (written h.arguments) ≡ false
    pub merges : set_merges s fs (type_below s p h.name.item) below ≡ true

  -- so it is of each field that is written, and each set merges; what fragments hold is their own
  abbrev pub AreWell : Name → Selections → Type 0
  AreWell p Selections.end = Unit {0}
  AreWell p (Selections.field h below rest) = IsWell p h below × (AreWell (type_below s p h.name.item) below × AreWell p rest)
  AreWell p (Selections.spread x rest) = AreWell p rest
  AreWell p (Selections.inline x below rest) = (set_merges s fs (name_or x.condition p) below ≡ true) × (AreWell (name_or x.condition p) below × AreWell p rest)

  -- so it is of each fragment that a name finds
  abbrev pub FragmentsAreWell : Type 0
  FragmentsAreWell = (k : Name) (f : Fragment) → fragment_of fs k ≡ Some f → AreWell f.condition.item f.selections

-- ## Every directive passes

admits-all : (ds : List Directive) → admits (λ y. true) ds ≡ true
unfolding admits
admits-all [] = refl
admits-all (d ∷ ds) = admits-all ds

module _ (fs : List Fragment) where
  abbrev pub whole : Selections → Forest
  whole set = expand (λ y. true) fs set

  pub whole-field : (h : Head) (below rest : Selections) → whole (Selections.field h below rest) ≡ field h (whole below) (whole rest)
  whole-field h below rest =
      expand-field (λ y. true) fs h below rest ∙ ap (λ z. cond z (field h (whole below) (whole rest)) (whole rest)) (admits-all h.directives)

  pub whole-inline : (x : Inline) (below rest : Selections) → whole (Selections.inline x below rest) ≡ under (asked x.condition) (whole below) (whole rest)
  whole-inline x below rest =
      expand-inline (λ y. true) fs x below rest ∙ ap (λ z. cond z (under (asked x.condition) (whole below) (whole rest)) (whole rest)) (admits-all x.directives)

  pub whole-spread : HasNoCycle fs → (x : Spread) (rest : Selections) →
      whole (Selections.spread x rest) ≡ put_under (filled (expand (λ y. true) fs) (fragment_of fs x.name.item)) (whole rest)
  whole-spread c x rest = expand-spread (λ y. true) fs c x rest
      ∙ ap (λ z. cond z (put_under (filled (expand (λ y. true) fs) (fragment_of fs x.name.item)) (whole rest)) (whole rest)) (admits-all x.directives)

-- ## The whole is right

pub asked-is : (o : Option Word) (p : Name) → condition_or p (asked o) ≡ name_or o p
unfolding condition_or asked name_or
asked-is None p = refl
asked-is (Some w) p = refl

module _ (s : Schema) (fs : List Fragment) (c : HasNoCycle fs) where
  -- fragments whose chains of spreads are no longer than n are right, with all that they spread
  abbrev RightTo : ℕ → Type 0
  RightTo n = (k : Name) (f : Fragment) → fragment_of fs k ≡ Some f → deep fs n k ≡ false → AreRight s f.condition.item (whole fs f.selections)

  put-right : (p : Name) (o : Option Fragment) (rest : Forest) → ((f : Fragment) → o ≡ Some f → AreRight s f.condition.item (whole fs f.selections)) →
      AreRight s p rest →
      AreRight s p (put_under (filled (expand (λ y. true) fs) o) rest)
  unfolding put_under filled condition_or
  put-right p None rest r t = t
  put-right p (Some f) rest r t = (r f refl, t)

  set-right : (n : ℕ) → RightTo n → (p : Name) (set : Selections) → AreWell s fs p set → ((k : Name) → In k (spreads set) → deep fs n k ≡ false) →
      AreRight s p (whole fs set)
  unfolding spreads set_merges
  set-right n r p Selections.end w a = subst (AreRight s p) (sym (expand-end (λ y. true) fs)) tt
  set-right n r p (Selections.field h below rest) w a =
      let first = set-right n r (type_below s p h.name.item) below w.1.0 (λ k i. a k (in_first k (spreads below) (spreads rest) i)) in
      let second = set-right n r p rest w.1.1 (λ k i. a k (in_second k (spreads below) (spreads rest) i)) in
      subst (AreRight s p) (sym (whole-field fs h below rest)) (record { declared = w.0.declared; once = w.0.once; merges = w.0.merges }, (first, second))
  set-right n r p (Selections.spread x rest) w a =
      let second = set-right n r p rest w (λ k i. a k (inr i)) in
      subst (AreRight s p) (sym (whole-spread fs c x rest)) (put-right p (fragment_of fs x.name.item) (whole fs rest)
      (λ f e. r x.name.item f e (a x.name.item (inl refl))) second)
  set-right n r p (Selections.inline x below rest) w a =
      let first = set-right n r (name_or x.condition p) below w.1.0 (λ k i. a k (in_first k (spreads below) (spreads rest) i)) in
      let second = set-right n r p rest w.1.1 (λ k i. a k (in_second k (spreads below) (spreads rest) i)) in
      subst (AreRight s p) (sym (whole-inline fs x below rest)) (subst (λ z. AreRight s z (whole fs below)) (sym (asked-is x.condition p)) first, second)

  right_to : FragmentsAreWell s fs → (n : ℕ) → RightTo n
  unfolding deep deep_in
  right_to w zero k f e a = absurd (both_ways (is_some (fragment_of fs k)) a (ap is_some e))
  right_to w (suc n) k f e a = set-right n (right_to w n) f.condition.item f.selections (w k f e)
      (λ j i. any-at (deep fs n) (spreads f.selections) j (ap (deep_in (deep fs n)) (sym e) ∙ a) i)

  -- selections that are well are right, with every fragment put in
  pub whole_right : FragmentsAreWell s fs → (p : Name) (set : Selections) → AreWell s fs p set → AreRight s p (whole fs set)
  whole_right w p set a = set-right (length fs) (right_to w (length fs)) p set a (λ k i. c k)
