-- What selections expand to has no fields but those that are written.
use Rattle.std.specs.Prelude.{ℕ, zero, suc, Bool, List, Option, Some, None, ◌≡◌, cond, length}
use Rattle.std.proofs.lemmas.Bool.{cases_Bool}
use Rattle.std.proofs.Common.{refl, sym, inl, inr, subst}
use Rattle.graphql_spec.specs.Shown.{Name}
use Rattle.graphql_spec.specs.Types.{innermost}
use Rattle.graphql_spec.specs.Documents as documents
use Rattle.graphql_spec.specs.Documents.{Directive, Fragment, Selections, Word, name_or}
use Rattle.graphql_spec.specs.Directives.{admits}
use Rattle.graphql_spec.specs.Selections.{Forest, end, field, under}
use Rattle.graphql_spec.specs.Fragments.{Contents, asked, contents, expand, filled, fragment_of, plain, put_under}
use Rattle.graphql_spec.specs.Schema.{Schema}
use Rattle.graphql_spec.specs.Fields.{field_of, declared_type}
use Rattle.graphql_spec.specs.Placed.{Placed}
use Rattle.graphql_spec.specs.Overlap.{Field, condition_or, fields}
use Rattle.graphql_spec.specs.Laws.{In}
use Rattle.graphql_spec.specs.Merging.{type_at}
use Rattle.graphql_spec.proofs.Grouping.{in_append, in_first, in_second}
use Rattle.juniper_field_graph.specs.PlainKeys.{placed_on, written_on}

module _ (s : Schema) (all : List Placed) where
  -- the fields of selections are among those
  abbrev pub AreWritten : Name → Selections → Type 0
  AreWritten p set = (x : Placed) → In x (written_on s p set) → In x all

  -- each field of what selections expand to is among those
  abbrev pub AreThere : Name → Forest → Type 0
  AreThere p end = zero ≡ zero
  AreThere p (field h below rest) =
      In (placed_on s p h) all × AreThere (innermost (declared_type (field_of s p h.name.item))) below × AreThere p rest
  AreThere p (under c below rest) = AreThere (condition_or p c) below × AreThere p rest

  -- a field is among those, and so is each field below it
  pub record Stands (x : Field) : Type 0 where
    pub own : In (placed_on s x.parent x.occurrence.head) all
    pub below : AreThere (innermost (type_at s x)) x.occurrence.below

  pub each-stands : (p : Name) (t : Forest) → AreThere p t → (x : Field) → In x (fields p t) → Stands x
  unfolding fields type_at
  each-stands p end a x i = absurd i
  each-stands p (field h below rest) a x (inl e) = subst Stands (sym e) (record { own = a.0; below = a.1 })
  each-stands p (field h below rest) a x (inr i) = each-stands p rest a.2 x i
  each-stands p (under c below rest) a x i = elim (in_append x (fields (condition_or p c) below) (fields p rest) i) [
    | inl j ↦ each-stands (condition_or p c) below a.0 x j
    | inr j ↦ each-stands p rest a.1 x j
  ]

  -- what a name stands for is there
  abbrev HoldsThere : Option Contents → Type 0
  HoldsThere o = (c : Contents) → o ≡ Some c → AreThere c.condition c.selections

  put-there : (p : Name) (o : Option Contents) (rest : Forest) → HoldsThere o → AreThere p rest → AreThere p (put_under o rest)
  unfolding put_under condition_or
  put-there p None rest h a = a
  put-there p (Some c) rest h a = (h c refl, a)

  asked-inside : (p : Name) (c : Option Word) → condition_or p (asked c) ≡ name_or c p
  unfolding condition_or asked name_or
  asked-inside p None = refl
  asked-inside p (Some w) = refl

  module _ (test : Directive → Bool) (inside : Name → Option Contents) (held : (k : Name) → HoldsThere (inside k)) where
    pub plain-there : (p : Name) (set : Selections) → AreWritten p set → AreThere p (plain test inside set)
    unfolding plain written_on
    plain-there p documents.end w = refl
    plain-there p (documents.field h below rest) w =
        let q = innermost (declared_type (field_of s p h.name.item)) in
        let b = plain-there q below (λ x i. w x (inr (in_first x (written_on s q below) (written_on s p rest) i))) in
        let r = plain-there p rest (λ x i. w x (inr (in_second x (written_on s q below) (written_on s p rest) i))) in
        elim (cases_Bool (admits test h.directives)) [
          | inl e ↦ subst (λ a. AreThere p (cond a (field h (plain test inside below) (plain test inside rest)) (plain test inside rest))) (sym e)
              (w (placed_on s p h) (inl refl), b, r)
          | inr e ↦ subst (λ a. AreThere p (cond a (field h (plain test inside below) (plain test inside rest)) (plain test inside rest))) (sym e) r
        ]
    plain-there p (documents.spread x rest) w =
        let r = plain-there p rest w in
        elim (cases_Bool (admits test x.directives)) [
          | inl e ↦ subst (λ a. AreThere p (cond a (put_under (inside x.name.item) (plain test inside rest)) (plain test inside rest))) (sym e)
              (put-there p (inside x.name.item) (plain test inside rest) (held x.name.item) r)
          | inr e ↦ subst (λ a. AreThere p (cond a (put_under (inside x.name.item) (plain test inside rest)) (plain test inside rest))) (sym e) r
        ]
    plain-there p (documents.inline x below rest) w =
        let q = name_or x.condition p in
        let b = plain-there q below (λ y i. w y (in_first y (written_on s q below) (written_on s p rest) i)) in
        let r = plain-there p rest (λ y i. w y (in_second y (written_on s q below) (written_on s p rest) i)) in
        elim (cases_Bool (admits test x.directives)) [
          | inl e ↦ subst (λ a. AreThere p (cond a (under (asked x.condition) (plain test inside below) (plain test inside rest)) (plain test inside rest)))
              (sym e) (subst (λ z. AreThere z (plain test inside below)) (sym (asked-inside p x.condition)) b, r)
          | inr e ↦ subst (λ a. AreThere p (cond a (under (asked x.condition) (plain test inside below) (plain test inside rest)) (plain test inside rest)))
              (sym e) r
        ]

  module _ (fs : List Fragment) (held : (k : Name) (f : Fragment) → fragment_of fs k ≡ Some f → AreWritten f.condition.item f.selections)
      (test : Directive → Bool) where
    filled-there : (g : Selections → Forest) → ((p : Name) (set : Selections) → AreWritten p set → AreThere p (g set)) →
        (o : Option Fragment) → ((f : Fragment) → o ≡ Some f → AreWritten f.condition.item f.selections) → HoldsThere (filled g o)
    unfolding filled
    filled-there g there None inside c e = absurd (never e)
      where
        never : None ≡ Some c → ⊥
        never q = cc
    filled-there g there (Some f) inside c e =
        subst (λ z. AreThere z.condition z.selections) (same e) (there f.condition.item f.selections (inside f refl))
      where
        same : {a b : Contents} → Some a ≡ Some b → a ≡ b
        same r = cc

    contents-there : (n : ℕ) (k : Name) → HoldsThere (contents test fs n k)
    unfolding contents
    contents-there zero k c e = absurd (never e)
      where
        never : None ≡ Some c → ⊥
        never q = cc
    contents-there (suc n) k c e = filled-there (plain test (contents test fs n)) (plain-there test (contents test fs n) (contents-there n))
        (fragment_of fs k) (held k) c e

    pub expand-there : (p : Name) (set : Selections) → AreWritten p set → AreThere p (expand test fs set)
    unfolding expand
    expand-there p set w = plain-there test (contents test fs (length fs)) (contents-there (length fs)) p set w
