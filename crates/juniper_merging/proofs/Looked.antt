-- Loops over the fields of a set, and what is answered of it.
use Rattle.std.specs.Prelude.{ℕ, Bool, true, false, not, List, [], ◌∷◌, ◌≡◌, ◌<◌, ◌≤◌, ◌+◌, Some, None, length, get_or, take}
use Rattle.std.proofs.lemmas.List.{get_or_default, take_all}
use Rattle.std.proofs.Common.{refl, sym, ap, ◌∙◌, inl, inr, subst}
use Rattle.graphql_spec.specs.Laws.{In}
use Rattle.graphql_spec.proofs.Grouping.{in_append}
use Rattle.juniper_merging.proofs.Passed.{one-more}
use Rattle.juniper_merging.specs.declared.nodes.Entry.{Entry}

pub none-some : {A B : Type 0} {x : A} → None ≡ Some x → B
none-some e = cc

-- ## Loops over the fields of a set

module _ {A : Type 0} (P : A → Type 0) (xs : List A) (k : ℕ) where
  pub none-before : (i : A) → In i (take 0 xs) → P i
  none-before i m = absurd m

  pub one-before : (x : A) → k < length xs → x ≡ get_or xs k x → ((i : A) → In i (take k xs) → P i) → P x → (i : A) → In i (take (k + 1) xs) → P i
  one-before x below is before own i m = elim (in_append i (take k xs) (x ∷ []) (subst (In i) (one-more xs k x below is) m)) [
    | inl n ↦ before i n
    | inr (inl e) ↦ subst P (sym e) own
    | inr (inr n) ↦ absurd n
  ]

  pub all-before : length xs ≤ k → ((i : A) → In i (take k xs) → P i) → (i : A) → In i xs → P i
  all-before done before i m = before i (subst (In i) (sym (take_all k xs done)) m)

-- ## Answers

pub not-turned : (p b a : Bool) → b ≡ not p → not b ≡ a → p ≡ a
not-turned p b a e f = twice p ∙ (ap not (sym e) ∙ f)
  where
    twice : (p : Bool) → p ≡ not (not p)
    twice true = refl
    twice false = refl

-- ## Entries that are read

abbrev pub no-entry : Entry
no-entry = record { field = 0; child = None; is_many = false }

-- what is read of entries does not hang on what stands in for those that are missing
pub read-entry : (es : List Entry) (i : ℕ) → i < length es → get_or es i no-entry ≡ get_or es i (get_or es i no-entry)
read-entry es i l = get_or_default es i no-entry (get_or es i no-entry) l

pub some-none : {A B : Type 0} {x : A} → Some x ≡ None → B
some-none e = cc
