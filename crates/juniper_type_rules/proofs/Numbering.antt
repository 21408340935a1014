-- Numbers for names, one place after the other.
use Rattle.std.proofs.Common.{◌≡◌, ℕ, ◌+◌, ◌<◌, ◌≤◌, ◌⊎◌, Bool, true, false, cond, List, [], ◌∷◌, ◌++◌, length, get_or, take, Option, Some, None}
use Rattle.std.proofs.Common.{option_map, Vec, Bor, Global, refl, sym, ap, ◌∙◌, subst, inl, inr}
use Rattle.std.specs.Option.{option_copied, option_or}
use Rattle.std.specs.Str.{bytes_eq}
use Rattle.std.proofs.lemmas.List.{take_all, take_more}
use Rattle.graphql_spec.specs.Shown.{Name}
use Rattle.graphql_spec.specs.Documents.{Fragment}
use Rattle.graphql_spec.specs.Fragments.{fragment_of, spreads, spreads_in}
use Rattle.graphql_spec.specs.Laws.{In}
use Rattle.graphql_spec.proofs.Grouping.{in_append}
use Rattle.graphql_spec.proofs.Lists.{same_refl, same_true}
use Rattle.juniper_written.specs.SpreadsView.{AreSpreadsOf, spread_by, spreads_at}
use Rattle.juniper_written.specs.WrittenView.{named, view_names}
use Rattle.juniper_written.specs.declared.name_map.NameMap.{NameMap}
use Rattle.juniper_type_rules.specs.Numbers.{AreNumbers}

-- the names before a place have numbers, and each number is the place of its name
pub record AreNumbered (m : NameMap ℕ) (ks : List Name) (n : ℕ) : Type 0 where
  pub place : (k : Name) (i : ℕ) → named m k ≡ Some i → (i < length ks) × (get_or ks i [] ≡ k)
  pub all : (k : Name) → In k (take n ks) → (i : ℕ) × (named m k ≡ Some i)

pub none-numbered : (m : NameMap ℕ) (ks : List Name) → ((k : Name) → named m k ≡ None) → AreNumbered m ks 0
none-numbered m ks none = record { place = λ k i is. let w = none k in cc; all = λ k e. absurd e }

pub all-numbered : (m : NameMap ℕ) (ks : List Name) (n : ℕ) → length ks ≤ n → AreNumbered m ks n → AreNumbers m ks
all-numbered m ks n past numbered = record {
  place = numbered.place;
  all = λ k e. numbered.all k (subst (λ l. In k l) (sym (take_all n ks past)) e);
}

module _ (old new : NameMap ℕ) (ks : List Name) (n : ℕ) (x : Name) (below : n < length ks) (is : get_or ks n [] ≡ x)
    (put : (k : Name) → named new k ≡ option_or (named old k) (cond (bytes_eq k x) (Some n) None)) where
  found : (k : Name) (i : ℕ) (o : Option ℕ) (b : Bool) → b ≡ bytes_eq k x → option_or o (cond b (Some n) None) ≡ Some i →
      (o ≡ Some i) ⊎ ((k ≡ x) × (i ≡ n))
  found k i (Some j) b e is = inl is
  found k i None true e is = inr (same_true k x (sym e), cc)
  found k i None false e is = absurd (let w = is in cc)

  stays : (i : ℕ) (o : Option ℕ) (p : Option ℕ) → o ≡ Some i → option_or o p ≡ Some i
  stays i None p e = absurd (let w = e in cc)
  stays i (Some j) p e = e

  some : (o : Option ℕ) → (i : ℕ) × (option_or o (Some n) ≡ Some i)
  some None = (n, refl)
  some (Some j) = (j, refl)

  pub next-numbered : AreNumbered old ks n → AreNumbered new ks (n + 1)
  next-numbered numbered = record {
    place = λ k i at. elim (found k i (named old k) (bytes_eq k x) refl (sym (put k) ∙ at)) [
      | inl q ↦ numbered.place k i q
      | inr q ↦ (subst (λ j. j < length ks) (sym q.1) below, ap (λ j. get_or ks j []) q.1 ∙ (is ∙ sym q.0))
    ];
    all = λ k e. elim (in_append k (take n ks) (x ∷ []) (subst (λ l. In k l) (take_more ks n [] below ∙ ap (λ y. take n ks ++ y ∷ []) is) e)) [
      | inl r ↦ let w = numbered.all k r in (w.0, put k ∙ stays w.0 (named old k) _ w.1)
      | inr r ↦ elim r [
        | inl q ↦ let w = some (named old k) in
            (w.0, put k ∙ (ap (λ b. option_or (named old k) (cond b (Some n) None)) (subst (λ z. bytes_eq k z ≡ true) q (same_refl k)) ∙ w.1))
        | inr q ↦ absurd q
      ]
    ];
  }

-- ## What fragments spread

module _ (m : NameMap (Vec (Bor (List ℕ)) Global)) (fs : List Fragment) (are : AreSpreadsOf m fs) (k : Name) (o : Option (Bor (Vec (Bor (List ℕ)) Global)))
    (found : option_copied o ≡ named m k) where
  abbrev view : Vec (Bor (List ℕ)) Global → List Name
  view v = view_names v.items

  pub spread-is : (v : Bor (Vec (Bor (List ℕ)) Global)) → o ≡ Some v → view v.now ≡ spreads_in (fragment_of fs k)
  unfolding spread_by spreads_at spreads_in
  spread-is v is = some-spread (fragment_of fs k) (view v.now) (sym (are k) ∙ (ap (option_map view) (sym found ∙ ap option_copied is)))
    where
      some-spread : (f : Option Fragment) (ks : List Name) → option_map (λ f. spreads f.selections) f ≡ Some ks → ks ≡ spreads_in f
      some-spread None ks e = absurd (let w = e in cc)
      some-spread (Some f) ks e = let w = e in cc

  pub none-spread : o ≡ None → [] ≡ spreads_in (fragment_of fs k)
  unfolding spread_by spreads_at spreads_in
  none-spread is = no-spread (fragment_of fs k) (sym (are k) ∙ (ap (option_map view) (sym found ∙ ap option_copied is)))
    where
      no-spread : (f : Option Fragment) → option_map (λ f. spreads f.selections) f ≡ None → [] ≡ spreads_in f
      no-spread None e = refl
      no-spread (Some f) e = absurd (let w = e in cc)
