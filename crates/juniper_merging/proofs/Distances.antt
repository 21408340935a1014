-- Distances at their places, and what is known there.
use Rattle.std.specs.Prelude.{ℕ, true, false, cond, List, ◌≡◌, ◌<◌, Option, Some, None, Vec, length, nat_eq, slice_index_or, slice_set}
use Rattle.std.specs.List.{HoldsAt, slice_get}
use Rattle.std.specs.Ordering.{nat_cmp}
use Rattle.std.specs.declared.alloc.Global.{Global}
use Rattle.std.proofs.lemmas.Map.Lookups.{exact_unsigned}
use Rattle.std.proofs.Common.{Equal, inl, inr, refl, sym, ap, ◌∙◌}
use Rattle.std.proofs.lemmas.Bool.{cases_Bool}
use Rattle.juniper_merging.specs.Conflicts.{asked_at, clash_at, distance_at, distance_or_none, flat_option, found_in, row_or_none}
use Rattle.juniper_merging.specs.declared.asks.Asks.{Asks}
use Rattle.juniper_merging.specs.declared.clash.Clash.{Clash}
use Rattle.juniper_merging.proofs.Listing.{got-at, set-at}
use Rattle.juniper_merging.proofs.Numbers.{same-number}

module _ (a : Asks) (p : ℕ) where
  pub dense-at : a.is_dense ≡ true → distance_at a p ≡ Some p
  unfolding distance_at
  dense-at e = ap (λ b. cond b (Some p) (slice_get a.far.items p)) e

  pub listed-at : (f : ℕ) → a.is_dense ≡ false → slice_get a.far.items p ≡ Some f → distance_at a p ≡ Some f
  unfolding distance_at
  listed-at f e there = ap (λ b. cond b (Some p) (slice_get a.far.items p)) e ∙ there

-- what is listed and whether they stand dense says where distances stand
pub same-places : (a b : Asks) → a.far ≡ b.far → a.is_dense ≡ b.is_dense → (p : ℕ) → distance_at a p ≡ distance_at b p
unfolding distance_at
same-places a b far dense p = (λ i. cond (dense i) (Some p) (slice_get (far i).items p))

-- where the distances of one set are as they were, those of all are
pub asked-same : (asks : List Asks) (set : ℕ) (was now : Asks) → set < length asks → slice_get asks set ≡ Some was →
    ((p : ℕ) → distance_at now p ≡ distance_at was p) → (a p : ℕ) → asked_at (slice_set asks set now) a p ≡ asked_at asks a p
unfolding distance_or_none
asked-same asks set was now below there same a p = elim (cases_Bool (nat_eq set a)) [
  | inl q ↦ ap (λ o. distance_or_none o p) (at ∙ ap (λ b. cond b (Some now) (slice_get asks a)) q)
      ∙ (same p ∙ sym (ap (λ o. distance_or_none o p) (ap (slice_get asks) (sym (same-number set a q)) ∙ there)))
  | inr q ↦ ap (λ o. distance_or_none o p) (at ∙ ap (λ b. cond b (Some now) (slice_get asks a)) q)
]
  where
    at : slice_get (slice_set asks set now) a ≡ cond (nat_eq set a) (Some now) (slice_get asks a)
    at = set-at now asks set a below

-- where a search finds a distance
pub searched-at : (xs : List ℕ) (f p : ℕ) → p < length xs → HoldsAt (λ y. nat_cmp y f ≡ Equal) xs p → slice_get xs p ≡ Some f
searched-at xs f p below holds = got-at xs p (slice_index_or xs p f) f below refl ∙ ap Some (exact_unsigned (slice_index_or xs p f) f (holds f))

module _ (set p : ℕ) where
  pub asked-there : (asks : List Asks) (a : Asks) (f : ℕ) → slice_get asks set ≡ Some a → distance_at a p ≡ Some f → asked_at asks set p ≡ Some f
  unfolding distance_or_none
  asked-there asks a f there e = ap (λ o. distance_or_none o p) there ∙ e

  pub clash-there : (known : List (Vec (Option Clash) Global)) (row : Vec (Option Clash) Global) → slice_get known set ≡ Some row →
      clash_at known set p ≡ found_in row.items p
  unfolding row_or_none
  clash-there known row there = ap (λ o. found_in (row_or_none o) p) there

  pub no-clash-there : (known : List (Vec (Option Clash) Global)) → slice_get known set ≡ None → clash_at known set p ≡ None
  unfolding row_or_none flat_option
  no-clash-there known none = ap (λ o. found_in (row_or_none o) p) none

pub found-there : (row : List (Option Clash)) (p : ℕ) (o : Option Clash) → slice_get row p ≡ Some o → found_in row p ≡ o
unfolding flat_option
found-there row p o e = ap flat_option e

pub none-found : (row : List (Option Clash)) (p : ℕ) → slice_get row p ≡ None → found_in row p ≡ None
unfolding flat_option
none-found row p e = ap flat_option e
