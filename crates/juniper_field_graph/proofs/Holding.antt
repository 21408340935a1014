-- The numbers that a map has at a name.
use Rattle.std.specs.Prelude.{ℕ, cond, List, [], Option, Some, None, Vec, option_map, ◌≡◌}
use Rattle.std.specs.Borrow.{Bor}
use Rattle.std.specs.Map.{lookup}
use Rattle.std.specs.BTreeMap.{BTreeMap, get_by, is_at}
use Rattle.std.specs.BTreeMap as tree
use Rattle.std.specs.Cmp.Lexicographic.{slice_cmp}
use Rattle.std.specs.Ordering.{nat_cmp}
use Rattle.std.specs.Str.{bytes_eq}
use Rattle.std.specs.declared.alloc.Global.{Global}
use Rattle.std.proofs.lemmas.Bool.{cases_Bool}
use Rattle.std.proofs.lemmas.Map.Text.{btree_map_updates_str}
use Rattle.std.proofs.Common.{refl, sym, ap, ◌∙◌, inl, inr}
use Rattle.graphql_spec.specs.Shown.{Name}
use Rattle.juniper_field_graph.specs.Gathering.{list_named, set_named}

module _ (m : BTreeMap (Bor (List ℕ)) ℕ) (k : Name) where
  pub set-none : None ≡ get_by (λ n. slice_cmp nat_cmp k n.now) m → set_named m k ≡ None
  unfolding set_named
  set-none e = sym e

  pub set-some : (b : ℕ) → Some b ≡ get_by (λ n. slice_cmp nat_cmp k n.now) m → set_named m k ≡ Some b
  unfolding set_named
  set-some b e = sym e

pub set-put : (m n : BTreeMap (Bor (List ℕ)) ℕ) (key : Name) (w : Option ℕ) →
    tree.UpdatesBy (λ x y. slice_cmp nat_cmp x.now y.now) (λ k. slice_cmp nat_cmp key k.now) m n w →
    (k : Name) → set_named n k ≡ cond (bytes_eq key k) w (set_named m k)
unfolding set_named
set-put m n key w u k = btree_map_updates_str key m n w u k ∙ elim (cases_Bool (bytes_eq key k)) [ inl q ↦ rw q refl | inr q ↦ rw q refl ]

-- an empty map has none
pub empty-sets : (m : BTreeMap (Bor (List ℕ)) ℕ) → m.entries ≡ [] → (k : Name) → set_named m k ≡ None
unfolding set_named
empty-sets m none k = ap (λ es. lookup (λ (n : Bor (List ℕ)). is_at (slice_cmp nat_cmp k) n.now) es) none

-- the same, of lists
module _ (m : BTreeMap (Bor (List ℕ)) (Vec ℕ Global)) (k : Name) where
  pub list-some : (v : Bor (Vec ℕ Global)) → Some v.now ≡ get_by (λ n. slice_cmp nat_cmp k n.now) m → list_named m k ≡ Some v.now.items
  unfolding list_named
  list-some v e = ap (option_map (λ w. w.items)) (sym e)

pub list-put : (m n : BTreeMap (Bor (List ℕ)) (Vec ℕ Global)) (key : Name) (v : Vec ℕ Global) →
    tree.UpdatesBy (λ x y. slice_cmp nat_cmp x.now y.now) (λ k. slice_cmp nat_cmp key k.now) m n (Some v) →
    (k : Name) → list_named n k ≡ cond (bytes_eq key k) (Some v.items) (list_named m k)
unfolding list_named
list-put m n key v u k = ap (option_map (λ w. w.items)) (btree_map_updates_str key m n (Some v) u k)
    ∙ elim (cases_Bool (bytes_eq key k)) [ inl q ↦ rw q refl | inr q ↦ rw q refl ]

pub empty-lists : (m : BTreeMap (Bor (List ℕ)) (Vec ℕ Global)) → m.entries ≡ [] → (k : Name) → list_named m k ≡ None
unfolding list_named
empty-lists m none k = ap (λ es. option_map (λ w. w.items) (lookup (λ (n : Bor (List ℕ)). is_at (slice_cmp nat_cmp k) n.now) es)) none
