-- The fields of a response key are taken out of a map.
use Rattle.std.proofs.Common.{◌≡◌, ℕ, cond, List, [], None, Vec, refl, ap, ◌∙◌, inl, inr}
use Rattle.std.specs.Option.{option_map_or}
use Rattle.std.specs.Borrow.{Bor}
use Rattle.std.specs.BTreeMap.{BTreeMap}
use Rattle.std.specs.BTreeMap as tree
use Rattle.std.specs.Cmp.Lexicographic.{slice_cmp}
use Rattle.std.specs.Ordering.{nat_cmp}
use Rattle.std.specs.Str.{bytes_eq}
use Rattle.std.specs.declared.alloc.Global.{Global}
use Rattle.std.proofs.lemmas.Bool.{cases_Bool}
use Rattle.std.proofs.lemmas.Map.Text.{btree_map_updates_str}
use Rattle.graphql_spec.specs.Shown.{Name}
use Rattle.juniper_walk.specs.FieldWords.{fields_at as fields_in}

pub fields-taken : {O : Type 0} (m n : BTreeMap (Bor (List ℕ)) (Vec O Global)) (key : Name) →
    tree.UpdatesBy (λ x y. slice_cmp nat_cmp x.now y.now) (λ k. slice_cmp nat_cmp key k.now) m n None →
    (k : Name) → fields_in n k ≡ cond (bytes_eq key k) [] (fields_in m k)
fields-taken m n key u k =
    ap (λ o. option_map_or (λ g. g.items) o []) (btree_map_updates_str key m n None u k)
    ∙ elim (cases_Bool (bytes_eq key k)) [ inl q ↦ rw q refl | inr q ↦ rw q refl ]
