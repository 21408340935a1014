-- Fields that were met, one of each response key; only private clauses cite what stands here.
use Rattle.std.specs.Prelude.{ℕ, true, List, Option, Some, ◌≡◌, option_map}
use Rattle.std.specs.BTreeMap.{BTreeMap, get}
use Rattle.std.specs.Ordering.{nat_cmp}
use Rattle.graphql_spec.specs.Shown.{Name, Shown}
use Rattle.graphql_spec.specs.Documents.{Selections, response_key}
use Rattle.graphql_spec.specs.Laws.{In}
use Rattle.graphql_spec.specs.Placed.{Placed}
use Rattle.graphql_spec.specs.Schema.{Schema}
use Rattle.juniper_syntax.specs.NameNumbers.{name_number}
use Rattle.juniper_syntax.specs.DocumentView.{view_field}
use Rattle.juniper_field_graph.specs.KindsView.{IsOnce}
use Rattle.juniper_field_graph.specs.PlainKeys.{AreOnce, is_like, placed_on, written_on}
use Rattle.juniper_field_graph.specs.declared.plain_keys.FieldOn.{FieldOn}

-- a field of each response key, by the number that is made of the key
abbrev pub Table : Type 0
Table = ℕ → Option Placed

module _ {S : Type 0} (shown : S → Shown) (s : Schema) where
  abbrev pub view_on : FieldOn S → Placed
  view_on f = placed_on s f.parent.now (view_field shown f.field.now)

  unfoldable pub met_at : BTreeMap ℕ (FieldOn S) → Table
  met_at m k = option_map view_on (get nat_cmp m k)

  -- two fields have one response key, and are alike
  abbrev pub AreLike : FieldOn S → FieldOn S → Type 0
  AreLike f g = (response_key (view_field shown f.field.now) ≡ response_key (view_field shown g.field.now)) × (is_like s (view_on f) (view_on g) ≡ true)

-- a field with this one's response key was met, which is like it
abbrev pub IsMet : Schema → Table → Placed → Type 0
IsMet s t y = (x : Placed) × (t (name_number (response_key y.head)) ≡ Some x) × (response_key x.head ≡ response_key y.head) × (is_like s x y ≡ true)

-- no field that was met has an argument twice
abbrev pub AllOnce : Table → Type 0
AllOnce t = (k : ℕ) (x : Placed) → t k ≡ Some x → IsOnce x.head

-- these fields are met, and those that were met before
pub record AreMet (s : Schema) (old new : Table) (xs : List Placed) : Type 0 where
  pub once : AllOnce new
  pub before : (y : Placed) → IsMet s old y → IsMet s new y
  pub added : (y : Placed) → In y xs → IsMet s new y

-- where no field has an argument twice, these are met
abbrev pub Meets : Schema → Table → Table → List Placed → Type 0
Meets s old new xs = AllOnce old → AreOnce xs → AreMet s old new xs

module _ {S : Type 0} (shown : S → Shown) (s : Schema) where
  -- what is then met by the rest of selections on a type, behind the new fields that were met, is met by the whole behind the old ones
  abbrev pub MeetsWhole : BTreeMap ℕ (FieldOn S) → BTreeMap ℕ (FieldOn S) → Table → Name → Selections → Selections → Type 0
  MeetsWhole old new then p rest whole = Meets s (met_at shown s new) then (written_on s p rest) → Meets s (met_at shown s old) then (written_on s p whole)
