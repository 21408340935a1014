-- Keys with values, as a list of pairs.
use Rattle.std.specs.Prelude.{◌≡◌, ℕ, Bool, ◌&&◌, not, if◌then◌else◌, List, [], ◌∷◌, ◌++◌, map, String, string_bytes}
use Rattle.std.specs.List.{list_any, position_or_len}
use Rattle.std.specs.Global.{Global}
use Rattle.std.specs.Str.{bytes_eq}
use Rattle.std.specs.String.{string_eq}
use Rattle.std.specs.Cmp.Lexicographic.{pointwise}
use Rattle.std.specs.Coded.{Coded, coded_list, coded×}
use Rattle.std.specs.contracts.alloc.Global as heap
use Rattle.std.specs.contracts.impls.GlobalAllocator.TheImpl.{ghosts}
use Rattle.std.specs.contracts.string.String as text

-- a key is this text
abbrev pub is_key : List ℕ → String Global → Bool
is_key text key = bytes_eq text (string_bytes key)

-- what these keys say, in order
abbrev pub texts : List (String Global) → List (List ℕ)
texts ks = map string_bytes ks

-- what the keys say, in order
abbrev pub names : {X : Type 0} → List (String Global × X) → List (List ℕ)
names es = map (λ e. string_bytes e.0) es

-- what is answered of a key's place, and whether it is new: one that is there stays, and a new one goes last
abbrev pub IsKeyAdded : List ℕ → List (List ℕ) → List (List ℕ) → ℕ × Bool → Type 0
IsKeyAdded key old new (place, is_new) =
    (is_new ≡ not (list_any (bytes_eq key) old)) × (place ≡ position_or_len (bytes_eq key) old) × (new ≡ (if is_new then old ++ key ∷ [] else old))

-- what the keys say, with their values
abbrev pub said : {X : Type 0} → List (String Global × X) → List (List ℕ × X)
said es = map (λ e. (string_bytes e.0, e.1)) es

-- two keys are equal, and their values are
abbrev pub pair_eq : {X : Type 0} → (X → X → Bool) → String Global × X → String Global × X → Bool
pair_eq E p q = string_eq p.0 q.0 && E p.1 q.1

-- entry by entry, in order
abbrev pub fields_eq : {X : Type 0} → (X → X → Bool) → List (String Global × X) → List (String Global × X) → Bool
fields_eq E = pointwise (pair_eq E)

-- how the logic stores a key, keys, and keys with values
abbrev pub key_code : Coded (String Global)
key_code = (text.the_row heap.the_row ghosts).coded

abbrev pub names_code : Coded (List (String Global))
names_code = coded_list key_code

abbrev pub entries_code : {X : Type 0} → Coded X → Coded (List (String Global × X))
entries_code c = coded_list (coded× key_code c)
