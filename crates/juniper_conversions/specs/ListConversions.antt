-- What conversions of lists answer (3.11): a list goes item by item, and any other value but null is taken for one item.
use Rattle.std.specs.Prelude.{◌≡◌, ◌≢◌, ◌⊎◌, ℕ, List, [], ◌∷◌, length, map, Option, Some, None, Result, Ok, Err, Vec}
use Rattle.std.specs.declared.alloc.Global.{Global}
use Rattle.std.specs.List.{AllZip}
use Rattle.graphql_spec.specs.Constants.{Constant, Constants, null, scalar, enumerated, variable, list, object, no_constants, constant}
use Rattle.juniper_conversions.specs.declared.conversion_errors.FromInputValueVecError.{FromInputValueVecError}
use Rattle.juniper_conversions.specs.declared.conversion_errors.FromInputValueVecError.TheVariants as vec
use Rattle.juniper_conversions.specs.declared.conversion_errors.FromInputValueArrayError.{FromInputValueArrayError}
use Rattle.juniper_conversions.specs.declared.conversion_errors.FromInputValueArrayError.TheVariants as array

-- the items of a list, in order
abbrev pub items_of : Constants → List Constant
items_of no_constants = []
items_of (constant v vs) = v ∷ items_of vs

-- the list of these items
abbrev pub constants_of : List Constant → Constants
constants_of [] = no_constants
constants_of (v ∷ vs) = constant v (constants_of vs)

-- the items of a value that is a list; no other value has any
abbrev pub list_of : Constant → Option (List Constant)
list_of null = None
list_of (scalar s) = None
list_of (enumerated e) = None
list_of (variable x) = None
list_of (list vs) = Some (items_of vs)
list_of (object ms) = None

-- one statement for null, one on the items of a list, and one for any other value
abbrev pub ByShape : Constant → Type 0 → (List Constant → Type 0) → Type 0 → Type 0
ByShape null N L O = N
ByShape (scalar s) N L O = O
ByShape (enumerated e) N L O = O
ByShape (variable x) N L O = O
ByShape (list vs) N L O = L (items_of vs)
ByShape (object ms) N L O = O

-- each constant gives the item beside it
abbrev pub EachGives : {A E : Type 0} → (Constant → Result A E → Type 0) → List Constant → List A → Type 0
EachGives inner = AllZip (λ v x. inner v (Ok x))

-- the first constant that gives no item gives this error
abbrev pub FirstFails : {A E : Type 0} → (Constant → Result A E → Type 0) → List Constant → E → Type 0
FirstFails inner [] e = ⊥
FirstFails {A = A} inner (v ∷ vs) e = inner v (Err e) ⊎ ((x : A) × inner v (Ok x) × FirstFails inner vs e)

-- the items that constants give, or the error of the first that gives none
abbrev pub GivesItems : {A E : Type 0} → (Constant → Result A E → Type 0) → List Constant → Result (Vec A Global) E → Type 0
GivesItems inner vs (Ok xs) = EachGives inner vs xs.items
GivesItems inner vs (Err e) = FirstFails inner vs e

-- the same, as a conversion to a vector answers it
abbrev pub GivesListed : {A E S : Type 0} → (Constant → Result A E → Type 0) → List Constant → Result (Vec A Global) (FromInputValueVecError A S E) → Type 0
GivesListed inner vs (Ok xs) = EachGives inner vs xs.items
GivesListed inner vs (Err vec.Null) = ⊥
GivesListed inner vs (Err (vec.Item e)) = FirstFails inner vs e

-- a vector: null is refused, a list goes item by item, any other value is one item
abbrev pub GivesVec : {A E S : Type 0} → (Constant → Result A E → Type 0) → Constant → Result (Vec A Global) (FromInputValueVecError A S E) → Type 0
GivesVec inner v answer = ByShape v (answer ≡ Err vec.Null) (λ vs. GivesListed inner vs answer) (GivesListed inner (v ∷ []) answer)

-- an array of n items from a list: the count is compared first, and then the list goes item by item
abbrev pub GivesCounted : {A E S : Type 0} → (n : ℕ) → (Constant → Result A E → Type 0) → List Constant → Result (List A) (FromInputValueArrayError A S E) →
    Type 0
GivesCounted n inner vs (Ok xs) = (length vs ≡ n) × EachGives inner vs xs
GivesCounted n inner vs (Err array.Null) = ⊥
GivesCounted n inner vs (Err (array.WrongCount actual expected)) = (length vs ≢ n) × (actual ≡ length vs) × (expected ≡ n)
GivesCounted n inner vs (Err (array.Item e)) = (length vs ≡ n) × FirstFails inner vs e

-- an array of n items from a value that is no list: it is converted first, and then counted as 1
abbrev pub GivesSingle : {A E S : Type 0} → (n : ℕ) → (Constant → Result A E → Type 0) → Constant → Result (List A) (FromInputValueArrayError A S E) → Type 0
GivesSingle n inner v (Ok xs) = (1 ≡ n) × EachGives inner (v ∷ []) xs
GivesSingle n inner v (Err array.Null) = ⊥
GivesSingle {A = A} n inner v (Err (array.WrongCount actual expected)) = (1 ≢ n) × (actual ≡ 1) × (expected ≡ n) × ((x : A) × inner v (Ok x))
GivesSingle n inner v (Err (array.Item e)) = inner v (Err e)

-- an array of n items: null is refused, and any other value goes as it has the shape of a list or not
abbrev pub GivesArray : {A E S : Type 0} → (n : ℕ) → (Constant → Result A E → Type 0) → Constant → Result (List A) (FromInputValueArrayError A S E) → Type 0
GivesArray n inner v answer = ByShape v (answer ≡ Err array.Null) (λ vs. GivesCounted n inner vs answer) (GivesSingle n inner v answer)

-- how items are written: as the list of what is written of each
abbrev pub list_input : {A : Type 0} → (A → Constant) → List A → Constant
list_input inner xs = list (constants_of (map inner xs))
