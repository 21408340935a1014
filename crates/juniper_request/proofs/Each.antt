-- The members of an array, one by one.
use Rattle.std.proofs.Common.{◌≡◌, List, [], ◌∷◌, refl, ap}
use Rattle.serde_json.specs.Data.{Data}
use Rattle.serde_json.specs.View.{items_of}
use Rattle.juniper_request.specs.Requests.{each}

pub each_of_items : (ds : List Data) → each (items_of ds) ≡ ds
each_of_items [] = refl
each_of_items (d ∷ ds) = ap (λ rest. d ∷ rest) (each_of_items ds)
