-- Names in a list of declarations, and what is found there.
use Rattle.std.proofs.Common.{◌≡◌, Bool, true, false, ◌||◌, cond, List, [], ◌∷◌, map, Option, Some, is_some, bytes_eq, refl, ap}
use Rattle.std.specs.List.{list_any}
use Rattle.graphql_spec.specs.Shown.{Name}
use Rattle.graphql_spec.specs.Schema.{EnumValue, FieldDeclaration, InputDeclaration}
use Rattle.graphql_spec.specs.Fields.{declaration_in, declares_value, field_in}

step : {X : Type 0} (b c : Bool) (x : X) (o : Option X) → c ≡ is_some o → (b || c) ≡ is_some (cond b (Some x) o)
step true c x o e = refl
step false c x o e = e

-- a field has the name where one is found
pub field_is_there : (n : Name) (fs : List FieldDeclaration) → list_any (bytes_eq n) (map (λ f. f.name) fs) ≡ is_some (field_in fs n)
unfolding field_in
field_is_there n [] = refl
field_is_there n (f ∷ fs) = step (bytes_eq n f.name) (list_any (bytes_eq n) (map (λ g. g.name) fs)) f (field_in fs n) (field_is_there n fs)

-- an argument or input field has the name where one is found
pub input_is_there : (n : Name) (ds : List InputDeclaration) → list_any (bytes_eq n) (map (λ d. d.name) ds) ≡ is_some (declaration_in ds n)
unfolding declaration_in
input_is_there n [] = refl
input_is_there n (d ∷ ds) = step (bytes_eq n d.name) (list_any (bytes_eq n) (map (λ x. x.name) ds)) d (declaration_in ds n) (input_is_there n ds)

-- an enum's value has the name where it is declared
pub value_is_there : (n : Name) (vs : List EnumValue) → list_any (bytes_eq n) (map (λ v. v.name) vs) ≡ declares_value vs n
unfolding declares_value
value_is_there n [] = refl
value_is_there n (v ∷ vs) = ap (λ b. bytes_eq n v.name || b) (value_is_there n vs)
