-- Arguments are the same as the fields of an object are (3.10, 5.3.2).
use Rattle.std.proofs.Common.{◌≡◌, Bool, true, false, ◌&&◌, ◌||◌, List, [], ◌∷◌, refl, sym, ap, ap₂, ◌∙◌}
use Rattle.std.specs.Str.{bytes_eq}
use Rattle.graphql_spec.specs.Shown.{Name}
use Rattle.graphql_spec.specs.Arguments.{written_meaning}
use Rattle.graphql_spec.specs.Constants.{insert, meaning, members, same_members}
use Rattle.graphql_spec.specs.Documents.{Argument}
use Rattle.graphql_spec.specs.Fits.{has_field}
use Rattle.graphql_spec.specs.Inputs.{InputFields}
use Rattle.graphql_spec.specs.Written.{arguments_repeat, field_repeats, fields_repeat, has_argument}
use Rattle.juniper_field_graph.specs.NamedValues.{as_fields}
use Rattle.juniper_field_graph.specs.SameValues.{all_keyed, same_fields}
use Rattle.juniper_field_graph.proofs.SameMeanings.{object-told}

pub meaning-as : (as' : List Argument) → written_meaning as' ≡ members (as_fields as')
unfolding written_meaning meaning as_fields
meaning-as [] = refl
meaning-as (a ∷ rest) = ap (insert a.name.item (meaning a.value.item)) (meaning-as rest)

has-as : (n : Name) (as' : List Argument) → has_argument n as' ≡ has_field n (as_fields as')
unfolding has_argument has_field as_fields
has-as n [] = refl
has-as n (a ∷ rest) = ap (λ b. bytes_eq n a.name.item || b) (has-as n rest)

repeat-as : (as' : List Argument) → arguments_repeat as' ≡ fields_repeat (as_fields as')
unfolding arguments_repeat fields_repeat as_fields
repeat-as [] = refl
repeat-as (a ∷ rest) = ap₂ (λ b c. b || (field_repeats a.value.item || c)) (has-as a.name.item rest) (repeat-as rest)

-- arguments that are matched both ways mean the same, where none stands twice
pub arguments-told : (as' bs : List Argument) → arguments_repeat as' ≡ false → arguments_repeat bs ≡ false
    → (same_fields (as_fields as') (as_fields bs) && all_keyed (as_fields bs) (as_fields as')) ≡ same_members (written_meaning as') (written_meaning bs)
arguments-told as' bs once once' =
    object-told (as_fields as') (as_fields bs) (sym (repeat-as as') ∙ once) (sym (repeat-as bs) ∙ once')
    ∙ ap₂ same_members (sym (meaning-as as')) (sym (meaning-as bs))

-- with one name
pub calls-told : (n m : Name) (as' bs : List Argument) (e r : Bool) → e ≡ bytes_eq n m → e ≡ true
    → r ≡ (same_fields (as_fields as') (as_fields bs) && all_keyed (as_fields bs) (as_fields as')) → arguments_repeat as' ≡ false → arguments_repeat bs ≡ false
    → r ≡ (bytes_eq n m && same_members (written_meaning as') (written_meaning bs))
calls-told n m as' bs e r is one told once once' =
    told ∙ (arguments-told as' bs once once' ∙ ap (λ b. b && same_members (written_meaning as') (written_meaning bs)) (sym (sym is ∙ one)))

-- ## Matched both ways

module _ (as' bs : List Argument) (fs gs : InputFields) (one : fs ≡ as_fields as') (two : gs ≡ as_fields bs) where
  abbrev AreMatched : Bool → Type 0
  AreMatched b = b ≡ (same_fields (as_fields as') (as_fields bs) && all_keyed (as_fields bs) (as_fields as'))

  seen : same_fields fs gs && all_keyed gs fs ≡ (same_fields (as_fields as') (as_fields bs) && all_keyed (as_fields bs) (as_fields as'))
  seen = ap₂ (λ f g. same_fields f g && all_keyed g f) one two

  pub first-matched : (a b : Bool) → a ≡ same_fields fs gs → a ≡ true → b ≡ all_keyed gs fs → AreMatched b
  first-matched a b first whole second = second ∙ (ap (λ t. t && all_keyed gs fs) (sym whole ∙ first) ∙ seen)

  pub one-differs : (a : Bool) → a ≡ same_fields fs gs → a ≡ false → AreMatched a
  one-differs a first fails = fails ∙ (ap (λ t. t && all_keyed gs fs) (sym fails ∙ first) ∙ seen)
