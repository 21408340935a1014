-- An answer has no floats.
use Rattle.std.proofs.Common.{◌≡◌, ℕ, pos, negsuc, List, [], ◌∷◌, Option, Some, None, false, refl}
use Rattle.graphql_spec.specs.Shown.{Shown, int, text, boolean}
use Rattle.graphql_spec.specs.Positions.{Position}
use Rattle.graphql_spec.specs.Values.{Value, Values, Entries, null, scalar, list, object, no_items, item, no_entries, entry}
use Rattle.graphql_spec.specs.Errors.{Listed, Step, key, index}
use Rattle.serde_json.specs.Data.{Data, Members}
use Rattle.serde_json.specs.Written.{has_float, items_have_float, members_have_float}
use Rattle.juniper_json.specs.AnswerText.{scalar_data, value_data, values_data, entries_data, items_data, step_data, location_data, extensions_data}
use Rattle.juniper_json.specs.AnswerText.{error_data, errors_data, answer_data}
use Rattle.juniper_json.specs.RefusalText.{BrokenRule, Refusal, number_members, placed_members, refusal_data, refusals_data, rule_data, rule_members}

scalar_has_none : (x : Shown) → has_float (scalar_data x) ≡ false
unfolding scalar_data
scalar_has_none (int (pos n)) = refl
scalar_has_none (int (negsuc n)) = refl
scalar_has_none (text t) = refl
scalar_has_none (boolean b) = refl

mutual
  unfolding value_data values_data entries_data

  value_has_none : (v : Value) → has_float (value_data v) ≡ false
  value_has_none null = refl
  value_has_none (scalar x) = scalar_has_none x
  value_has_none (list vs) = values_have_none vs
  value_has_none (object es) = entries_have_none es

  values_have_none : (vs : Values) → items_have_float (values_data vs) ≡ false
  values_have_none no_items = refl
  values_have_none (item v vs) = rw (value_has_none v) (values_have_none vs)

  entries_have_none : (es : Entries) → members_have_float (entries_data es) ≡ false
  entries_have_none no_entries = refl
  entries_have_none (entry k v es) = rw (value_has_none v) (entries_have_none es)

list_has_none : {A : Type 0} (f : A → Data) → ((x : A) → has_float (f x) ≡ false) → (xs : List A) → items_have_float (items_data f xs) ≡ false
unfolding items_data
list_has_none f h [] = refl
list_has_none f h (x ∷ xs) = rw (h x) (list_has_none f h xs)

step_has_none : (s : Step) → has_float (step_data s) ≡ false
unfolding step_data
step_has_none (key k) = refl
step_has_none (index n) = refl

location_has_none : (p : Position) → has_float (location_data p) ≡ false
unfolding location_data
location_has_none p = refl

extensions_have_none : (v : Value) → members_have_float (extensions_data v) ≡ false
unfolding extensions_data
extensions_have_none null = refl
extensions_have_none (scalar x) = rw (value_has_none (scalar x)) refl
extensions_have_none (list vs) = rw (value_has_none (list vs)) refl
extensions_have_none (object es) = rw (value_has_none (object es)) refl

error_has_none : (e : Listed) → has_float (error_data e) ≡ false
unfolding error_data
error_has_none e = rw (
  list_has_none location_data location_has_none (e.start ∷ []),
  list_has_none step_data step_has_none e.path,
  extensions_have_none e.error.extensions,
) refl

errors_have_none : (es : List Listed) → members_have_float (errors_data es) ≡ false
unfolding errors_data
errors_have_none [] = refl
errors_have_none (e ∷ es) = rw (list_has_none error_data error_has_none (e ∷ es)) refl

pub answer_has_none : (v : Value) (es : List Listed) → has_float (answer_data v es) ≡ false
unfolding answer_data
answer_has_none v es = rw (value_has_none v) (errors_have_none es)

number_has_none : (o : Option ℕ) → members_have_float (number_members o) ≡ false
unfolding number_members
number_has_none None = refl
number_has_none (Some n) = refl

rule_has_none : (o : Option BrokenRule) → members_have_float (rule_members o) ≡ false
unfolding rule_members rule_data
rule_has_none None = refl
rule_has_none (Some r) = rw (number_has_none r.number) refl

placed_has_none : (o : Option Position) (rest : Members) → members_have_float rest ≡ false → members_have_float (placed_members o rest) ≡ false
unfolding placed_members
placed_has_none None rest none = none
placed_has_none (Some p) rest none = rw (list_has_none location_data location_has_none (p ∷ [])) none

refusal_has_none : (r : Refusal) → has_float (refusal_data r) ≡ false
unfolding refusal_data
refusal_has_none r = placed_has_none r.place (rule_members r.rule) (rule_has_none r.rule)

pub refusals_have_none : (rs : List Refusal) → has_float (refusals_data rs) ≡ false
unfolding refusals_data
refusals_have_none rs = rw (list_has_none refusal_data refusal_has_none rs) refl
