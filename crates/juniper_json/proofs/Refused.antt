-- Sending the errors of a request, and how they are made.
use Rattle.std.proofs.Common.{◌≡◌, ℕ, ◌+◌, List, [], ◌∷◌, Option, Some, None, map, option_map, slice_get, refl, subst, arith}
use Rattle.graphql_spec.specs.Shown.{Text}
use Rattle.graphql_spec.specs.Positions.{Position}
use Rattle.graphql_spec.specs.Rules.{RuleError}
use Rattle.serde.specs.Event.{Log, Logs, map_begins, map_ends, field_key, text}
use Rattle.serde.specs.declared.name.Case.TheVariants.{AsIs}
use Rattle.serde_json.specs.Data.{Members, member, object, string}
use Rattle.serde_json.specs.Events.{SendsMembers, SendsValue, members_len}
use Rattle.juniper_json.specs.Refusals.{rule_refusal}

-- an object whose first member is a text
pub text_first : (k t m : Text) (rest : Members) (n : ℕ) (a b c d new : Log) → n ≡ 1 + members_len rest → m ≡ t → Logs a b (map_begins (Some n)) →
    Logs b c (field_key k AsIs) → Logs c d (text m) → SendsMembers rest d new → SendsValue (object (member k (string t) rest)) a new
text_first k t m rest n a b c d new is_count is_text begun named sent ended =
    (b, subst (λ i. Logs a b (map_begins (Some i))) (omega arith) begun, (c, d, named, subst (λ x. Logs c d (text x)) is_text sent, ended))

-- ## The error of a rule

-- a list of one place has that place first
pub first_place : {A B : Type 0} (view : A → B) (xs : List A) (p : B) (o : Option A) → map view xs ≡ p ∷ [] → o ≡ slice_get xs 0 →
    option_map view o ≡ Some p
first_place view [] p o e first = cc
first_place view (x ∷ xs) p o e first = rw first cc

pub rule_shown : (e : RuleError) (t : Text) (o : Option Position) → t ≡ e.message → o ≡ Some e.start → rule_refusal e ≡ record { message = t; place = o; rule = None }
rule_shown e t o is_message is_place = rw (is_message, is_place) refl
