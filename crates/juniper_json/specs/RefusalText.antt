-- The text of a response without data: its errors, which are those of a request or what explains them (7.1, 7.1.2), with no space.
use Rattle.std.specs.Prelude.{List, [], ◌∷◌, ℕ, Option, Some, None, codes, option_map, string_bytes}
use Rattle.graphql_spec.specs.Shown.{Text}
use Rattle.graphql_spec.specs.Positions.{Position}
use Rattle.juniper_syntax.specs.Positions.{view_position}
use Rattle.serde_json.specs.Data as json
use Rattle.serde_json.specs.Data.{Data, Members, member, no_members, unsigned}
use Rattle.serde_json.specs.Written.{compact_text}
use Rattle.juniper_json.specs.AnswerText.{items_data, location_data}
use Rattle.juniper_json.specs.declared.refusals.BrokenRule.{BrokenRule as CodeRule}
use Rattle.juniper_json.specs.declared.refusals.Refusal.{Refusal as CodeRefusal}

-- what is broken: its fixed text, and its number where it has one
pub record BrokenRule : Type 0 where
  pub text : Text
  pub number : Option ℕ

abbrev pub view_rule : CodeRule → BrokenRule
view_rule r = record { text = string_bytes r.text; number = r.number }

-- an error of a request, or what explains one: its message, its place in the text where it has one, and what is broken where that is told
pub record Refusal : Type 0 where
  pub message : Text
  pub place : Option Position
  pub rule : Option BrokenRule

abbrev pub view_refusal : CodeRefusal → Refusal
view_refusal r = record { message = string_bytes r.message; place = option_map view_position r.place; rule = option_map view_rule r.rule }

-- the number, where there is one
unfoldable pub number_members : Option ℕ → Members
number_members None = no_members
number_members (Some n) = member (codes "number") (json.number (unsigned n)) no_members

-- what is broken, in the extensions of an error
unfoldable pub rule_data : BrokenRule → Data
rule_data r = json.object (member (codes "rule") (json.string r.text) (number_members r.number))

-- the extensions, where there are some
unfoldable pub rule_members : Option BrokenRule → Members
rule_members None = no_members
rule_members (Some r) = member (codes "extensions") (rule_data r) no_members

-- the place, where there is one, and then these members
unfoldable pub placed_members : Option Position → Members → Members
placed_members None rest = rest
placed_members (Some p) rest = member (codes "locations") (json.array (items_data location_data (p ∷ []))) rest

-- what stands behind the message of an error
abbrev pub members_behind : Refusal → Members
members_behind r = placed_members r.place (rule_members r.rule)

unfoldable pub refusal_data : Refusal → Data
refusal_data r = json.object (member (codes "message") (json.string r.message) (members_behind r))

-- a response without data, of these errors (7.1)
unfoldable pub refusals_data : List Refusal → Data
refusals_data rs = json.object (member (codes "errors") (json.array (items_data refusal_data rs)) no_members)

abbrev pub refusals_text : List Refusal → Text
refusals_text rs = compact_text (refusals_data rs)

-- The errors that are told where these are listed: what explains them, where something does, else they themselves. So some error is told
-- wherever one is listed.
unfoldable pub told_errors : List Refusal → List Refusal → List Refusal
told_errors listed [] = listed
told_errors listed (e ∷ es) = e ∷ es

-- a response without data, of the errors that are told
abbrev pub explained_text : List Refusal → List Refusal → Text
explained_text listed explanations = refusals_text (told_errors listed explanations)
