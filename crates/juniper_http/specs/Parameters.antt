-- What a GET asks ("GraphQL over HTTP", GET): the query of its target is a form of the type application/x-www-form-urlencoded
-- (URL Standard, section 5).
use Rattle.std.specs.Prelude.{◌≡◌, ℕ, List, [], ◌∷◌, if◌then◌else◌, Option, Some, None, option_map, codes, string_bytes, Result, Ok, Err}
use Rattle.std.specs.Option.{option_or}
use Rattle.std.specs.Str.{bytes_eq}
use Rattle.std.specs.Str.Lossy.{utf8_lossy}
use Rattle.form_urlencoded.specs.Form.{decode, raw_pairs}
use Rattle.serde_json.specs.Data.{Data, Members}
use Rattle.serde_json.specs.Read.{read}
use Rattle.juniper_request.specs.Requests.{Asked, maybe_members_in}
use Rattle.juniper_request.specs.declared.error.NotJson.{NotJson as Fault}
use Rattle.juniper_request.specs.declared.error.RequestError.{RequestError}
use Rattle.juniper_request.specs.declared.error.RequestError.TheVariants.{Query, Variables, Extensions}
use Rattle.juniper_http.specs.declared.parameters.Parameters.{Parameters}
use Rattle.juniper_http.specs.declared.refusal.Refusal.{Refusal}
use Rattle.juniper_http.specs.declared.refusal.Refusal.TheVariants.{NotJson, NotARequest}

-- ## The parameters

-- the text that a name or a value of a form stands for
abbrev pub form_text : List ℕ → List ℕ
form_text bytes = utf8_lossy (decode bytes)

-- the value, if it has this name
abbrev pub value_at : List ℕ → List ℕ → List ℕ → Option (List ℕ)
value_at wanted name value = if bytes_eq name wanted then Some value else None

-- the value of the last pair of this name
abbrev pub last_value : List ℕ → List (List ℕ × List ℕ) → Option (List ℕ)
last_value wanted [] = None
last_value wanted (pair ∷ pairs) = option_or (last_value wanted pairs) (value_at wanted (form_text pair.0) (form_text pair.1))

-- the texts that are given; other names are passed over
pub record Given : Type 0 where
  pub query : Option (List ℕ)
  pub operation_name : Option (List ℕ)
  pub variables : Option (List ℕ)
  pub extensions : Option (List ℕ)

abbrev pub given_by : List (List ℕ × List ℕ) → Given
given_by pairs = record {
  query = last_value (codes "query") pairs;
  operation_name = last_value (codes "operationName") pairs;
  variables = last_value (codes "variables") pairs;
  extensions = last_value (codes "extensions") pairs;
}

-- the parameters of a query
abbrev pub given_in : List ℕ → Given
given_in query = given_by (raw_pairs query)

-- the same with one more pair
abbrev pub with_value : List ℕ → List ℕ → Given → Given
with_value name value g = record {
  query = option_or (value_at (codes "query") name value) g.query;
  operation_name = option_or (value_at (codes "operationName") name value) g.operation_name;
  variables = option_or (value_at (codes "variables") name value) g.variables;
  extensions = option_or (value_at (codes "extensions") name value) g.extensions;
}

abbrev pub view_parameters : Parameters → Given
view_parameters p = record {
  query = option_map string_bytes p.query;
  operation_name = option_map string_bytes p.operation_name;
  variables = option_map string_bytes p.variables;
  extensions = option_map string_bytes p.extensions;
}

-- ## What they ask

-- the members of an object that may be null, or this error
abbrev pub members_or : RequestError → Option (Option Members) → Result (Option Members) Refusal
members_or e None = Err (NotARequest e)
members_or e (Some members) = Ok members

-- The text is the JSON of these members, or it is refused. Where it is no JSON the place is left open.
abbrev pub AreMembersOf : RequestError → Option Data → Result (Option Members) Refusal → Type 0
AreMembersOf e None r = (fault : Fault) × (r ≡ Err (NotJson fault))
AreMembersOf e (Some d) r = r ≡ members_or e (maybe_members_in (Some d))

-- the same of a parameter that may be missing
abbrev pub AreMembers : RequestError → Option (List ℕ) → Result (Option Members) Refusal → Type 0
AreMembers e None r = r ≡ Ok None
AreMembers e (Some text) r = AreMembersOf e (read text) r

-- The name of the operation; an empty one is none.
abbrev pub name_given : Option (List ℕ) → Option (List ℕ)
name_given None = None
name_given (Some []) = None
name_given (Some (b ∷ bs)) = Some (b ∷ bs)

abbrev pub asked_with : List ℕ → Option (List ℕ) → Option Members → Result (Option Members) Refusal → Result Asked Refusal
asked_with query name variables (Err why) = Err why
asked_with query name variables (Ok extensions) =
    Ok (record { query = query; operation_name = name; variables = variables; extensions = extensions })

abbrev pub IsAskedWith : List ℕ → Given → Result (Option Members) Refusal → Result Asked Refusal → Type 0
IsAskedWith query g (Err why) r = r ≡ Err why
IsAskedWith query g (Ok variables) r =
    (extensions : Result (Option Members) Refusal) × AreMembers Extensions g.extensions extensions
    × (r ≡ asked_with query (name_given g.operation_name) variables extensions)

abbrev pub IsAskedFor : Option (List ℕ) → Given → Result Asked Refusal → Type 0
IsAskedFor None g r = r ≡ Err (NotARequest Query)
IsAskedFor (Some query) g r =
    (variables : Result (Option Members) Refusal) × AreMembers Variables g.variables variables × IsAskedWith query g variables r

-- the request that these texts give, or why it is refused: for a query that is missing, for variables, or for extensions
abbrev pub IsAskedBy : Given → Result Asked Refusal → Type 0
IsAskedBy g r = IsAskedFor g.query g r
