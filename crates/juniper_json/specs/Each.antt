-- The values of variables, each by itself: one that is refused leaves the others as they are (6.1.2).
use Rattle.std.specs.Prelude.{◌≡◌, cond, List, [], ◌∷◌, ◌++◌, Option, Some, None, option_and_then, string_bytes}
use Rattle.graphql_spec.specs.Inputs.{Input, Variables}
use Rattle.graphql_spec.specs.Shown.{Name}
use Rattle.juniper_json.specs.Given.{all_numbers, input_of, put_value}
use Rattle.juniper_json.specs.Wanted.{is_wanted}
use Rattle.juniper_json.specs.declared.given.RefusedVariable.{RefusedVariable}
use Rattle.juniper_json.specs.declared.numbers.Wanted.TheVariants.{Integer, Int}
use Rattle.juniper_json.specs.declared.read.VariablesError.{VariablesError}
use Rattle.juniper_json.specs.declared.read.VariablesError.TheVariants.{Float, OutOfRange}
use Rattle.serde_json.specs.Data.{Data, Members, no_members, member}
use Rattle.serde_json.specs.Find.{get_member}

-- why a value is refused: a number in it is no integer, or each is one and one is no Int (3.5.1)
abbrev pub refusal_of : Data → Option VariablesError
refusal_of d = cond (all_numbers (is_wanted Integer) d) (cond (all_numbers (is_wanted Int) d) None (Some OutOfRange)) (Some Float)

-- a value that is not refused
abbrev pub taken_by : Option VariablesError → Data → Option Input
taken_by None d = Some (input_of d)
taken_by (Some e) d = None

abbrev pub taken : Data → Option Input
taken d = taken_by (refusal_of d) d

-- the value of each member that is not refused, by its name
abbrev pub given_of : Members → Variables
given_of ms n = option_and_then taken (get_member n ms)

-- The value is put at k, or it is refused and nothing changes.
abbrev pub IsTakenAt : Name → Data → Option VariablesError → Variables → Variables → Type 0
IsTakenAt k d None old new = (n : Name) → new n ≡ put_value k d old n
IsTakenAt k d (Some e) old new = new ≡ old

abbrev pub view_refused : RefusedVariable → Name × VariablesError
view_refused r = (string_bytes r.name, r.error)

-- a name, if its value is refused
abbrev pub refused_by : Name → Option VariablesError → List (Name × VariablesError)
refused_by k None = []
refused_by k (Some e) = (k, e) ∷ []

-- the names whose values are refused
abbrev pub refused_in : Members → List (Name × VariablesError)
refused_in no_members = []
refused_in (member k d ms) = refused_by k (refusal_of d) ++ refused_in ms
