-- What a fault is shown as: this project's own words.
use Rattle.std.specs.Prelude.{codes, ◌++◌, Option, Some, None}
use Rattle.graphql_spec.specs.Shown.{Name, Text}
use Rattle.juniper_schema.specs.declared.faults.fault.Demand.{Demand}
use Rattle.juniper_schema.specs.declared.faults.fault.Demand.TheVariants.{EntryNames, RootTypes, KnownTypes, DistinctNames, Interfaces, Defaults, BuiltInScalars}
use Rattle.juniper_schema.specs.Faults.{Fault}

abbrev pub demand_text : Demand → Text
demand_text EntryNames = codes "a name is no Name, or is reserved, or no type is declared at it"
demand_text RootTypes = codes "a root type has to be an object type of its own"
demand_text KnownTypes = codes "a field has to end in a type for output, an argument in one for input"
demand_text DistinctNames = codes "two names are the same, or a member of a union is no object type"
demand_text Interfaces = codes "an interface that is listed is not implemented"
demand_text Defaults = codes "a default value does not fit its type"
demand_text BuiltInScalars = codes "a built-in scalar is missing, or accepts other kinds"

-- what is said of a type, or of what it has by a name
abbrev pub said_at : Name → Option Name → Text → Text
said_at t None said = t ++ codes ": " ++ said
said_at t (Some m) said = t ++ codes "." ++ m ++ codes ": " ++ said

abbrev pub fault_text : Fault → Text
fault_text f = said_at f.type_name f.member (demand_text f.demand)
