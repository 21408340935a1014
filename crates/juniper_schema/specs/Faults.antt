-- Why requests cannot be executed on a schema (3): what is asked of one, in order, and where it fails.
use Rattle.std.specs.Prelude.{◌≡◌, Bool, true, false, not, ◌&&◌, ◌||◌, codes, map, List, Option, Some, None, option_map}
use Rattle.std.specs.List.{list_all, list_any}
use Rattle.std.specs.Option.{is_none}
use Rattle.std.specs.Str.{bytes_eq}
use Rattle.graphql_spec.specs.Shown.{Name}
use Rattle.graphql_spec.specs.Tokens.{is_name}
use Rattle.graphql_spec.specs.Schema.{Entry, EnumValue, FieldDeclaration, InputDeclaration, Schema}
use Rattle.graphql_spec.specs.Fields.{entry_named, interfaces_of, is_object, members_of}
use Rattle.graphql_spec.specs.Executable.{accepts_just, all_names_differ, built_ins_are_right, default_is_right, defaults_fit, ends_in_input, entries_are_named}
use Rattle.graphql_spec.specs.Executable.{field_is_free, field_is_known, implements, input_fields_of, input_is_free, input_names_differ, interfaces_are_met}
use Rattle.graphql_spec.specs.Executable.{is_filled, is_own_name, is_reserved, is_value_name, mutation_is_apart, names_differ, roots_are_objects}
use Rattle.graphql_spec.specs.Executable.{scalar_if_there}
use Rattle.graphql_spec.specs.Executable.{shape_fields, types_are_known, values_of}
use Rattle.juniper_schema.specs.declared.faults.fault.Demand.{Demand}
use Rattle.juniper_schema.specs.declared.faults.fault.Demand.TheVariants.{EntryNames, RootTypes, KnownTypes, DistinctNames, Interfaces, Defaults, BuiltInScalars}
use Rattle.juniper_schema.specs.declared.faults.fault.SchemaFault.{SchemaFault}

-- a fault: what is not met, at which type, and at which of its fields, values, interfaces or members, if not in the type itself
pub record Fault : Type 0 where
  pub demand : Demand
  pub type_name : Name
  pub member : Option Name

abbrev pub view_fault : SchemaFault → Fault
view_fault f = record { demand = f.demand; type_name = f.type_name.now; member = option_map (λ n. n.now) f.member }

-- ## The clauses of `is_executable`

-- the clause of a demand
unfoldable pub is_met : Schema → Demand → Bool
is_met s EntryNames = entries_are_named s
is_met s RootTypes = roots_are_objects s
is_met s KnownTypes = types_are_known s
is_met s DistinctNames = all_names_differ s
is_met s Interfaces = interfaces_are_met s
is_met s Defaults = defaults_fit s
is_met s BuiltInScalars = built_ins_are_right s

-- the clauses before it
unfoldable pub met_before : Schema → Demand → Bool
met_before s EntryNames = true
met_before s RootTypes = entries_are_named s
met_before s KnownTypes = entries_are_named s && roots_are_objects s
met_before s DistinctNames = (entries_are_named s && roots_are_objects s) && types_are_known s
met_before s Interfaces = ((entries_are_named s && roots_are_objects s) && types_are_known s) && all_names_differ s
met_before s Defaults = (((entries_are_named s && roots_are_objects s) && types_are_known s) && all_names_differ s) && interfaces_are_met s
met_before s BuiltInScalars = ((((entries_are_named s && roots_are_objects s) && types_are_known s) && all_names_differ s) && interfaces_are_met s)
    && defaults_fit s

-- ## What a clause asks of each part of an entry

-- of a field
unfoldable pub field_meets : Schema → Demand → FieldDeclaration → Bool
field_meets s EntryNames f = field_is_free f
field_meets s KnownTypes f = field_is_known s f
field_meets s DistinctNames f = input_names_differ f.arguments
field_meets s Defaults f = list_all (default_is_right s) f.arguments
field_meets s _ f = true

-- of a field of an input object
unfoldable pub input_meets : Schema → Demand → InputDeclaration → Bool
input_meets s EntryNames d = input_is_free d
input_meets s KnownTypes d = ends_in_input s d
input_meets s Defaults d = default_is_right s d
input_meets s _ d = true

-- of an enum's value
unfoldable pub value_meets : Demand → EnumValue → Bool
value_meets EntryNames v = not (is_reserved v.name)
value_meets DistinctNames v = is_value_name v.name
value_meets _ v = true

-- of an interface that is listed
unfoldable pub interface_meets : Schema → Demand → Entry → Name → Bool
interface_meets s Interfaces e i = implements s e.key e.shape i
interface_meets s _ e i = true

-- of a member of a union
unfoldable pub member_meets : Schema → Demand → Name → Bool
member_meets s DistinctNames m = is_object (entry_named s m)
member_meets s _ m = true

-- of the entry itself
unfoldable pub own_meets : Demand → Entry → Bool
own_meets EntryNames e = is_filled e.shape && (is_own_name e.key e.name && (is_name e.key && not (is_reserved e.key)))
own_meets DistinctNames e = names_differ (map (λ f. f.name) (shape_fields e.shape)) && (input_names_differ (input_fields_of e.shape)
    && (names_differ (map (λ v. v.name) (values_of e.shape)) && (names_differ (interfaces_of (Some e.shape)) && names_differ (members_of (Some e.shape)))))
own_meets _ e = true

-- ## Where a clause fails

-- something of this name fails the test
abbrev pub fails_named : {X : Type 0} → (X → Name) → (X → Bool) → Name → List X → Bool
fails_named name test m = list_any (λ x. bytes_eq m (name x) && not (test x))

-- the entry itself fails, or what it has by this name
unfoldable pub entry_fails : Schema → Demand → Entry → Option Name → Bool
entry_fails s d e None = not (own_meets d e)
entry_fails s d e (Some m) = fails_named (λ f. f.name) (field_meets s d) m (shape_fields e.shape)
    || (fails_named (λ i. i.name) (input_meets s d) m (input_fields_of e.shape)
    || (fails_named (λ v. v.name) (value_meets d) m (values_of e.shape)
    || (fails_named (λ i. i) (interface_meets s d e) m (interfaces_of (Some e.shape))
    || fails_named (λ i. i) (member_meets s d) m (members_of (Some e.shape)))))

-- the root type of this name is none that it may be (3.3.1)
unfoldable pub root_fails : Schema → Name → Bool
root_fails s n = (bytes_eq n s.query && not (is_object (entry_named s n)))
    || elim s.mutation [ None ↦ false | Some m ↦ bytes_eq n m && not (mutation_is_apart s (Some n)) ]

-- the built-in scalar of this name is missing, or accepts other kinds (3.5)
unfoldable pub scalar_fails : Schema → Name → Bool
scalar_fails s n = (bytes_eq n (codes "String") && not (accepts_just false true false (entry_named s n)))
    || ((bytes_eq n (codes "Boolean") && not (accepts_just false false true (entry_named s n)))
    || ((bytes_eq n (codes "Int") && not (scalar_if_there true false false (entry_named s n)))
    || (bytes_eq n (codes "ID") && not (scalar_if_there true true false (entry_named s n)))))

-- the clause fails at an entry
abbrev pub fails_in : Schema → Fault → Bool
fails_in s f = list_any (λ e. bytes_eq f.type_name e.key && entry_fails s f.demand e f.member) s.entries

-- the clause fails where the fault says; of a root type and of a built-in scalar it is told that they fail themselves
unfoldable pub fails_at : Schema → Fault → Bool
fails_at s f = elim f.demand [
  | RootTypes ↦ is_none f.member && root_fails s f.type_name
  | BuiltInScalars ↦ is_none f.member && scalar_fails s f.type_name
  | EntryNames ↦ fails_in s f
  | KnownTypes ↦ fails_in s f
  | DistinctNames ↦ fails_in s f
  | Interfaces ↦ fails_in s f
  | Defaults ↦ fails_in s f
]

-- its clause fails there, and each clause before it holds
pub record IsFirstFault (s : Schema) (f : Fault) : Type 0 where
  pub before : met_before s f.demand ≡ true
  pub fails : is_met s f.demand ≡ false
  pub place : fails_at s f ≡ true

-- no two entries have one name, as in a map
abbrev pub NamesDiffer : Schema → Type 0
NamesDiffer s = names_differ (map (λ e. e.key) s.entries) ≡ true
