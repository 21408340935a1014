-- How faults are searched for. Only private clauses cite it.
use Rattle.std.specs.Prelude.{◌≡◌, ℕ, suc, ◌==◌, Bool, true, false, not, ◌&&◌, cond, codes, List, [], ◌∷◌, ◌++◌, Option, Some, None, option_map}
use Rattle.std.specs.List.{list_all}
use Rattle.std.specs.Option.{option_or}
use Rattle.std.specs.Str.{bytes_eq}
use Rattle.graphql_spec.specs.Shown.{Name, Shown}
use Rattle.graphql_spec.specs.Schema.{Entry, Schema}
use Rattle.graphql_spec.specs.BuiltIns.{introspection_types}
use Rattle.graphql_spec.specs.Fields.{entry_in, entry_named, interfaces_of, is_object, members_of}
use Rattle.graphql_spec.specs.Executable.{accepts_just, input_fields_of, is_reserved, mutation_is_apart, scalar_if_there, shape_fields, values_of}
use Rattle.juniper_meta.specs.MetaView.{entry_at, view_meta}
use Rattle.juniper_schema.specs.declared.faults.fault.Demand.{Demand}
use Rattle.juniper_schema.specs.declared.faults.fault.Demand.TheVariants.{EntryNames, RootTypes, KnownTypes, DistinctNames, Interfaces, Defaults, BuiltInScalars}
use Rattle.juniper_schema.specs.declared.faults.entries.NamedType.{NamedType}
use Rattle.juniper_schema.specs.Faults.{Fault, field_meets, input_meets, interface_meets, member_meets, own_meets, value_meets}

-- no entry has a reserved name, so that none hides a type of introspection
abbrev pub IsApart : Schema → Type 0
IsApart s = list_all (λ e. not (is_reserved e.key)) s.entries ≡ true

abbrev pub view_named : {S : Type 0} → (S → Shown) → NamedType S → Entry
view_named shown t = entry_at t.name.now (view_meta shown t.meta.now)

-- ## Entries

-- the names of the types of introspection (4.2)
unfoldable pub introspection_names : List Name
introspection_names = codes "__Schema" ∷ codes "__Type" ∷ codes "__Field" ∷ codes "__InputValue" ∷ codes "__EnumValue" ∷ codes "__Directive"
    ∷ codes "__TypeKind" ∷ codes "__DirectiveLocation" ∷ []

-- how often a name stands there
unfoldable pub times : Name → List Entry → ℕ
times n [] = 0
times n (e ∷ es) = cond (bytes_eq n e.key) (suc (times n es)) (times n es)

-- how often a name is listed
unfoldable pub times_listed : Name → List Name → ℕ
times_listed n [] = 0
times_listed n (m ∷ ms) = cond (bytes_eq n m) (suc (times_listed n ms)) (times_listed n ms)

-- a reserved name that is listed more often than introspection has it, so that an entry stands there
abbrev pub is_taken : List Name → Name → Bool
is_taken ns n = is_reserved n && not (times_listed n ns == times n introspection_types)

-- the first of them
unfoldable pub first_taken : List Name → List Name → Option Name
first_taken ns [] = None
first_taken ns (m ∷ ms) = cond (is_taken ns m) (Some m) (first_taken ns ms)

-- the entry of a name that is not reserved, as a list
unfoldable pub entry_list : Option Entry → List Entry
entry_list None = []
entry_list (Some e) = e ∷ []

abbrev pub entries_at : Schema → Name → List Entry
entries_at s n = cond (is_reserved n) [] (entry_list (entry_in s.entries n))

-- the entries of names, in their order
unfoldable pub entries_of : Schema → List Name → List Entry
entries_of s [] = []
entries_of s (n ∷ ns) = entries_at s n ++ entries_of s ns

-- ## What fails first

-- the name of the first that fails the test
abbrev pub first_failing : {X : Type 0} → (X → Name) → (X → Bool) → List X → Option Name
first_failing name test [] = None
first_failing name test (x ∷ xs) = cond (test x) (first_failing name test xs) (Some (name x))

-- what an entry has that fails
abbrev pub first_member : Schema → Demand → Entry → Option Name
first_member s d e = option_or (option_or (option_or (option_or (first_failing (λ f. f.name) (field_meets s d) (shape_fields e.shape))
    (first_failing (λ i. i.name) (input_meets s d) (input_fields_of e.shape)))
    (first_failing (λ v. v.name) (value_meets d) (values_of e.shape)))
    (first_failing (λ i. i) (interface_meets s d e) (interfaces_of (Some e.shape))))
    (first_failing (λ i. i) (member_meets s d) (members_of (Some e.shape)))

-- the fault of an entry
unfoldable pub fault_of : Schema → Demand → Entry → Option Fault
fault_of s d e = cond (own_meets d e) (option_map (λ m. record { demand = d; type_name = e.key; member = Some m }) (first_member s d e))
    (Some (record { demand = d; type_name = e.key; member = None }))

-- the first fault of entries
abbrev pub first_fault : Schema → Demand → List Entry → Option Fault
first_fault s d [] = None
first_fault s d (e ∷ es) = option_or (fault_of s d e) (first_fault s d es)

-- a fault of the type itself
abbrev pub at_type : Demand → Name → Fault
at_type d n = record { demand = d; type_name = n; member = None }

-- the fault where a test fails
abbrev pub fault_unless : Bool → Demand → Name → Option Fault
fault_unless b d n = cond b None (Some (at_type d n))

-- the fault of the mutation type
unfoldable pub mutation_fault : Schema → Option Name → Option Fault
mutation_fault s None = None
mutation_fault s (Some m) = fault_unless (mutation_is_apart s (Some m)) RootTypes m

-- the fault of the root types
unfoldable pub root_fault : Schema → Option Fault
root_fault s = option_or (fault_unless (is_object (entry_named s s.query)) RootTypes s.query) (mutation_fault s s.mutation)

-- the fault of the built-in scalars
unfoldable pub scalar_fault : Schema → Option Fault
scalar_fault s = option_or (option_or (option_or
    (fault_unless (accepts_just false true false (entry_named s (codes "String"))) BuiltInScalars (codes "String"))
    (fault_unless (accepts_just false false true (entry_named s (codes "Boolean"))) BuiltInScalars (codes "Boolean")))
    (fault_unless (scalar_if_there true false false (entry_named s (codes "Int"))) BuiltInScalars (codes "Int")))
    (fault_unless (scalar_if_there true true false (entry_named s (codes "ID"))) BuiltInScalars (codes "ID"))

-- the first fault, where these are the entries
unfoldable pub fault_among : Schema → List Entry → Option Fault
fault_among s es = option_or (option_or (option_or (option_or (option_or (option_or (first_fault s EntryNames es) (root_fault s)) (first_fault s KnownTypes es))
    (first_fault s DistinctNames es)) (first_fault s Interfaces es)) (first_fault s Defaults es)) (scalar_fault s)
