-- How the arguments of a field are seen (6.4.1).
use Rattle.std.specs.Prelude.{◌≡◌, ℕ, List, [], ◌∷◌, map, Option, Some, None, Result, Ok, Err}
use Rattle.std.specs.Borrow.{Bor}
use Rattle.indexmap.specs.IndexMap.{IndexMap}
use Rattle.graphql_spec.specs.Shown.{Shown}
use Rattle.graphql_spec.specs.Constants.{Constant, Members, no_members, insert, meaning}
use Rattle.graphql_spec.specs.Resolvers.{Error}
use Rattle.graphql_spec.specs.Schema.{InputDeclaration}
use Rattle.juniper_syntax.specs.InputView.{view_input}
use Rattle.juniper_syntax.specs.declared.input.InputValue.{InputValue}
use Rattle.juniper_syntax.specs.declared.position.Span.{Span}
use Rattle.juniper_syntax.specs.declared.position.Spanning.{Spanning}
use Rattle.juniper_conversions.specs.ErrorView.{view_error}
use Rattle.juniper_conversions.specs.declared.field_error.ResolveError.{ResolveError}
use Rattle.juniper_conversions.specs.declared.field_error.ResolveError.TheVariants.{Field, Memory}
use Rattle.juniper_meta.specs.MetaView.{view_argument}
use Rattle.juniper_values.specs.declared.arguments.Arguments.{Arguments}
use Rattle.juniper_meta.specs.declared.declaration.Argument.{Argument}

-- an argument with its place
abbrev pub Placed : Type 0 → Type 0
Placed S = Spanning (InputValue S) Span

-- arguments by their names, by what they mean, put to others
abbrev pub members_onto : {A : Type 0} → (A → Constant) → Members → List (Bor (List ℕ) × A) → Members
members_onto meant ms [] = ms
members_onto meant ms (a ∷ rest) = insert a.0.now (meant a.1) (members_onto meant ms rest)

-- what a value means, and one that is lent
abbrev pub meant : {S : Type 0} → (S → Shown) → Placed S → Constant
meant shown v = meaning (view_input shown v.item)

abbrev pub meant_lent : {S : Type 0} → (S → Shown) → Bor (Placed S) → Constant
meant_lent shown v = meaning (view_input shown v.now.item)

-- arguments by their names
abbrev pub members_of : {S : Type 0} → (S → Shown) → List (Bor (List ℕ) × Placed S) → Members
members_of shown = members_onto (meant shown) no_members

-- the same, where there are any
abbrev pub view_given : {S H : Type 0} → (S → Shown) → Option (IndexMap (Bor (List ℕ)) (Placed S) H) → Members
view_given shown None = no_members
view_given shown (Some m) = members_of shown m.entries

-- declared arguments, where there are any
abbrev pub view_declared : {S : Type 0} → (S → Shown) → Option (Bor (List (Argument S))) → List InputDeclaration
view_declared shown None = []
view_declared shown (Some ds) = map (view_argument shown) ds.now

-- the meaning of arguments: each name with its constant
abbrev pub view_arguments : {S : Type 0} → (S → Shown) → Arguments S → Members
view_arguments shown a = members_onto (meant shown) (members_onto (meant_lent shown) no_members a.lent.items.entries) a.items.entries

-- What is got of an argument, by the value that is there: nothing where there is none, else what the value is converted
-- into, or its error; nothing is said where memory is refused.
abbrev pub GivesArgument : {S T E : Type 0} → (S → Shown) → (Constant → Result T E → Type 0) → (E → Error) → Option Constant →
    Result (Option T) (ResolveError S) → Type 0
GivesArgument shown gives becomes o (Ok None) = o ≡ None
GivesArgument shown gives becomes o (Ok (Some x)) = (v : Constant) × (o ≡ Some v) × gives v (Ok x)
GivesArgument {E = E} shown gives becomes o (Err (Field r)) = (v : Constant) × (e : E) × (o ≡ Some v) × gives v (Err e) × (view_error shown r ≡ becomes e)
GivesArgument shown gives becomes o (Err Memory) = Unit {0}
