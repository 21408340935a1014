-- Declarations are sets: there is one proof, at most, that two of them are equal.
use Rattle.std.specs.Prelude.{ℕ, Bool, List, Option}
use Rattle.std.proofs.Math.Bool.{Bool-discrete}
use Rattle.std.proofs.Math.Nat.{ℕ_set}
use Rattle.std.proofs.Math.IntN.{ℤ_set}
use Rattle.std.proofs.Props.{props}
use mathlib.Core.HLevel.{hedberg}
use mathlib.Core.List.{is_set}
use Rattle.graphql_spec.specs.Shown.{Name, Shown, shown-set}
use Rattle.graphql_spec.specs.Positions.{Span}
use Rattle.graphql_spec.specs.Types.{TypeRef, type-set}
use Rattle.graphql_spec.specs.Inputs.{Input, input-set}
use Rattle.graphql_spec.specs.Schema.{ScalarKinds, Deprecation, InputDeclaration, FieldDeclaration, EnumValue, Shape, Entry, DirectiveDeclaration}
use Rattle.graphql_spec.specs.Schema.{deprecation-set, shape-set}

booleans : IsSet Bool
booleans = hedberg Bool-discrete

names : IsSet Name
names = is_set ℕ_set

shown : IsSet Shown
shown = Prim.hlevel (shown-set, booleans, names, ℤ_set, is_set)

spans : IsSet Span
spans = Prim.hlevel (ℕ_set)

inputs : IsSet Input
inputs = Prim.hlevel (input-set, names, shown, spans)

sizes : IsSet (Option ℕ)
sizes = Prim.hlevel (ℕ_set, props)

texts : IsSet (Option Name)
texts = Prim.hlevel (names, props)

types : IsSet TypeRef
types = Prim.hlevel (type-set, booleans, names, sizes)

arguments : IsSet InputDeclaration
arguments = Prim.hlevel (names, types, inputs, props)

deprecations : IsSet Deprecation
deprecations = Prim.hlevel (deprecation-set, texts)

fields : IsSet FieldDeclaration
fields = Prim.hlevel (names, types, arguments, deprecations, is_set, props)

values : IsSet EnumValue
values = Prim.hlevel (names, deprecations, props)

kinds : IsSet ScalarKinds
kinds = Prim.hlevel (booleans)

shapes : IsSet Shape
shapes = Prim.hlevel (shape-set, kinds, texts, sizes, types, is_set names, is_set values, is_set fields, is_set arguments)

entries : IsSet Entry
entries = Prim.hlevel (names, shapes, props)

directives : IsSet DirectiveDeclaration
directives = Prim.hlevel (names, arguments, is_set)

pub entries-set : IsSet (List Entry)
entries-set = is_set entries

pub directives-set : IsSet (List DirectiveDeclaration)
directives-set = is_set directives

pub fields-set : IsSet (List FieldDeclaration)
fields-set = is_set fields

pub field-set : IsSet FieldDeclaration
field-set = fields

pub argument-set : IsSet InputDeclaration
argument-set = arguments

pub value-set : IsSet EnumValue
value-set = values

pub directive-set : IsSet DirectiveDeclaration
directive-set = directives
