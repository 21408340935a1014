-- The fields and directives of a definition on their types, side by side (5.3, 5.4).
use Rattle.std.specs.Prelude.{◌≡◌, cond, List, [], ◌∷◌, ◌++◌, Option, Some, None}
use Rattle.graphql_spec.specs.Shown.{Name}
use Rattle.graphql_spec.specs.Types.{innermost}
use Rattle.graphql_spec.specs.Documents.{Directive, Head, Selections, Definition, written}
use Rattle.graphql_spec.specs.Schema.{Schema, DirectiveDeclaration, FieldDeclaration}
use Rattle.graphql_spec.specs.Fields.{field_of, type_named, is_composite}
use Rattle.graphql_spec.specs.Placed.{Placed, Call, placed, placed_directives, placed_in, directives_placed, if_declared, field_calls, directive_calls}
use Rattle.graphql_spec.specs.Placed.{directive_named}

-- the fields on their parent types, and the directives whose arguments are tested
pub record Parts : Type 0 where
  pub fields : List Placed
  pub directives : List Directive

module _ (s : Schema) where
  -- those of a definition
  unfoldable pub parts_of : Definition → Parts
  parts_of x = record { fields = placed_in s x; directives = directives_placed s x }

  -- the arguments of the fields and directives, with their declarations; of a definition's parts they are `calls`
  unfoldable pub calls_of : Parts → List Call
  calls_of p = field_calls s p.fields ++ directive_calls p.directives

  -- ## Selections; only private clauses cite what follows

  -- the parts of selections on a type
  unfoldable pub parts_in : Name → Selections → Parts
  parts_in p x = record { fields = placed s p x; directives = placed_directives s p x }

  -- the type inside a condition, if it is composite; without a condition the type around it
  unfoldable pub type_inside : Name → Option Name → Option Name
  type_inside p None = Some p
  type_inside p (Some c) = cond (is_composite (type_named s c)) (Some c) None

  -- a field without what stands below it
  unfoldable pub field_parts : Name → Head → Parts
  field_parts p h = record {
    fields = record { parent = p; head = h; declared = field_of s p h.name.item } ∷ [];
    directives = if_declared s (field_of s p h.name.item) (λ q. h.directives);
  }

-- the one behind the other
unfoldable pub joined : Parts → Parts → Parts
joined p q = record { fields = p.fields ++ q.fields; directives = p.directives ++ q.directives }

-- behind the new parts, those of the rest of selections on a type are what those of the whole are behind the old ones
abbrev pub AddsBefore : Schema → Name → Parts → Parts → Selections → Selections → Type 0
AddsBefore s p old new rest whole = joined new (parts_in s p rest) ≡ joined old (parts_in s p whole)

-- directives alone
unfoldable pub directive_parts : List Directive → Parts
directive_parts ds = record { fields = []; directives = ds }

-- the parts of selections on a type, where there is one
unfoldable pub parts_on : Schema → Option Name → Selections → Parts
parts_on s None x = record { fields = []; directives = [] }
parts_on s (Some p) x = parts_in s p x

-- the type below a field that its parent type has
unfoldable pub type_below : Option FieldDeclaration → Option Name
type_below None = None
type_below (Some d) = Some (innermost d.of_type)

-- ## Calls; only private clauses cite what follows

-- arguments beside those that a field declares
abbrev pub field_call : Head → FieldDeclaration → Call
field_call h d = record { declared = d.arguments; given = written h.arguments }

-- arguments beside those that a directive declares
abbrev pub directive_call : Directive → DirectiveDeclaration → Call
directive_call x d = record { declared = d.arguments; given = written x.arguments }

-- what is made of what is there, and nothing where it is absent
unfoldable pub list_of : {A B : Type 0} → (A → B) → Option A → List B
list_of f None = []
list_of f (Some x) = f x ∷ []

-- the arguments of a field that its parent type has
unfoldable pub call_of_field : Placed → List Call
call_of_field x = list_of (field_call x.head) x.declared

-- the arguments of a directive that every schema has
unfoldable pub call_of_directive : Directive → List Call
call_of_directive x = list_of (directive_call x) (directive_named x.name.item)
