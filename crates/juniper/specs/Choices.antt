-- Which operation a request executes, as the code has it (6.1).
use Rattle.std.specs.Prelude.{ℕ, List, [], ◌∷◌, Option, Some, None, Vec, cond, option_map}
use Rattle.std.specs.Borrow.{Bor}
use Rattle.std.specs.declared.alloc.Global.{Global}
use Rattle.graphql_spec.specs.Shown.{Shown, Name}
use Rattle.graphql_spec.specs.Documents.{Operation, Definition, operation, fragment}
use Rattle.graphql_spec.specs.Requests.{Choice, choose, chosen, many, unknown, is_named}
use Rattle.juniper_syntax.specs.DocumentView.{view_document, view_operation}
use Rattle.juniper_syntax.specs.declared.ast.Definition.{Definition as CodeDefinition}
use Rattle.juniper.specs.declared.operation.Chosen.{Chosen}
use Rattle.juniper.specs.declared.operation.Chosen.TheVariants as code

abbrev pub view_chosen : {S : Type 0} → (S → Shown) → Chosen S → Choice
view_chosen shown (code.One o) = chosen (view_operation shown o.now)
view_chosen shown code.Many = many
view_chosen shown code.Unknown = unknown

-- which operation of a document a request executes that gives this name, or none
abbrev pub choice_in : {S : Type 0} → (S → Shown) → Vec (CodeDefinition S) Global → Option (Bor (List ℕ)) → Choice
choice_in shown d name = choose (view_document shown d) (option_map (λ n. n.now) name)

-- ## Only private clauses cite what follows

-- the operation that was found, if any
abbrev pub choice_of : Option Operation → Choice
choice_of None = unknown
choice_of (Some o) = chosen o

abbrev pub found_in : Option Operation → List Operation
found_in None = []
found_in (Some o) = o ∷ []

-- a definition's operation stands for those before, where it has the name
unfoldable pub later : Name → Definition → Choice → Choice
later n (operation o) c = cond (is_named n o) (chosen o) c
later n (fragment f) c = c
