-- How the code's nodes are seen.
use Rattle.graphql_spec.specs.Introspection as rooted
use Rattle.graphql_spec.specs.Schema.{Schema}
use Rattle.graphql_spec.specs.Shown.{Name}
use Rattle.juniper_intro.specs.Handles as spec
use Rattle.juniper_intro.specs.Handles.{meant}
use Rattle.juniper_intro.specs.declared.handle.InputPlace.{InputPlace}
use Rattle.juniper_intro.specs.declared.handle.InputPlace.TheVariants as place
use Rattle.juniper_intro.specs.declared.handle.TypePlace.{TypePlace}
use Rattle.juniper_intro.specs.declared.handle.TypePlace.TheVariants as reference
use Rattle.juniper_intro.specs.declared.handle.Handle.{Handle}
use Rattle.juniper_intro.specs.declared.handle.Handle.TheVariants as handle
use Rattle.juniper_intro.specs.declared.node.RootedNode.{RootedNode}
use Rattle.juniper_intro.specs.declared.node.RootedNode.TheVariants as node
use Rattle.std.specs.Prelude.{List, [], ◌∷◌, Option, Some, None, option_map}

-- ## As the code has them

-- the place of an argument or input field
abbrev pub code_input : spec.InputPlace → InputPlace
code_input (spec.of_field i j k) = place.OfField i j k
code_input (spec.of_input_object i j) = place.OfInputObject i j
code_input (spec.of_directive i j) = place.OfDirective i j

-- the place of a reference
abbrev pub code_type : spec.TypePlace → TypePlace
code_type (spec.by_name i) = reference.ByName i
code_type (spec.at_field i j) = reference.AtField i j
code_type (spec.at_input p) = reference.AtInput (code_input p)

-- a node of introspection
abbrev pub code_handle : spec.Handle → Handle
code_handle spec.schema_handle = handle.Schema
code_handle (spec.type_handle p d) = handle.Type (code_type p) d
code_handle (spec.field_handle i j) = handle.Field i j
code_handle (spec.input_handle p) = handle.Input (code_input p)
code_handle (spec.value_handle i j) = handle.Value i j
code_handle (spec.directive_handle i) = handle.Directive i

-- the same among the root's nodes
abbrev pub of_handle : {N : Type 0} → spec.Handle → RootedNode N
of_handle h = node.Introspected (code_handle h)

-- a user's node among them
abbrev pub of_user : {N : Type 0} → N → RootedNode N
of_user n = node.User n

-- ## As they are seen

abbrev pub view_input_place : InputPlace → spec.InputPlace
view_input_place (place.OfField i j k) = spec.of_field i j k
view_input_place (place.OfInputObject i j) = spec.of_input_object i j
view_input_place (place.OfDirective i j) = spec.of_directive i j

abbrev pub view_type_place : TypePlace → spec.TypePlace
view_type_place (reference.ByName i) = spec.by_name i
view_type_place (reference.AtField i j) = spec.at_field i j
view_type_place (reference.AtInput p) = spec.at_input (view_input_place p)

abbrev pub view_handle : Handle → spec.Handle
view_handle handle.Schema = spec.schema_handle
view_handle (handle.Type p d) = spec.type_handle (view_type_place p) d
view_handle (handle.Field i j) = spec.field_handle i j
view_handle (handle.Input p) = spec.input_handle (view_input_place p)
view_handle (handle.Value i j) = spec.value_handle i j
view_handle (handle.Directive i) = spec.directive_handle i

-- a node of the root, over a schema whose types are listed so
abbrev pub view_node : {N : Type 0} → Schema → List Name → RootedNode N → rooted.RootedNode N
view_node s names node.Root = rooted.root
view_node s names (node.User n) = rooted.user n
view_node s names (node.Introspected h) = rooted.introspected (meant s names (view_handle h))

-- the users' nodes that these are, if all of them are such
abbrev pub users_in : {N : Type 0} → List (RootedNode N) → Option (List N)
users_in [] = Some []
users_in (node.User n ∷ rs) = option_map (λ ns. n ∷ ns) (users_in rs)
users_in (r ∷ rs) = None
