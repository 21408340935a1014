-- How the code's references to types are seen (4.2.2).
use Rattle.std.specs.Prelude.{true, false, Option, Some, None, codes}
use Rattle.graphql_spec.specs.Shown.{Name}
use Rattle.graphql_spec.specs.Types.{TypeRef, named, list_of, nullable}
use Rattle.juniper_meta.specs.MetaView.{view_type}
use Rattle.juniper_intro.specs.declared.reference.Reference.{Reference}
use Rattle.juniper_intro.specs.declared.reference.Reference.TheVariants as code

-- ## Only private clauses cite what follows

abbrev pub view_reference : Reference → TypeRef
view_reference (code.Named n) = named false n.now
view_reference (code.Written t) = view_type t.now
view_reference (code.Nullable t) = nullable (view_type t.now)

-- the kind of a non-null type or a list
unfoldable pub wrapper_kind : TypeRef → Option Name
wrapper_kind (named false n) = None
wrapper_kind (named true n) = Some (codes "NON_NULL")
wrapper_kind (list_of true size t) = Some (codes "NON_NULL")
wrapper_kind (list_of false size t) = Some (codes "LIST")
