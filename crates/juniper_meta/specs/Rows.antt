-- What every schema has, as rows of tables: the types of introspection (4.2) and the directives (3.13).
use Rattle.std.specs.Prelude.{[], ◌∷◌, map}
use Rattle.graphql_spec.specs.BuiltIns.{maybe, must, maybe_all, must_all, field_without, include_deprecated, old_flag, object_entry, enum_entry, String'}
use Rattle.graphql_spec.specs.Inputs.{scalar}
use Rattle.graphql_spec.specs.Schema.{Entry, FieldDeclaration, InputDeclaration, DirectiveDeclaration, plain_field, plain_input}
use Rattle.graphql_spec.specs.Shown.{text}
use Rattle.juniper_meta.specs.MetaView.{view_location, with_default}
use Rattle.juniper_meta.specs.declared.built_in_directives.ArgumentRow.{ArgumentRow}
use Rattle.juniper_meta.specs.declared.built_in_directives.ArgumentRow.TheVariants as arguments
use Rattle.juniper_meta.specs.declared.built_in_directives.DirectiveRow.{DirectiveRow}
use Rattle.juniper_meta.specs.declared.fields.FieldRow.{FieldRow}
use Rattle.juniper_meta.specs.declared.fields.FieldRow.TheVariants as fields
use Rattle.juniper_meta.specs.declared.introspection.TypeRow.{TypeRow}
use Rattle.juniper_meta.specs.declared.introspection.TypeRow.TheVariants as types

-- the field that a row says
abbrev pub row_field : FieldRow → FieldDeclaration
row_field (fields.Maybe n t) = field_without n.now (maybe t.now)
row_field (fields.Must n t) = field_without n.now (must t.now)
row_field (fields.MaybeAll n t) = field_without n.now (maybe_all t.now)
row_field (fields.MustAll n t) = field_without n.now (must_all t.now)
row_field (fields.MaybeDeprecated n t) = plain_field n.now include_deprecated (maybe_all t.now)
row_field (fields.OldFlag n) = old_flag n.now

-- the type that a row says
abbrev pub row_type : TypeRow → Entry
row_type (types.Object n fs) = object_entry n.now (map row_field fs.now)
row_type (types.Enum n vs) = enum_entry n.now (map (λ v. v.now) vs.now)

-- the argument that a row says
abbrev pub row_argument : ArgumentRow → InputDeclaration
row_argument (arguments.Must n t) = plain_input n.now (must t.now)
row_argument (arguments.Text n v) = with_default (plain_input n.now (maybe String')) (scalar (text v.now))

-- the directive that a row says
unfoldable pub row_directive : DirectiveRow → DirectiveDeclaration
row_directive d = record { name = d.name.now; locations = map view_location d.locations.now; arguments = row_argument d.argument ∷ [] }
