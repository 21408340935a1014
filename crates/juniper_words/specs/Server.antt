-- The words of a server's definitions and clauses, from one place.
pub use Rattle.std.specs.Bool.{nat_eq}
pub use Rattle.std.specs.Fmt.{decimal}
pub use Rattle.std.specs.List.{enumerate_from, filter, position, slice_get, starts_with}
pub use Rattle.std.specs.Str.{bytes_eq}
pub use Rattle.graphql_spec.specs.Shown.{Name, Text, boolean, int, text}
pub use Rattle.graphql_spec.specs.Constants.{Constant, Members, find}
pub use Rattle.graphql_spec.specs.Inputs.{enumerated, scalar}
pub use Rattle.graphql_spec.specs.Resolvers.{Error, Reply, Tree, answered, failed, items, leaf, node, nothing}
pub use Rattle.graphql_spec.specs.Schema.{FieldDeclaration, InputDeclaration, plain_field, plain_input}
pub use Rattle.graphql_spec.specs.Types.{TypeRef}
pub use Rattle.juniper_words.specs.Data.{Declarations, declared}
pub use Rattle.juniper_conversions.specs.IdText.{id_text}
pub use Rattle.juniper_meta.specs.MetaView.{Meta, view_argument, view_field, view_meta}
pub use Rattle.juniper_registry.specs.DeclaredTypes.{enum, input_object, input_with_default, interface, list_type, object, optional, type_named, union}
pub use Rattle.juniper_values.specs.Answered.{each_reply, fails_with, int_reply, int_sum, text_reply, trees_reply}
pub use Rattle.juniper_values.specs.ResolvedView.{AllAnswer, Answers, trees_of}
pub use Rattle.juniper_types.specs.Stepping.{Leaves}
pub use Rattle.juniper_values.specs.ArgumentView.{view_arguments}
pub use Rattle.juniper_values.specs.ArgumentsRead.{Reads, enum_argument, int_argument, with_read}
pub use Rattle.juniper_words.specs.InputsRead.{ReadsAs, argument, bool_argument, given, id_argument, input_field, input_field_or, named_among}
pub use Rattle.juniper_words.specs.InputsRead.{read_bool, read_enum, read_id, read_int, read_list, read_option, read_text}
pub use Rattle.juniper_words.specs.InputsRead.{text_argument, then_read, with_step}
pub use Rattle.juniper_words.specs.Nodes.{nodes_at, nodes_reply, nodes_where, object_or_null}
pub use Rattle.juniper_words.specs.Replies.{boolean_reply, count_reply, error_with_code, fails_with_code, found_or, found_or_code, text_or_null, value_reply}
pub use Rattle.juniper_words.specs.Forgotten.{is_answered, object_fields, unanswered_reply, view_field_of}
