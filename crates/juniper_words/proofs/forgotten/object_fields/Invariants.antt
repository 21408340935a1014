use Rattle.std.proofs.Common.{◌≡◌, ◌++◌, map, drop}
use Rattle.juniper_words.specs.Forgotten.{object_fields, view_field_of}
use Rattle.juniper_words.proofs.forgotten.object_fields.Given as goal

-- what is put in, and what is still to come
abbrev pub invariant-loop-declared : goal.invariant-loop-declared
invariant-loop-declared l = map view_field_of l.fields.items ++ object_fields (drop l.declared-index l.types) ≡ object_fields l.types
