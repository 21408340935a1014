use Rattle.std.proofs.Common.{◌≡◌, ◌++◌, map, drop}
use Rattle.juniper_words.specs.Forgotten.{view_field_of}
use Rattle.juniper_words.proofs.forgotten.push_all.Given as goal

-- what is put in, and what is still to come
abbrev pub invariant-loop-field : goal.invariant-loop-field
invariant-loop-field l =
    map view_field_of l.fields.items ++ map (λ f. (l.type_name, f.0.now)) (drop l.field-index l.own)
    ≡ map view_field_of l.fn.fields.items ++ map (λ f. (l.type_name, f.0.now)) l.own
