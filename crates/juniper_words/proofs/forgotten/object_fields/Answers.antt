use Rattle.std.proofs.Common.{map, ap, ◌++◌, ◌∙◌}
use Rattle.juniper_words.specs.Forgotten.{fields_in, view_field_of}
use Rattle.juniper_words.proofs.PutFields.{type_put, types_put}
use Rattle.juniper_words.proofs.forgotten.object_fields.Goals as goal

pub loop-declared-preserved : goal.loop-declared-preserved
loop-declared-preserved c =
    type_put c.args.types.now c.loop-declared.declared-index c.declared-item.result (map view_field_of c.loop-declared.fields.items)
    (map view_field_of c.push_fields.new.fields.items) _ c.loop-declared-test.true
    (c.in_ok-push_fields.ensures ∙ ap (λ d. map view_field_of c.loop-declared.fields.items ++ fields_in d) c.declared-item.is) c.loop-declared.invariant

pub returns : goal.returns
returns c =
    types_put c.args.types.now c.loop-declared.declared-index (map view_field_of c.loop-declared.fields.items) _
    c.loop-declared-test.false c.loop-declared.invariant
