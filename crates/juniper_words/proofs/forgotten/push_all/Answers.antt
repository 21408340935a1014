use Rattle.std.proofs.Common.{refl}
use Rattle.juniper_words.specs.Forgotten.{view_field_of}
use Rattle.juniper_words.proofs.PutFields.{put_all, put_next}
use Rattle.juniper_words.proofs.forgotten.push_all.Goals as goal

pub loop-field-preserved : goal.loop-field-preserved
loop-field-preserved c =
    put_next view_field_of (λ f. (c.args.type_name.now, f.0.now)) c.loop-field.fields.items c.push.new.self.items _ c.args.own.now c.loop-field.field-index _ _
    c.loop-field-test.true c.in_ok-push.ensures.items refl c.loop-field.invariant

pub returns : goal.returns
returns c =
    put_all view_field_of (λ f. (c.args.type_name.now, f.0.now)) c.loop-field.fields.items c.args.own.now c.loop-field.field-index _
    c.loop-field-test.false c.loop-field.invariant
