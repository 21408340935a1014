use Rattle.std.proofs.Common.{refl, sym}
use Rattle.juniper_schema.specs.SchemaView.{view_schema}
use Rattle.juniper_rules.proofs.Listing.{written-is}
use Rattle.juniper_rules.specs.Listing.{definition_of}
use Rattle.juniper_rules.proofs.uses.uses_inside.Goals as goal

pub returns-then-has_none_beside-clause-undefined : goal.returns-then-has_none_beside-clause-undefined
returns-then-has_none_beside-clause-undefined g c d uses is own =
    let shown = g.S.ScalarValue.shown in
    sym (c.if-has_none_beside.ensures refl (view_schema shown c.args.given.now.schema.now) d (definition_of shown c.args.listed.now) uses own).0

pub returns-then-has_none_beside-clause-misused : goal.returns-then-has_none_beside-clause-misused
returns-then-has_none_beside-clause-misused g c d uses is own =
    let shown = g.S.ScalarValue.shown in
    sym (c.if-has_none_beside.ensures refl (view_schema shown c.args.given.now.schema.now) d (definition_of shown c.args.listed.now) uses own).1

pub returns-then-has_none_beside-clause-schema : goal.returns-then-has_none_beside-clause-schema
returns-then-has_none_beside-clause-schema g c is = c.looks_at_schema-looks_at_schema.ensures (written-is g.S.ScalarValue.shown c.args.listed.now is)

pub returns-clause-undefined : goal.returns-clause-undefined
returns-clause-undefined g c d uses is own =
    c.in_ok-undefined.ensures d (c.in_ok-parts.ensures (view_schema g.S.ScalarValue.shown c.args.given.now.schema.now) d uses is own)

pub returns-clause-misused : goal.returns-clause-misused
returns-clause-misused g c d uses is own =
    c.in_ok-misused.ensures d (c.in_ok-parts.ensures (view_schema g.S.ScalarValue.shown c.args.given.now.schema.now) d uses is own)

pub returns-clause-schema : goal.returns-clause-schema
returns-clause-schema g c is = c.looks_at_schema-looks_at_schema.ensures (written-is g.S.ScalarValue.shown c.args.listed.now is)
