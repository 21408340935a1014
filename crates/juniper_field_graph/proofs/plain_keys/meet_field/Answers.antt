use Rattle.std.proofs.Common.{sym, ◌∙◌}
use Rattle.juniper_schema.specs.SchemaView.{view_schema}
use Rattle.juniper_field_graph.proofs.MetTables.{met-again, met-first}
use Rattle.juniper_field_graph.proofs.plain_keys.meet_field.Goals as goal

pub returns-in-Some : goal.returns-in-Some
returns-in-Some g c = λ like.
    met-again g.S.ScalarValue.shown (view_schema g.S.ScalarValue.shown c.args.schema.now) c.args.met.now c.insert.new.self
    (record { parent = c.args.parent; field = c.args.field }) c.response_key.result.now c.name_number-number.result c.response_key.ensures
    c.name_number-number.ensures c.in_ok-earlier.ensures.updates c.in-Some.earlier (sym c.in_ok-earlier.ensures.old ∙ c.in-Some.is) (c.is_like.ensures like)

pub returns-in-None : goal.returns-in-None
returns-in-None g c = λ like.
    met-first g.S.ScalarValue.shown (view_schema g.S.ScalarValue.shown c.args.schema.now) c.args.met.now c.insert.new.self
    (record { parent = c.args.parent; field = c.args.field }) c.response_key.result.now c.name_number-number.result c.response_key.ensures
    c.name_number-number.ensures c.in_ok-earlier.ensures.updates (sym c.in_ok-earlier.ensures.old ∙ c.in-None.is)
