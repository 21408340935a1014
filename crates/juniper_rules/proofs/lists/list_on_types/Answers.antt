use Rattle.juniper_schema.specs.SchemaView.{view_schema}
use Rattle.juniper_rules.specs.Listing.{definition_of}
use Rattle.juniper_rules.proofs.Listing.{placed-listing-is}
use Rattle.juniper_rules.proofs.lists.list_on_types.Goals as goal

pub returns : goal.returns
returns g c is =
    let shown = g.S.ScalarValue.shown in
    placed-listing-is (view_schema shown c.args.schema.now) (definition_of shown c.args.listed.now) _ _ _ is c.in_ok-placed.ensures c.in_ok-calls.ensures
