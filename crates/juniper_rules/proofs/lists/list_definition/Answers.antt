use Rattle.juniper_syntax.specs.DocumentView.{view_definition}
use Rattle.juniper_rules.proofs.Listing.{listing-is}
use Rattle.juniper_rules.proofs.lists.list_definition.Goals as goal

pub returns : goal.returns
returns g c = listing-is (view_definition g.S.ScalarValue.shown c.args.definition.now) _ _ c.in_ok-written.ensures c.in_ok-arguments.ensures
