use Rattle.std.proofs.Common.{[], map}
use Rattle.juniper_syntax.specs.DocumentView.{view_definition}
use Rattle.juniper_written.proofs.Lists.{IsSeenSoFar}
use Rattle.juniper_rules.specs.Listing.{listing_of, view_listed}
use Rattle.juniper_rules.proofs.lists.listed_in.Given as goal

-- what is listed, and then what is listed of the definitions that are left
abbrev pub invariant-loop-definition : goal.invariant-loop-definition
invariant-loop-definition g l =
    let shown = g.S.ScalarValue.shown in
    IsSeenSoFar (λ x. listing_of (view_definition shown x)) l.document [] l.definition-index (map (view_listed shown) l.all.items)
