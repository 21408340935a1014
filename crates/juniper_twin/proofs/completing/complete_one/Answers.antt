use Rattle.std.proofs.Common.{◌++◌, map, sym, ap, ◌∙◌}
use Rattle.std.proofs.lemmas.List.{map-append}
use Rattle.graphql_spec.specs.ExactAnswers.{whole}
use Rattle.juniper_assemble.specs.SpotView.{view_nodes}
use Rattle.juniper_lookahead.specs.Collected.{view_collected}
use Rattle.graphql_spec.specs.Skeletons.{listed_spots}
use Rattle.juniper_conversions.specs.ErrorView.{view_listed}
use Rattle.juniper_syntax.specs.ValueView.{view_value}
use Rattle.juniper_walk.specs.Completing.{view_errors}
use Rattle.juniper_twin.proofs.Occurrences.{one-at}
use Rattle.juniper_walk.proofs.Preparation.{listed-same, same-head}
use Rattle.juniper_twin.proofs.NodeSlices.{nodes-at}
use Rattle.juniper_twin.proofs.completing.complete_one.Goals as goal

pub returns : goal.returns
returns g c =
    let shown = g.S.ScalarValue.shown in
    let W = g.R.Completer.world c.args.walk.now.collector.possible in
    let o = view_collected shown c.args.walk.now.collector c.args.field.now in
    let head = same-head shown c.args.walk.now.collector c.args.field.now in
    let nodes = nodes-at W _ _ _ _ _ (ap view_nodes c.deref-2.ensures.value) c.in_ok-walked.ensures in
    let own = c.in_ok-errors.ensures ∙ (listed-same _ _ _ (ap (λ h. h.span.start) (sym head))
    ∙ ap (λ es. listed_spots whole o.head.span.start (view_errors shown es)) c.deref.ensures.value) in
    let listed = ap (map (view_listed shown)) c.in_ok-append.ensures.items
    ∙ (map-append (view_listed shown) c.in_ok-errors.errors.items c.in_ok-walked.walked.errors.items
    ∙ ap (λ es. es ++ map (view_listed shown) c.in_ok-walked.walked.errors.items) own) in
    one-at W _ _ _ o _ _ _ _ _ _ _ nodes c.in_ok-skeleton.ensures (ap (map (view_value shown)) c.into_iter-values.ensures.rest) c.in_ok-value.ensures listed
