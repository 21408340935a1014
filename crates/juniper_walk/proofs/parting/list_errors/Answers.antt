use Rattle.std.proofs.Common.{map, ap, ◌∙◌}
use Rattle.juniper_conversions.specs.ErrorView.{view_error}
use Rattle.juniper_conversions.specs.PathView.{path_place}
use Rattle.juniper_conversions.specs.SegmentView.{view_part}
use Rattle.juniper_syntax.specs.Positions.{view_position}
use Rattle.juniper_walk.proofs.Replies.{listed-more}
use Rattle.juniper_walk.proofs.parting.list_errors.Goals as goal

pub loop-error-preserved : goal.loop-error-preserved
loop-error-preserved g c =
    let shown = g.S.ScalarValue.shown in
    let start = view_position c.args.start in
    let x = c.error-item.result in
    let path = ap (map view_part) c.deref.ensures.value ∙ (c.in_ok-parts.ensures ∙ ap path_place c.as_ref.ensures) in
    listed-more shown start c.args.errors.now c.loop-error.error-index x c.loop-error.made.items c.push.new.self.items c.in_ok-listed.listed
    c.loop-error-test.true c.error-item.is
    (c.in_ok-listed.ensures ∙ (ap (λ p. record { path = p; start = start; error = view_error shown c.in_ok-copy.copy }) path
    ∙ ap (λ e. record { path = path_place x.path.value; start = start; error = e }) c.in_ok-copy.ensures))
    c.in_ok-push.ensures.items c.loop-error.invariant
