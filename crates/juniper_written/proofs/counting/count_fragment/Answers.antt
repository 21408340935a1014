use Rattle.std.proofs.Common.{◌-◌, ◌^◌, Some, cond, min, ap, ◌∙◌}
use Rattle.std.specs.Str.{bytes_eq}
use Rattle.graphql_spec.specs.Documents.{fragments}
use Rattle.juniper_syntax.specs.DocumentView.{view_selections}
use Rattle.juniper_written.specs.Kept.{kept_at, number_by, weight_at}
use Rattle.juniper_written.proofs.Keeping.{kept-next}
use Rattle.juniper_written.proofs.Measuring.{cut-once, put-cut}
use Rattle.juniper_written.proofs.counting.count_fragment.Goals as goal

pub returns : goal.returns
returns g c = λ m d are k.
    let most = 2 ^ 64 - 1 in
    let at = weight_at most (fragments d) (kept_at m c.args.kept.now) in
    let name = c.args.fragment.now.item.name.item.now in
    let held = number_by m at (view_selections g.S.ScalarValue.shown c.args.fragment.now.item.selection_set.items) in
    let is = c.counts_of-held.ensures m d are ∙ ap (λ l. min most (number_by m at (view_selections g.S.ScalarValue.shown l))) c.as_slice.ensures.value in
    kept-next m c.args.kept.now c.insert.new.self name c.of_fragment.result c.in_ok-insert.ensures.updates.0 k
    ∙ ap (λ v. cond (bytes_eq name k) (Some v) (kept_at m c.args.kept.now k))
    (c.of_fragment.ensures m ∙ put-cut m most _ held (ap (min most) is ∙ cut-once most held))
