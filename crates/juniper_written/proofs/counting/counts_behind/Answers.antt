use Rattle.std.proofs.Common.{◌-◌, ◌^◌, option_map, ap, ◌∙◌}
use Rattle.graphql_spec.specs.Documents.{fragments}
use Rattle.juniper_syntax.specs.DocumentView.{view_fragment}
use Rattle.juniper_written.specs.Kept.{kept_at}
use Rattle.juniper_written.specs.Measures.{number}
use Rattle.juniper_written.proofs.Keeping.{weight-kept, weight-endless, weight-unknown}
use Rattle.juniper_written.proofs.counting.counts_behind.Goals as goal

pub returns-in-Some : goal.returns-in-Some
unfolding kept_at
returns-in-Some g c = λ m d are.
    weight-kept (2 ^ 64 - 1) (fragments d) (kept_at m c.args.kept.now) c.args.name.now (number m c.in-Some.counts.now)
    (ap (option_map (number m)) c.in-Some.ensures.value)

pub returns-in-Some-fragment : goal.returns-in-Some-fragment
unfolding kept_at
returns-in-Some-fragment g c = λ m d are.
    c.endless.ensures m
    ∙ weight-endless (2 ^ 64 - 1) (fragments d) (kept_at m c.args.kept.now) c.args.name.now (λ f. view_fragment g.S.ScalarValue.shown f.now)
    c.fragment.result c.in-Some-fragment.field-0 (ap (option_map (number m)) c.in-None.ensures.value) (c.fragment.ensures d are) c.in-Some-fragment.is

pub returns-in-None-fragment : goal.returns-in-None-fragment
unfolding kept_at
returns-in-None-fragment g c = λ m d are.
    c.none.ensures m
    ∙ weight-unknown (2 ^ 64 - 1) (fragments d) (kept_at m c.args.kept.now) c.args.name.now (λ f. view_fragment g.S.ScalarValue.shown f.now)
    c.fragment.result (ap (option_map (number m)) c.in-None.ensures.value) (c.fragment.ensures d are) c.in-None-fragment.is
