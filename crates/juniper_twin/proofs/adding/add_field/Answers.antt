use Rattle.std.proofs.Common.{map, ap, ◌∙◌}
use Rattle.juniper_syntax.specs.ValueView.{view_value}
use Rattle.juniper_conversions.specs.ErrorView.{view_listed}
use Rattle.juniper_twin.proofs.Additions.{added-kept, added-rising, appended, settled-at, value-keyed}
use Rattle.juniper_twin.proofs.adding.add_field.Goals as goal

pub settle-requires : goal.settle-requires
settle-requires g c =
    let shown = g.S.ScalarValue.shown in
    record {
      first = c.requires.entries;
      second = value-keyed _ _ _ _ _ c.requires.walked
          (ap (map (view_value shown)) c.into_iter-values.ensures.rest) c.in_ok-value.ensures;
    }

pub returns-then-rises : goal.returns-then-rises
returns-then-rises g c =
    let shown = g.S.ScalarValue.shown in
    added-rising _ _ _ _ _ _ _ _ _ _ _ (ap (map (view_value shown)) c.into_iter-values.ensures.rest) c.in_ok-value.ensures
    (appended (view_listed shown) c.args.errors.now.items c.append.new.self.items c.append-2.new.self.items c.args.prepared.errors.items
    c.args.walked.errors.items c.in_ok-append.ensures.items c.in_ok-append-2.ensures.items)
    c.does_rise-rises.result c.does_rise-rises.ensures c.if-rises.true

pub returns : goal.returns
returns g c =
    let shown = g.S.ScalarValue.shown in
    let key = c.in_ok-key.ensures.ok ∙ c.response_key.ensures in
    added-kept _ _ _ _ _ _ _ _ _ _ _ (ap (map (view_value shown)) c.into_iter-values.ensures.rest) c.in_ok-value.ensures
    (appended (view_listed shown) c.args.errors.now.items c.append.new.self.items c.append-2.new.self.items c.args.prepared.errors.items
    c.args.walked.errors.items c.in_ok-append.ensures.items c.in_ok-append-2.ensures.items)
    c.does_rise-rises.result _ c.does_rise-rises.ensures c.if-rises.false (settled-at _ _ _ _ _ key c.in_ok-settle.ensures)
