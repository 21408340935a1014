use Rattle.juniper_syntax.proofs.Lists.{seen-push}
use Rattle.juniper_written.specs.WrittenView.{view_spread_at, view_written}
use Rattle.juniper_written.proofs.Joining.{adds-spread-head}
use Rattle.juniper_written.proofs.written.write_spread.Goals as goal

pub returns : goal.returns
returns g c =
    let shown = g.S.ScalarValue.shown in
    adds-spread-head (view_written shown c.args.written.now) (view_spread_at shown c.args.spread.now) _ _
    (seen-push (λ n. n.now) c.args.written.now.spreads.items c.push.new.self.items c.args.spread.now.item.name.item c.in_ok-push.ensures.items)
    c.in_ok-write_directives.ensures
