use Rattle.juniper_syntax.proofs.Lists.{seen-push}
use Rattle.juniper_syntax.specs.DocumentView.{view_field}
use Rattle.juniper_written.specs.WrittenView.{view_written}
use Rattle.juniper_written.proofs.Joining.{adds-head}
use Rattle.juniper_written.proofs.written.write_field.Goals as goal

pub returns : goal.returns
returns g c =
    let shown = g.S.ScalarValue.shown in
    adds-head (view_written shown c.args.written.now) (view_field shown c.args.field.now) _ _
    (seen-push (λ f. view_field shown f.now) c.args.written.now.fields.items c.push.new.self.items c.args.field c.in_ok-push.ensures.items)
    c.in_ok-write_directives.ensures
