use Rattle.graphql_spec.specs.BuiltIns.{directives}
use Rattle.juniper_meta.specs.MetaView.{view_directive}
use Rattle.juniper_intro.specs.Handles.{directive_at, no_directive}
use Rattle.juniper_intro.proofs.Looked.{looked}
use Rattle.juniper_intro.proofs.introspector.Introspector.directive.Goals as goal

pub returns : goal.returns
unfolding directive_at
returns g c =
    looked (view_directive g.S.ScalarValue.shown) c.directives.result.now c.args.self.now.absent.directive c.nth_or.result.now c.args.number no_directive
    directives c.nth_or.ensures c.directives.ensures
    c.args.self.now.absent.no_directive
