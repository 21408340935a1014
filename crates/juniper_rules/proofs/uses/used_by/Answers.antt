use Rattle.std.proofs.Common.{ap, ◌∙◌}
use Rattle.std.proofs.lemmas.Result.{IfOk-weaker}
use Rattle.juniper_type_rules.specs.CallView.{view_calls}
use Rattle.juniper_schema.specs.SchemaView.{view_schema}
use Rattle.juniper_rules.proofs.Listing.{arguments-are, calls-are, listed-is}
use Rattle.juniper_rules.proofs.uses.used_by.Goals as goal

pub returns : goal.returns
returns g c = IfOk-weaker c.used_in.result _ _ (λ u uses is.
    let shown = g.S.ScalarValue.shown in
    let s = view_schema shown c.args.schema.now in
    uses (arguments-are shown c.args.on_types.now.listed.now (listed-is shown s c.args.on_types.now is))
    (ap (view_calls shown) c.deref.ensures.value ∙ calls-are shown s c.args.on_types.now is)) c.used_in.ensures
