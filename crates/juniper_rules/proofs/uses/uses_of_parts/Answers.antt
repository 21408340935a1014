use Rattle.std.proofs.Common.{ap}
use Rattle.std.proofs.lemmas.Result.{IfOk-weaker}
use Rattle.juniper_type_rules.specs.UsesView.{view_used}
use Rattle.juniper_written.specs.Parts.{parts_of}
use Rattle.juniper_written.specs.WrittenView.{view_names}
use Rattle.juniper_rules.specs.Listing.{definition_of}
use Rattle.juniper_rules.proofs.Listing.{written-is}
use Rattle.juniper_rules.proofs.SideBySide.{parts-are}
use Rattle.juniper_rules.proofs.uses.uses_of_parts.Goals as goal

pub returns-in-Operation : goal.returns-in-Operation
unfolding parts_of
returns-in-Operation g c = IfOk-weaker c.with_reached.result _ _ (λ us reaches s d are is own.
    let shown = g.S.ScalarValue.shown in
    parts-are s us.items d (definition_of shown c.args.listed.now) (view_used c.args.own.now) (view_names c.args.listed.now.written.spreads.items)
    (ap (λ p. p.spreads) (written-is shown c.args.listed.now is)) own (reaches s d are)) c.with_reached.ensures
