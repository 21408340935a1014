use Rattle.std.proofs.Common.{ap, sym, ◌∙◌}
use Rattle.std.specs.Map.{values_of}
use Rattle.juniper_syntax.proofs.FirstKeys.{first-values}
use Rattle.juniper_syntax.proofs.fields.Fields.values.Goals as goal

pub returns : goal.returns
returns g c = c.as_slice.ensures.value ∙ sym (first-values c.self.inside.keys.value c.self.inside.values.items c.self.invariant) ∙ ap values_of c.self.view_is
