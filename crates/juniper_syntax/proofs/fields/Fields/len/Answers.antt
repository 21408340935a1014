use Rattle.std.proofs.Common.{ap, sym, ◌∙◌, length}
use Rattle.juniper_syntax.proofs.FirstKeys.{zip-long}
use Rattle.juniper_syntax.proofs.fields.Fields.len.Goals as goal

pub returns : goal.returns
returns g c =
    let seen = zip-long c.self.inside.keys.value c.self.inside.values.items c.self.invariant in
    c.len.ensures ∙ c.self.inside.values.ok.0 ∙ sym seen ∙ ap length c.self.view_is
