use Rattle.std.proofs.Common.{ap, ap₂, sym, ◌∙◌, length, zip}
use Rattle.std.specs.Map.{keys_of}
use Rattle.juniper_syntax.proofs.FirstKeys.{first-keys, first-long, first-zip}
use Rattle.juniper_syntax.proofs.fields.Fields.iter.Goals as goal

pub returns : goal.returns
returns g c =
    let ks = c.self.inside.keys.value in
    let vs = c.self.inside.values.items in
    let keys = c.own_keys.ensures.keys ∙ ap keys_of (sym c.self.view_is) ∙ first-keys ks vs c.self.invariant in
    c.new.ensures ∙ ap₂ zip keys c.as_slice.ensures.value ∙ first-zip ks vs ∙ c.self.view_is

pub new-requires : goal.new-requires
new-requires g c =
    let ks = c.self.inside.keys.value in
    let vs = c.self.inside.values.items in
    let keys = c.own_keys.ensures.keys ∙ ap keys_of (sym c.self.view_is) ∙ first-keys ks vs c.self.invariant in
    ap length c.as_slice.ensures.value ∙ first-long ks vs c.self.invariant ∙ ap length (sym keys)
