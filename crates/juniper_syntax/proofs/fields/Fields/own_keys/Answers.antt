use Rattle.std.proofs.Common.{ap, ap₂, sym, subst, ◌∙◌, length, take}
use Rattle.std.specs.List.{IsDistinct}
use Rattle.std.specs.Map.{keys_of}
use Rattle.std.specs.String.{string_eq}
use Rattle.juniper_syntax.proofs.FirstKeys.{first-keys}
use Rattle.indexmap.proofs.MapLemmas.{distinct-take}
use Rattle.juniper_syntax.proofs.Indexes.{keys_equiv}
use Rattle.juniper_syntax.proofs.fields.Fields.own_keys.Goals as goal

pub returns-clause-keys : goal.returns-clause-keys
returns-clause-keys g c =
    let ks = c.self.inside.keys.value in
    let vs = c.self.inside.values.items in
    ap₂ take (c.len.ensures ∙ c.self.inside.values.ok.0) (c.as_slice.ensures.keys ∙ c.as_ref.ensures) ∙ sym (first-keys ks vs c.self.invariant)
    ∙ ap keys_of c.self.view_is

pub returns-clause-unique : goal.returns-clause-unique
returns-clause-unique g c =
    let ks = c.self.inside.keys.value in
    let vs = c.self.inside.values.items in
    let distinct = subst (IsDistinct string_eq) c.as_ref.ensures c.as_slice.ensures.unique in
    subst (IsDistinct string_eq) (sym (first-keys ks vs c.self.invariant) ∙ ap keys_of c.self.view_is) (distinct-take keys_equiv (length vs) ks distinct)
