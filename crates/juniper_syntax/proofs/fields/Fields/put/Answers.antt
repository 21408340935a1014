use Rattle.std.proofs.Common.{ap, ap₂, sym, subst, ◌∙◌, arith, length, zip}
use Rattle.std.specs.List.{IsDistinct}
use Rattle.std.specs.String.{string_eq}
use Rattle.std.specs.Str.{bytes_eq}
use Rattle.juniper_syntax.specs.FieldWords.{said}
use Rattle.std.proofs.lemmas.List.{length_push}
use Rattle.juniper_syntax.specs.Indexes.{stands_at}
use Rattle.indexmap.specs.IndexMap.{insert_entry}
use Rattle.juniper_syntax.proofs.FirstKeys.{said-next, stands-within}
use Rattle.juniper_syntax.proofs.fields.Fields.put.Goals as goal

pub returns-then-is_at-clause-ok : goal.returns-then-is_at-clause-ok
returns-then-is_at-clause-ok g c =
    let ks = c.self.inside.keys.value in
    let vs = c.self.inside.values.items in
    let key = c.args.key.now in
    let names = c.as_slice.ensures.keys ∙ c.as_ref.ensures in
    let stands = ap₂ (λ ns n. stands_at ns n key) (sym names) (sym (c.len.ensures ∙ c.self.inside.values.ok.0)) ∙ sym c.is_at.ensures ∙ c.if-is_at.true in
    let distinct = subst (IsDistinct string_eq) c.as_ref.ensures c.as_slice.ensures.unique in
    ap (λ xs. said (zip ks xs)) c.in_ok-push.ensures.items ∙ said-next ks vs key c.args.value stands distinct
    ∙ ap (λ es. insert_entry bytes_eq (said es) key c.args.value) c.self.view_is

pub invariant_of-self-then-is_at : goal.invariant_of-self-then-is_at
invariant_of-self-then-is_at g c =
    let ks = c.self.inside.keys.value in
    let vs = c.self.inside.values.items in
    let key = c.args.key.now in
    let names = c.as_slice.ensures.keys ∙ c.as_ref.ensures in
    let stands = ap₂ (λ ns n. stands_at ns n key) (sym names) (sym (c.len.ensures ∙ c.self.inside.values.ok.0)) ∙ sym c.is_at.ensures ∙ c.if-is_at.true in
    let below = stands-within ks (length vs) key stands in
    omega (arith, below, ap length c.in_ok-push.ensures.items, length_push vs c.args.value)
