use Rattle.std.proofs.Common.{◌≡◌, ap, ap₂, sym, ◌∙◌, length, take, zip}
use Rattle.std.specs.Map.{keys_of}
use Rattle.std.specs.String.{string_eq}
use Rattle.juniper_syntax.specs.FieldWords.{fields_eq}
use Rattle.std.proofs.Common.{◌&&◌}
use Rattle.std.specs.Cmp.Lexicographic.{pointwise}
use Rattle.indexmap.proofs.ReorderLemmas.{pointwise-zip}
use Rattle.juniper_syntax.proofs.FirstKeys.{first-zip, first-long, first-keys}
use Rattle.juniper_syntax.proofs.fields.FieldsPartialEq.eq.Goals as goal

pub returns-then-eq : goal.returns-then-eq
returns-then-eq g c =
    let vs = c.self.inside.values.items in
    let ws = c.other.inside.values.items in
    let ks = take (length vs) c.self.inside.keys.value in
    let ls = take (length ws) c.other.inside.keys.value in
    let E = g.V.PartialEq.eq in
    let one : zip ks vs ≡ c.args.self.now = first-zip c.self.inside.keys.value vs ∙ c.self.view_is in
    let two : zip ls ws ≡ c.args.other.now = first-zip c.other.inside.keys.value ws ∙ c.other.view_is in
    let left : c.own_keys.result.now ≡ ks
    = c.own_keys.ensures.keys ∙ ap keys_of (sym c.self.view_is) ∙ first-keys c.self.inside.keys.value vs c.self.invariant in
    let right : c.own_keys-2.result.now ≡ ls
    = c.own_keys-2.ensures.keys ∙ ap keys_of (sym c.other.view_is) ∙ first-keys c.other.inside.keys.value ws c.other.invariant in
    let each = pointwise-zip string_eq E ks ls vs ws (sym (first-long c.self.inside.keys.value vs c.self.invariant))
    (sym (first-long c.other.inside.keys.value ws c.other.invariant)) in
    let keys = ap₂ (pointwise string_eq) (sym left) (sym right) ∙ sym c.eq.ensures ∙ c.if-eq.true in
    c.eq-then-eq.ensures ∙ ap₂ (pointwise E) c.as_slice.ensures.value c.as_slice-then-eq.ensures.value ∙ sym (ap (λ b. b && pointwise E vs ws) keys)
    ∙ sym each ∙ ap₂ (fields_eq E) one two

pub returns-else-eq : goal.returns-else-eq
returns-else-eq g c =
    let vs = c.self.inside.values.items in
    let ws = c.other.inside.values.items in
    let ks = take (length vs) c.self.inside.keys.value in
    let ls = take (length ws) c.other.inside.keys.value in
    let E = g.V.PartialEq.eq in
    let one : zip ks vs ≡ c.args.self.now = first-zip c.self.inside.keys.value vs ∙ c.self.view_is in
    let two : zip ls ws ≡ c.args.other.now = first-zip c.other.inside.keys.value ws ∙ c.other.view_is in
    let left : c.own_keys.result.now ≡ ks
    = c.own_keys.ensures.keys ∙ ap keys_of (sym c.self.view_is) ∙ first-keys c.self.inside.keys.value vs c.self.invariant in
    let right : c.own_keys-2.result.now ≡ ls
    = c.own_keys-2.ensures.keys ∙ ap keys_of (sym c.other.view_is) ∙ first-keys c.other.inside.keys.value ws c.other.invariant in
    let each = pointwise-zip string_eq E ks ls vs ws (sym (first-long c.self.inside.keys.value vs c.self.invariant))
    (sym (first-long c.other.inside.keys.value ws c.other.invariant)) in
    let keys = ap₂ (pointwise string_eq) (sym left) (sym right) ∙ sym c.eq.ensures ∙ c.if-eq.false in
    c.if-eq.false ∙ sym (ap (λ b. b && pointwise E vs ws) keys) ∙ sym each ∙ ap₂ (fields_eq E) one two
