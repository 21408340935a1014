use Rattle.std.proofs.Common.{◌<◌, ◌≤◌, Some, None, cond, ap, sym, ◌∙◌, arith, lt-ltb, le-ltb, length}
use Rattle.std.specs.List.{position}
use Rattle.juniper_syntax.specs.FieldWords.{is_key}
use Rattle.juniper_syntax.proofs.FirstKeys.{bounded, place-first, zip-long}
use Rattle.juniper_syntax.proofs.fields.Fields.place_of.Goals as goal

pub returns-in_err-place-clause-index : goal.returns-in_err-place-clause-index
returns-in_err-place-clause-index g c =
    let ks = c.self.inside.keys.value in
    let vs = c.self.inside.values.items in
    let test = is_key c.args.key.now in
    c.from_residual.ensures ∙ ap (bounded (length vs)) (c.in_err-place.ensures.index ∙ ap (position test) c.as_ref.ensures)
    ∙ sym (place-first test ks vs c.args.self.now c.self.view_is c.self.invariant)

pub returns-then-place-len-clause-index : goal.returns-then-place-len-clause-index
returns-then-place-len-clause-index g c =
    let ks = c.self.inside.keys.value in
    let vs = c.self.inside.values.items in
    let test = is_key c.args.key.now in
    let i = c.in_ok-place.place in
    let below : i < length vs = omega (arith, c.if-place-len.true, c.len.ensures, c.self.inside.values.ok.0) in
    ap (λ b. cond b (Some i) None) (sym (lt-ltb i (length vs) below))
    ∙ ap (bounded (length vs)) (c.in_ok-place.ensures.index ∙ ap (position test) c.as_ref.ensures)
    ∙ sym (place-first test ks vs c.args.self.now c.self.view_is c.self.invariant)

pub returns-then-place-len-clause-within : goal.returns-then-place-len-clause-within
returns-then-place-len-clause-within g c =
    let ks = c.self.inside.keys.value in
    let vs = c.self.inside.values.items in
    let long = sym (zip-long ks vs c.self.invariant) ∙ ap length c.self.view_is in
    omega (arith, long, c.if-place-len.true, c.len.ensures, c.self.inside.values.ok.0)

pub returns-else-place-len-clause-index : goal.returns-else-place-len-clause-index
returns-else-place-len-clause-index g c =
    let ks = c.self.inside.keys.value in
    let vs = c.self.inside.values.items in
    let test = is_key c.args.key.now in
    let i = c.in_ok-place.place in
    let above : length vs ≤ i = omega (arith, c.if-place-len.false, c.len.ensures, c.self.inside.values.ok.0) in
    ap (λ b. cond b (Some i) None) (sym (le-ltb i (length vs) above))
    ∙ ap (bounded (length vs)) (c.in_ok-place.ensures.index ∙ ap (position test) c.as_ref.ensures)
    ∙ sym (place-first test ks vs c.args.self.now c.self.view_is c.self.invariant)
