use Rattle.std.proofs.Common.{◌≡◌, ◌≤◌, ap, sym, subst, ◌∙◌, arith, length, take, string_bytes}
use Rattle.juniper_syntax.specs.FieldWords.{texts}
use Rattle.std.proofs.lemmas.List.{length-map, take_all, take-map}
use Rattle.std.proofs.Common.{IfOk}
use Rattle.juniper_syntax.specs.FieldWords.{IsKeyAdded}
use Rattle.juniper_syntax.proofs.FirstKeys.{same-texts}
use Rattle.juniper_syntax.proofs.fields.add_key.Goals.{then-as_slice-count+in_default, else-as_slice-count}
use Rattle.juniper_syntax.proofs.fields.add_key.Goals as goal

pub returns-in-Some-clause-added : goal.returns-in-Some-clause-added
returns-in-Some-clause-added c =
    let n = c.args.count in
    let ks = c.args.keys.now.value in
    let key = string_bytes c.args.key in
    let names = ap length (c.as_slice.ensures.keys ∙ c.as_ref.ensures) in
    let long : length (texts ks) ≤ n = omega (arith, c.if-as_slice-count.true, names, length-map ks string_bytes) in
    subst (λ ts. IfOk c.insert_full.result (λ r. IsKeyAdded key ts (texts c.insert_full.new.self) r))
    (ap texts c.in-Some.ensures.value ∙ sym (take_all n (texts ks) long))
    c.insert_full.ensures.added

pub returns-clause-added : goal.returns-clause-added
returns-clause-added c =
    let n = c.args.count in
    let ks = c.args.keys.now.value in
    let key = string_bytes c.args.key in
    let same : c.if-as_slice-count.keys.value ≡ ks = elim c.if-as_slice-count.branch [
      | then-as_slice-count+in_default w ↦ ap (λ rc. rc.value) w.keys-is
      | else-as_slice-count w ↦ ap (λ rc. rc.value) w.keys-is
    ] in
    let left = c.as_ref-2.ensures ∙ same in
    let old = same-texts (take n c.as_ref-2.result.now) c.in_ok-own.own c.in_ok-own.ensures ∙ sym (take-map string_bytes n c.as_ref-2.result.now)
    ∙ ap (λ l. take n (texts l)) left in
    subst (λ ls. IsKeyAdded key (take n (texts ks)) (texts ls) c.in_ok-added.added) (sym c.in_ok-keys.ensures.ok)
    (subst (λ ts. IsKeyAdded key ts (texts c.insert_full-2.new.self) c.in_ok-added.added) old c.in_ok-added.ensures.added)
