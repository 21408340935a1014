use Rattle.std.proofs.Common.{ap, sym, ◌∙◌, take, string_bytes}
use Rattle.juniper_syntax.specs.FieldWords.{texts}
use Rattle.std.proofs.lemmas.List.{take-map}
use Rattle.juniper_syntax.proofs.FirstKeys.{same-texts}
use Rattle.juniper_syntax.proofs.fields.into_first.Goals as goal

pub returns-in-Ok : goal.returns-in-Ok
returns-in-Ok c =
    let n = c.args.count in
    ap texts c.truncate.ensures.items ∙ sym (take-map string_bytes n c.into_names-made.result.items)
    ∙ ap (λ ks. take n (texts ks)) (c.into_names-made.ensures ∙ c.in-Ok.ensures.ok)

pub returns-in_ok-first-in-Err : goal.returns-in_ok-first-in-Err
returns-in_ok-first-in-Err c =
    let n = c.args.count in
    let ks = c.as_ref.result.now in
    ap texts c.into_names.ensures ∙ same-texts (take n ks) c.in_ok-first-in-Err.field-0 c.in_ok-first-in-Err.ensures ∙ sym (take-map string_bytes n ks)
    ∙ ap (λ ls. take n (texts ls)) (c.as_ref.ensures ∙ ap (λ rc. rc.value) c.in-Err.ensures.err)
