use Rattle.std.proofs.Common.{map, subst, inl, inr}
use Rattle.juniper.specs.RequestErrors.{view_request_error}
use Rattle.juniper_json.specs.Refusals.{refusals_of}
use Rattle.juniper_json.specs.RefusalText.{explained_text, view_refusal}
use Rattle.juniper_endpoint.specs.Lines.{IsTold, refused_outcome}
use Rattle.juniper_endpoint.proofs.values.misfit_reply.Goals as goal

pub returns-in-Err : goal.returns-in-Err
returns-in-Err c = inr c.without_memory.ensures

pub returns-in-Ok : goal.returns-in-Ok
returns-in-Ok c =
    let e = view_request_error c.args.error.now in
    let reply = c.explained_reply.result in
    let told = subst (λ xs. IsTold (refused_outcome e) (explained_text (refusals_of e) (map view_refusal xs)) reply) c.as_slice.ensures.value
    c.explained_reply.ensures in
    inl (map view_refusal c.in-Ok.misfits.items, c.in-Ok.ensures, told)
