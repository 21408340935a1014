use Rattle.std.proofs.Common.{refl, inl}
use Rattle.juniper.specs.Answering.{request_of}
use Rattle.juniper.specs.Promised.{IsFullOutcome}
use Rattle.juniper.specs.RootView.{service_of}
use Rattle.juniper_syntax.specs.DocumentView.{view_document}
use Rattle.juniper_cache.proofs.Answering.{unspent, without-budget}
use Rattle.juniper_cache.proofs.text_cache.TextCache.answer_kept.Goals as goal

pub returns-in-Err-clause-answer : goal.returns-in-Err-clause-answer
returns-in-Err-clause-answer g c = ((inl refl, tt), tt)

pub execute_document-requires : goal.execute_document-requires
execute_document-requires g c = (c.requires.1 (view_document g.S.ScalarValue.shown c.in-Ok.document) c.in-Ok.ensures).2

pub into_error-requires : goal.into_error-requires
into_error-requires g c = unspent _ c.in-Err-execute_document.within (c.in-Err-execute_document.ensures.spent c.args.text.now c.in-Ok.ensures)

pub returns-in-Err-execute_document-clause-answer : goal.returns-in-Err-execute_document-clause-answer
returns-in-Err-execute_document-clause-answer g c =
    let shown = g.S.ScalarValue.shown in
    let S = service_of g.Q.GraphQLValue.concrete g.Q.GraphQLValue.answer g.Q.GraphQLValue.root g.M.GraphQLMutationValue.step g.M.GraphQLMutationValue.torn shown
    c.args.self.now.root.now in
    let q = request_of shown c.args.text.now c.args.operation_name c.args.variables.now in
    without-budget (λ r. IsFullOutcome S q c.args.context.now r c.execute_document.new.context) c.in-Err-execute_document.within _ c.into_error.ensures
    (c.in-Err-execute_document.ensures.answers c.args.text.now c.in-Ok.ensures)

pub returns-clause-answer : goal.returns-clause-answer
returns-clause-answer g c = c.in-Ok-execute_document.ensures.answers c.args.text.now c.in-Ok.ensures
