use Rattle.std.proofs.Common.{Ok, Err, Some, refl, inl, inr}
use Rattle.graphql_spec.specs.Introspection.{rooted_service}
use Rattle.graphql_spec.specs.Outcomes.{Reads}
use Rattle.juniper.specs.Answering.{AnswersAs, request_of}
use Rattle.juniper.specs.PreparedView.{document_of, root_of, source_of}
use Rattle.juniper.specs.Promised.{IsFullOutcome}
use Rattle.juniper.specs.RootView.{service_of}
use Rattle.juniper_intro.specs.RootView.{is_disabled, schema_of}
use Rattle.juniper_schema.specs.SchemaView.{view_schema}
use Rattle.juniper_cache.proofs.Answering.{accepted-admits, objection-told, told-of}
use Rattle.juniper_cache.proofs.text_cache.TextCache.answer_anew.Goals as goal

pub returns-in-Err-clause-answer : goal.returns-in-Err-clause-answer
unfolding rooted_service
returns-in-Err-clause-answer g c =
    let q = g.Q.GraphQLValue in
    let m = g.M.GraphQLMutationValue in
    let shown = g.S.ScalarValue.shown in
    let self = c.args.self.now in
    objection-told (service_of q.concrete q.answer q.root m.step m.torn shown self.root.now) self.bounds shown
    (request_of shown c.args.text.now c.args.operation_name c.args.variables.now) c.args.context.now c.in-Err.objection c.in-Err.ensures

pub keep-requires : goal.keep-requires
keep-requires g c =
    let shown = g.S.ScalarValue.shown in
    let self = c.args.self.now in
    accepted-admits self.bounds c.args.text.now (view_schema shown (schema_of self.root.now)) (is_disabled self.root.now)
    (document_of shown c.in-Ok.prepared) c.in-Ok.ensures.2

pub returns-in-Err-keep-clause-answer : goal.returns-in-Err-keep-clause-answer
returns-in-Err-keep-clause-answer g c = ((inl refl, tt), tt)

pub returns-in-Err-execute_prepared-clause-texts : goal.returns-in-Err-execute_prepared-clause-texts
returns-in-Err-execute_prepared-clause-texts g c =
    let shown = g.S.ScalarValue.shown in
    let self = c.args.self.now in
    inr (
      c.in-Ok-keep.ensures.ok,
      accepted-admits self.bounds c.args.text.now (view_schema shown (schema_of self.root.now)) (is_disabled self.root.now)
          (document_of shown c.in-Ok.prepared) c.in-Ok.ensures.2,
    )

pub returns-in-Err-execute_prepared-clause-answer : goal.returns-in-Err-execute_prepared-clause-answer
returns-in-Err-execute_prepared-clause-answer g c =
    let q = g.Q.GraphQLValue in
    let m = g.M.GraphQLMutationValue in
    let shown = g.S.ScalarValue.shown in
    let p = c.in-Ok.prepared in
    let fits = c.in-Ok.ensures in
    told-of (λ r u. AnswersAs shown (λ x. IsFullOutcome (service_of q.concrete q.answer q.root m.step m.torn shown r)
    (request_of shown u c.args.operation_name c.args.variables.now) c.args.context.now x c.execute_prepared.new.context) (Err c.in-Err-execute_prepared.error))
    (λ r u. Reads u (Some (document_of shown p))) c.args.self.now.root.now (root_of p) c.args.text.now (source_of p) fits.0 fits.1 fits.2.0.0.1
    c.in-Err-execute_prepared.ensures

pub returns-clause-answer : goal.returns-clause-answer
unfolding rooted_service
returns-clause-answer g c =
    let q = g.Q.GraphQLValue in
    let m = g.M.GraphQLMutationValue in
    let shown = g.S.ScalarValue.shown in
    let p = c.in-Ok.prepared in
    let fits = c.in-Ok.ensures in (
      (document_of shown p, fits.2),
      told-of (λ r u. AnswersAs shown (λ x. IsFullOutcome (service_of q.concrete q.answer q.root m.step m.torn shown r)
          (request_of shown u c.args.operation_name c.args.variables.now) c.args.context.now x c.execute_prepared.new.context)
          (Ok c.in-Ok-execute_prepared.answered)) (λ r u. Reads u (Some (document_of shown p))) c.args.self.now.root.now (root_of p) c.args.text.now
          (source_of p) fits.0 fits.1 fits.2.0.0.1 c.in-Ok-execute_prepared.ensures,
    )
