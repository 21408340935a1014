use Rattle.std.proofs.Common.{◌≡◌, ◌≤◌, ◌∙◌, length, true, false, cond, Ok, Err, ap, inr, subst, sym, rules}
use Rattle.graphql_spec.specs.Introspection.{rooted_service}
use Rattle.juniper.specs.Answering.{request_of}
use Rattle.juniper.specs.declared.prepared.Bounds.{Bounds}
use Rattle.juniper.specs.declared.prepared.Objection.TheVariants.{Refused}
use Rattle.juniper.specs.RootView.{service_of}
use Rattle.juniper_intro.specs.RootView.{is_disabled, schema_of}
use Rattle.juniper_schema.specs.SchemaView.{view_schema}
use Rattle.juniper_cache.specs.Answers.{IsAnswer}
use Rattle.juniper_cache.specs.Texts.{AreLeft, IsAdmitted, entry_texts, once_used}
use Rattle.juniper_cache.proofs.Answering.{admitted-told, moved}
use Rattle.juniper_cache.proofs.Using.{used-fit}
use Rattle.juniper_cache.proofs.text_cache.TextCache.answer.Goals as goal

pub answer_kept-requires : goal.answer_kept-requires
answer_kept-requires g c =
    let old = c.args.self.now in
    let self = c.promote.new.self in
    used-fit (IsAdmitted self.bounds (view_schema g.S.ScalarValue.shown (schema_of self.root.now)) (is_disabled self.root.now)) old.kept.cap c.args.text.now
    (entry_texts old.kept.entries) self.kept.entries c.promote.result self.fit c.promote.ensures.texts (search (rules, c.if-not-promote.false))

pub returns-then-not-promote-clause-texts : goal.returns-then-not-promote-clause-texts
returns-then-not-promote-clause-texts g c =
    let shown = g.S.ScalarValue.shown in
    let old = c.args.self.now in
    let self = c.promote.new.self in
    let t = c.args.text.now in
    let is : c.promote.result ≡ false = search (rules, c.if-not-promote.true) in
    let now = entry_texts c.answer_anew.new.self.kept.entries in
    let admits = IsAdmitted self.bounds (view_schema shown (schema_of self.root.now)) (is_disabled self.root.now) t in
    let same : entry_texts self.kept.entries ≡ entry_texts old.kept.entries
    = c.promote.ensures.texts ∙ ap (λ b. cond b (once_used old.kept.cap t (entry_texts old.kept.entries)) (entry_texts old.kept.entries)) is in
    moved (λ r b. AreLeft (IsAdmitted b (view_schema shown (schema_of r)) (is_disabled r) t) old.kept.cap t (entry_texts old.kept.entries) c.answer_anew.result now)
    old.root.now self.root.now old.bounds self.bounds c.promote.ensures.root c.promote.ensures.bounds
    (subst (λ n. AreLeft admits n t (entry_texts old.kept.entries) c.answer_anew.result now) c.promote.ensures.most
    (subst (λ ts. AreLeft admits self.kept.cap t ts c.answer_anew.result now) same c.answer_anew.ensures.texts))

pub returns-in-Err-clause-texts : goal.returns-in-Err-clause-texts
returns-in-Err-clause-texts g c =
    let shown = g.S.ScalarValue.shown in
    let old = c.args.self.now in
    let self = c.promote.new.self in
    let t = c.args.text.now in
    let is : c.promote.result ≡ true = search (rules, c.if-not-promote.false) in
    let admitted = used-fit (IsAdmitted self.bounds (view_schema shown (schema_of self.root.now)) (is_disabled self.root.now)) old.kept.cap t
    (entry_texts old.kept.entries) self.kept.entries c.promote.result self.fit c.promote.ensures.texts is in
    inr (
      c.promote.ensures.texts ∙ ap (λ b. cond b (once_used old.kept.cap t (entry_texts old.kept.entries)) (entry_texts old.kept.entries)) is,
      moved (λ r b. IsAdmitted b (view_schema shown (schema_of r)) (is_disabled r) t) old.root.now self.root.now old.bounds self.bounds
          c.promote.ensures.root c.promote.ensures.bounds admitted,
    )

pub returns-in-Err-clause-answer : goal.returns-in-Err-clause-answer
unfolding rooted_service
returns-in-Err-clause-answer g c =
    let q = g.Q.GraphQLValue in
    let m = g.M.GraphQLMutationValue in
    let shown = g.S.ScalarValue.shown in
    let old = c.args.self.now in
    let self = c.promote.new.self in
    let asked = request_of shown c.args.text.now c.args.operation_name c.args.variables.now in
    moved (λ r b. IsAnswer (service_of q.concrete q.answer q.root m.step m.torn shown r) b shown asked c.args.context.now (Err (Refused c.in-Err.error))
    c.answer_kept.new.context) old.root.now self.root.now old.bounds self.bounds c.promote.ensures.root c.promote.ensures.bounds c.in-Err.ensures.answer

pub returns-in-Ok-clause-answer : goal.returns-in-Ok-clause-answer
unfolding rooted_service
returns-in-Ok-clause-answer g c =
    let q = g.Q.GraphQLValue in
    let m = g.M.GraphQLMutationValue in
    let shown = g.S.ScalarValue.shown in
    let old = c.args.self.now in
    let self = c.promote.new.self in
    let asked = request_of shown c.args.text.now c.args.operation_name c.args.variables.now in
    let admitted = used-fit (IsAdmitted self.bounds (view_schema shown (schema_of self.root.now)) (is_disabled self.root.now)) old.kept.cap c.args.text.now
    (entry_texts old.kept.entries) self.kept.entries c.promote.result self.fit c.promote.ensures.texts (search (rules, c.if-not-promote.false)) in
    let short = subst (λ (b : Bounds). length c.args.text.now ≤ b.bytes) (sym c.promote.ensures.bounds) c.if-text-self.false in
    moved (λ r b. IsAnswer (service_of q.concrete q.answer q.root m.step m.torn shown r) b shown asked c.args.context.now (Ok c.in-Ok.answered)
    c.answer_kept.new.context) old.root.now self.root.now old.bounds self.bounds c.promote.ensures.root c.promote.ensures.bounds
    (admitted-told (service_of q.concrete q.answer q.root m.step m.torn shown self.root.now) self.bounds shown asked c.args.context.now
    c.answer_kept.new.context c.in-Ok.answered short admitted c.in-Ok.ensures.read c.in-Ok.ensures.answer)
