use Rattle.std.proofs.Common.{◌∙◌, ap, subst, sym}
use Rattle.juniper_intro.specs.RootView.{is_disabled, schema_of}
use Rattle.juniper_schema.specs.SchemaView.{view_schema}
use Rattle.juniper_cache.specs.Texts.{IsAdmitted, entry_texts, once_used}
use Rattle.juniper_cache.proofs.Using.{put-fit, put-texts}
use Rattle.juniper_cache.proofs.text_cache.TextCache.keep.Goals as goal

pub invariant_of-self : goal.invariant_of-self
invariant_of-self g c =
    let self = c.args.self.now in
    let F = IsAdmitted self.bounds (view_schema g.S.ScalarValue.shown (schema_of self.root.now)) (is_disabled self.root.now) in
    record {
      fit = put-fit F c.put.result self.kept c.put.new.self c.in_ok-held.held _ c.put.ensures.entries c.put.ensures.err self.fit
          (subst F (sym c.in_ok-held.ensures.ok) c.requires);
    }

pub returns-clause-ok : goal.returns-clause-ok
returns-clause-ok g c =
    let old = c.args.self.now.kept in
    ap (λ m. entry_texts m.entries) c.in_ok-put.ensures.entries ∙ put-texts old c.in_ok-held.held _
    ∙ ap (λ t. once_used old.cap t (entry_texts old.entries)) c.in_ok-held.ensures.ok
