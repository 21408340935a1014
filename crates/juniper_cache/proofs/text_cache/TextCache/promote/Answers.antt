use Rattle.std.proofs.Common.{◌∙◌, ap, cond, sym}
use Rattle.juniper_intro.specs.RootView.{is_disabled, schema_of}
use Rattle.juniper_schema.specs.SchemaView.{view_schema}
use Rattle.juniper_cache.specs.Texts.{IsAdmitted, entry_texts, once_used}
use Rattle.juniper_cache.proofs.Using.{found-among, is_text, promoted-fit, promoted-texts}
use Rattle.juniper_cache.proofs.text_cache.TextCache.promote.Goals as goal

pub invariant_of-self : goal.invariant_of-self
invariant_of-self g c =
    let self = c.args.self.now in
    let F = IsAdmitted self.bounds (view_schema g.S.ScalarValue.shown (schema_of self.root.now)) (is_disabled self.root.now) in
    record { fit = promoted-fit F (is_text c.args.text.now) self.kept c.promote.new.self c.promote.ensures.entries self.fit }

pub returns-clause-most : goal.returns-clause-most
returns-clause-most g c = ap (λ m. m.cap) c.promote.ensures.entries

pub returns-clause-found : goal.returns-clause-found
returns-clause-found g c = c.promote.ensures.value ∙ found-among c.args.text.now c.args.self.now.kept.entries

pub returns-clause-texts : goal.returns-clause-texts
returns-clause-texts g c =
    let old = c.args.self.now.kept in
    let t = c.args.text.now in
    ap (λ m. entry_texts m.entries) c.promote.ensures.entries ∙ promoted-texts old.cap t old.entries
    ∙ ap (λ b. cond b (once_used old.cap t (entry_texts old.entries)) (entry_texts old.entries)) (sym (c.promote.ensures.value ∙ found-among t old.entries))
