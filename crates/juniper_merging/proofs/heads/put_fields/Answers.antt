use Rattle.std.proofs.Common.{◌++◌, ◌∷◌, [], ap, get_or, subst, sym, ◌∙◌}
use Rattle.std.specs.Prelude.{take}
use Rattle.std.proofs.lemmas.Grind.{get_or_default_zero}
use Rattle.std.proofs.lemmas.List.{append-nil, append_assoc, take_all}
use Rattle.juniper_merging.specs.Groups.{group_in}
use Rattle.juniper_merging.specs.Questions.{seen}
use Rattle.juniper_merging.specs.Uniting.{AreHeads}
use Rattle.juniper_merging.proofs.Passed.{one-more}
use Rattle.juniper_merging.proofs.heads.put_fields.Goals as goal

pub loop-field-init : goal.loop-field-init
loop-field-init c t before are =
    subst (λ l. AreHeads (seen t c.args.vertices.now) t l c.args.heads.now.items (group_in c.args.groups.now)) (sym (append-nil before)) are

pub loop-field-preserved : goal.loop-field-preserved
loop-field-preserved c t before are =
    let fields = c.args.fields.now in
    let i = c.loop-field.field-index in
    let x = get_or fields i 0 in
    subst (λ l. AreHeads (seen t c.args.vertices.now) t l c.put_field.new.heads.items (group_in c.put_field.new.groups))
    (append_assoc before (take i fields) (x ∷ []) ∙ ap (λ l. before ++ l)
    (sym (one-more fields i x c.loop-field-test.true (sym (get_or_default_zero fields i x c.loop-field-test.true)))))
    (c.in_ok-put_field.ensures t (before ++ take i fields) (c.loop-field.invariant t before are))

pub returns : goal.returns
returns c t before are =
    subst (λ l. AreHeads (seen t c.args.vertices.now) t (before ++ l) c.loop-field.heads.items (group_in c.loop-field.groups))
    (take_all c.loop-field.field-index c.args.fields.now c.loop-field-test.false) (c.loop-field.invariant t before are)
