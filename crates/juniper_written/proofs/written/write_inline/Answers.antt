use Rattle.std.proofs.Common.{◌++◌, ap, sym, ◌∙◌, option_map}
use Rattle.std.proofs.lemmas.List.{append-nil}
use Rattle.juniper_syntax.proofs.Lists.{seen-push}
use Rattle.juniper_syntax.specs.DocumentView.{view_word}
use Rattle.juniper_written.specs.Parts.{condition_names}
use Rattle.juniper_written.specs.WrittenView.{view_inline, view_names, view_written}
use Rattle.juniper_written.proofs.Joining.{adds-inline-head}
use Rattle.juniper_written.proofs.written.write_inline.Goals as goal
use Rattle.juniper_written.proofs.written.write_inline.Goals.{in-Some+in_ok-push-in-Some, in-None}

pub returns : goal.returns
unfolding condition_names
returns g c =
    let shown = g.S.ScalarValue.shown in
    let old = c.args.written.now in
    let x = view_inline shown c.args.inline.now in
    elim c.match-inline.branch [
      | in-Some+in_ok-push-in-Some w ↦
          adds-inline-head (view_written shown old) (view_written shown c.match-inline.written) x _ (ap (λ v. (view_written shown v).fields) w.written-is)
          (ap (λ v. (view_written shown v).spreads) w.written-is)
          (ap (λ v. (view_written shown v).conditions) w.written-is ∙ (seen-push
          (λ n. n.now) old.conditions.items w.push.new.self.items w.in-Some.condition.item w.in_ok-push-in-Some.ensures.items
          ∙ ap (λ o. view_names old.conditions.items ++ condition_names (option_map view_word o)) (sym w.in-Some.is)))
          (c.in_ok-write_directives.ensures ∙ ap (λ v. (view_written shown v).directives ++ x.directives) w.written-is)
      | in-None w ↦
          adds-inline-head (view_written shown old) (view_written shown c.match-inline.written) x _ (ap (λ v. (view_written shown v).fields) w.written-is)
          (ap (λ v. (view_written shown v).spreads) w.written-is)
          (ap (λ v. (view_written shown v).conditions) w.written-is ∙ (sym (append-nil (view_names old.conditions.items))
          ∙ ap (λ o. view_names old.conditions.items ++ condition_names (option_map view_word o)) (sym w.in-None.is)))
          (c.in_ok-write_directives.ensures ∙ ap (λ v. (view_written shown v).directives ++ x.directives) w.written-is)
    ]
