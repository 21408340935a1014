use Rattle.std.proofs.Common.{◌≡◌, ◌++◌, ◌∷◌, [], ap, ap₂, arith, subst, sym, ◌∙◌}
use Rattle.std.specs.List.{flat_map}
use Rattle.juniper_syntax.proofs.Lists.{none-seen}
use Rattle.juniper_written.specs.WrittenView.{view_names}
use Rattle.juniper_type_rules.specs.Numbers.{IsReach, numbers_at, view_lists}
use Rattle.juniper_type_rules.specs.UsesView.{uses_reached, view_used, view_used_at, view_numbered, view_all_numbered, where_marked}
use Rattle.juniper_type_rules.proofs.Marked.{none-lead, none-reached, reached-are}
use Rattle.juniper_type_rules.proofs.reach.UsesOfFragments.with_reached.Goals as goal
use Rattle.juniper_type_rules.proofs.reach.UsesOfFragments.with_reached.Goals.{then-is_empty-via-then-is_empty, then-is_empty-via-else-is_empty+then-is_empty-2}

pub returns-then-is_empty : goal.returns-then-is_empty
returns-then-is_empty c = λ s d are.
    let numbered = c.args.self.now.numbered in
    let names = c.args.names.now in
    let one : view_used_at c.push.new.self.items ≡ view_used c.args.own.now ∷ [] =
    ap view_used_at (c.in_ok-push.ensures.items ∙ ap (λ l. l ++ c.args.own ∷ []) c.new-uses.ensures.items) in
    one ∙ ap (λ l. view_used c.args.own.now ∷ l) (elim c.then-is_empty.branch [
      | then-is_empty-via-then-is_empty w ↦ none-reached s d c.args.self.now are (view_names names.items)
          (none-seen view_numbered numbered.items numbered.len (omega (arith, numbered.ok.0)) (sym w.if-is_empty.true ∙ c.is_empty.ensures))
      | then-is_empty-via-else-is_empty+then-is_empty-2 w ↦ none-lead s d ∙ ap (uses_reached s d) (sym (none-seen (λ n. n.now) names.items names.len
          (omega (arith, names.ok.0)) (sym w.if-is_empty-2.true ∙ w.is_empty-else-is_empty.ensures)))
    ])

pub returns : goal.returns
returns c = λ s d are.
    let r = c.args.self.now in
    let ks = view_names c.args.names.now.items in
    let marks = c.in_ok-marks.marks.items in
    let one : view_used_at c.push.new.self.items ≡ view_used c.args.own.now ∷ [] =
    ap view_used_at (c.in_ok-push.ensures.items ∙ ap (λ l. l ++ c.args.own ∷ []) c.new-uses.ensures.items) in
    let reach : IsReach (view_lists r.lists.items) (numbers_at r.numbers ks) marks =
    subst (λ l. IsReach (view_lists l) (numbers_at r.numbers ks) marks) c.deref.ensures.value
    (subst (λ l. IsReach (view_lists c.deref.result.now) l marks) (c.deref-2.ensures.value ∙ c.in_ok-starts.ensures) c.in_ok-marks.ensures) in
    c.in_ok-push_marked.ensures ∙ ap₂ (λ a b. a ++ b) one
    (ap₂ (λ us ms. flat_map (where_marked ms) (view_all_numbered us)) c.deref-3.ensures.value c.deref-4.ensures.value ∙ reached-are s d r are ks marks reach)
