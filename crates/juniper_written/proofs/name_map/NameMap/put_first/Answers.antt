use Rattle.std.proofs.Common.{◌≡◌, ap, cond, is_some, Some, false, true, sym, subst, ◌∙◌}
use Rattle.std.specs.Str.{bytes_eq}
use Rattle.std.proofs.lemmas.Map.Text.{btree_map_updates_str}
use Rattle.juniper_written.specs.WrittenView.{named}
use Rattle.juniper_written.proofs.Sorted.{found-is, put-new, put-not, same}
use Rattle.juniper_written.proofs.name_map.NameMap.put_first.Goals as goal

pub returns-then-contains : goal.returns-then-contains
returns-then-contains g c = λ k.
    let m = c.args.self.now in
    put-not (named m) k c.args.name.now c.args.value (λ e. subst (λ j. is_some (named m j) ≡ true) (sym (same k c.args.name.now e))
    (sym c.contains.ensures ∙ c.if-contains.true))

pub returns : goal.returns
unfolding named
returns g c = λ k.
    let m = c.args.self.now in
    let name = c.args.name.now in
    sym (found-is k c.insert.new.self.entries)
    ∙ (btree_map_updates_str name m.sorted c.insert.new.self _ c.in_ok-insert.ensures.updates k
    ∙ (ap (cond (bytes_eq name k) (Some c.args.value)) (found-is k m.sorted.entries)
    ∙ put-new (named m) k name c.args.value (λ e. subst (λ j. is_some (named m j) ≡ false) (sym (same k name e))
    (sym c.contains.ensures ∙ c.if-contains.false))))
