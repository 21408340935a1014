use Rattle.std.proofs.Common.{ap, ap₂, cond, not, true, sym, ◌∙◌}
use Rattle.std.proofs.lemmas.Map.Text.{is_eq-slice_cmp}
use Rattle.juniper_written.specs.WrittenView.{has_name}
use Rattle.juniper_written.proofs.Sorted.{has-is}
use Rattle.juniper_written.proofs.name_set.NameSet.insert.Goals as goal

pub returns-clause-found : goal.returns-clause-found
unfolding has_name
returns-clause-found c = c.in_ok-insert.ensures.added ∙ ap not (has-is c.args.name.now c.args.self.now.sorted.keys)

pub returns-clause-added : goal.returns-clause-added
unfolding has_name
returns-clause-added c = λ n.
    sym (has-is n c.insert.new.self.keys) ∙ (c.in_ok-insert.ensures.updates.0 (record { ref_ptr = (0, 0); now = n })
    ∙ ap₂ (λ a b. cond a true b) (is_eq-slice_cmp c.args.name.now n) (has-is n c.args.self.now.sorted.keys))
