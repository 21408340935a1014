use Rattle.std.proofs.Common.{◌≡◌, true, sym, subst}
use Rattle.juniper_written.specs.WrittenView.{view_names}
use Rattle.juniper_written.proofs.FragmentNames.{has, spreads_known}
use Rattle.juniper_written.proofs.Looking.{next-is}
use Rattle.juniper_written.proofs.Rounds.{known-among}
use Rattle.juniper_written.proofs.Grouping.{no-groups}
use Rattle.juniper_written.proofs.groups.grouped_by_walks.Goals as goal

pub returns-then-never_rise : goal.returns-then-never_rise
returns-then-never_rise c = λ fs are. record {
  onward = c.in_ok-groups.ensures.led fs (c.in_ok-roots.ensures fs are);
  back = c.in_ok-groups.ensures.back fs are;
  falls =
      λ k i h.
      let there = known-among c.args.spreads.now fs are c.in_ok-names.names.items c.in_ok-names.ensures k (spreads_known fs k i h) in
      c.never_rise.ensures c.if-never_rise.true k (subst (λ l. has (view_names l) k ≡ true) (sym c.deref-6.ensures.value) there) i
      (subst (λ l. has l i ≡ true) (sym (next-is c.args.spreads.now fs are k)) h);
}

pub returns : goal.returns
returns c = λ fs are. no-groups fs c.new.result c.new.ensures
