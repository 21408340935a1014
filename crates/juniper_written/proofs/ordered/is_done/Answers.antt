use Rattle.std.proofs.Common.{◌≡◌, ◌||◌, Bool, true, false, not, is_some, ap, ◌∙◌}
use Rattle.juniper_written.specs.WrittenView.{has_name}
use Rattle.juniper_written.specs.SpreadsView.{spread_by}
use Rattle.juniper_written.proofs.Looking.{found-by}
use Rattle.juniper_written.proofs.ordered.is_done.Goals as goal

or-true : (r a b : Bool) → r ≡ a → r ≡ true → r ≡ (a || b)
or-true r true b is e = is
or-true r false b is e = absurd (cc (e, is))

or-false : (r a b c : Bool) → r ≡ a → r ≡ false → b ≡ c → not b ≡ (a || not c)
or-false r true b c is e same = absurd (cc (e, is))
or-false r false b c is e same = ap not same

pub returns-then-contains : goal.returns-then-contains
returns-then-contains c = or-true c.contains.result (has_name c.args.done.now c.args.name.now) _ c.contains.ensures c.if-contains.true

pub returns-else-contains : goal.returns-else-contains
returns-else-contains c =
    or-false c.contains.result (has_name c.args.done.now c.args.name.now) c.contains-else-contains.result
    (is_some (spread_by c.args.spreads.now c.args.name.now))
    c.contains.ensures c.if-contains.false (c.contains-else-contains.ensures ∙ found-by c.args.spreads.now c.args.name.now)
