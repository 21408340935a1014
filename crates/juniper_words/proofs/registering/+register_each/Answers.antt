use Rattle.std.proofs.Common.{map}
use Rattle.juniper_words.specs.Data.{declared}
use Rattle.juniper_words.proofs.Declared.{registered}
use Rattle.juniper_words.proofs.registering.+register_each.Goals as goal

-- the first is registered, and then the others
pub returns-in-Ok : goal.returns-in-Ok
returns-in-Ok g t c =
    rw c.in-Some.ensures.cases.0 (registered (declared c.in-Some.first.now) (map declared c.in-Some.rest.now) _ _ _ _ c.in-Ok.ensures c.register_each.ensures)
