use Rattle.std.proofs.Common.{◌≡◌, ℕ, ◌<◌, true, nat_eq, get_or, List, refl, arith}
use Rattle.juniper_tokens.specs.declared.lexer.TheConstants.{CLASSES}
use Rattle.juniper_tokens.specs.Spots.{is_space}
use Rattle.juniper_tokens.proofs.Tables.{agree_below, agree_at}
use Rattle.juniper_tokens.proofs.lexer.is_space.Goals as goal

from_table : (table : List ℕ) (b : ℕ) → b < 256 → agree_below (λ k. nat_eq (get_or table k 0) 44) is_space 256 ≡ true →
    nat_eq (get_or table b 0) 44 ≡ is_space b
from_table table b lt h = agree_at _ _ 256 h b lt

pub returns : goal.returns
unfolding agree_below is_space
returns c = from_table CLASSES c.args.b (omega arith) refl
