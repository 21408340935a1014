use Rattle.std.proofs.Common.{◌≡◌, ℕ, ◌<◌, true, nat_eq, get_or, List, refl, arith}
use Rattle.juniper_tokens.specs.declared.lexer.TheConstants.{CLASSES}
use Rattle.graphql_spec.specs.Tokens.{starts_name}
use Rattle.juniper_tokens.proofs.Tables.{agree_below, agree_at}
use Rattle.juniper_tokens.proofs.lexer.starts_name.Goals as goal

from_table : (table : List ℕ) (b : ℕ) → b < 256 → agree_below (λ k. nat_eq (get_or table k 0) 97) starts_name 256 ≡ true →
    nat_eq (get_or table b 0) 97 ≡ starts_name b
from_table table b lt h = agree_at _ _ 256 h b lt

pub returns : goal.returns
unfolding agree_below starts_name
returns c = from_table CLASSES c.args.b (omega arith) refl
