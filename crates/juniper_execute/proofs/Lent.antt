-- What is lent for a written value is what it is with values for its variables (6.4.1).
use Rattle.std.proofs.Common.{◌≡◌, true, IfSome, Option, Some, None, ap, sym, ◌∙◌}
use Rattle.std.specs.Borrow.{Bor}
use Rattle.graphql_spec.specs.Inputs.{Variables, const, is_const}
use Rattle.graphql_spec.specs.Shown.{Shown}
use Rattle.juniper_syntax.specs.InputView.{view_input}
use Rattle.juniper_values.specs.ArgumentView.{Placed}
use Rattle.juniper_execute.proofs.Constants.{const-same}

-- a value without variables is lent itself
pub const-lent : {S : Type 0} (shown : S → Shown) (vars : Variables) (v : Placed S) (o : Option (Bor (Placed S))) →
    IfSome o (λ p. (p.now ≡ v) × (is_const (view_input shown v.item) ≡ true)) →
    IfSome o (λ p. const vars (view_input shown v.item) ≡ Some (view_input shown p.now.item))
const-lent shown vars v None e = tt
const-lent shown vars v (Some p) e = const-same vars (view_input shown v.item) e.1 ∙ ap (λ q. Some (view_input shown q.item)) (sym e.0)
