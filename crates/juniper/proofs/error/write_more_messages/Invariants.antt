use Rattle.std.proofs.Common.{◌∷◌, take}
use Rattle.std.specs.List.{flat_map}
use Rattle.std.specs.Fmt.{HasWritten, IsPlainFormatter}
use Rattle.juniper_syntax.specs.RuleView.{view_rule_error}
use Rattle.juniper.proofs.error.write_more_messages.Given as goal

abbrev pub invariant-loop-error : goal.invariant-loop-error
invariant-loop-error g l =
    IsPlainFormatter l.initial.f → HasWritten g.W.Write.write_str_gives l.initial.f
    (flat_map (λ e. 10 ∷ (view_rule_error e).message) (take l.error-index l.errors)) l.f
