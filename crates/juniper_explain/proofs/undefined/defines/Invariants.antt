use Rattle.std.specs.Str.{bytes_eq}
use Rattle.juniper_syntax.specs.DocumentView.{view_variable}
use Rattle.juniper_written.proofs.Deciding.{IsOpen}
use Rattle.juniper_explain.proofs.undefined.defines.Given as goal

abbrev pub invariant-loop-variable : goal.invariant-loop-variable
invariant-loop-variable g l = IsOpen (view_variable g.S.ScalarValue.shown) (λ v. bytes_eq l.name v.name.item) l.variables l.variable-index
