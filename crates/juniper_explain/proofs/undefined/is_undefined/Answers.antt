use Rattle.std.proofs.Common.{ap, map, not, sym, ◌∙◌}
use Rattle.juniper_syntax.specs.DocumentView.{view_variable}
use Rattle.juniper_explain.proofs.Undefining.{none-defined}
use Rattle.juniper_explain.proofs.undefined.is_undefined.Goals as goal

pub returns : goal.returns
returns g c = ap not c.defines.ensures ∙ sym (none-defined (map (view_variable g.S.ScalarValue.shown) c.args.variables.now) c.args.name.now)
