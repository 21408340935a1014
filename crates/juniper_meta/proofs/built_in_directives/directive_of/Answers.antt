use Rattle.juniper_meta.specs.Rows.{row_directive}
use Rattle.juniper_meta.proofs.built_in_directives.directive_of.Goals as goal

pub returns : goal.returns
unfolding row_directive
returns g c = rw (c.in_ok-name.ensures.ok, c.in_ok-locations.ensures.items, c.in_ok-arguments.ensures, c.in_ok-argument_of.ensures) at c.new.ensures
