use Rattle.std.proofs.Common.{map, ap, ◌∙◌}
use Rattle.juniper_schema.specs.MadeTypes.{view_made}
use Rattle.juniper_schema.proofs.Searched.{or_seen}
use Rattle.juniper_sdl.specs.Faults.{first_fault, mutation_fault, name_fault, sdl_fault, view_fault}
use Rattle.juniper_sdl.proofs.faults.sdl_fault.Goals as goal

pub returns : goal.returns
unfolding sdl_fault
returns g c =
    let shown = g.S.ScalarValue.shown in
    or_seen view_fault c.or-found.result c.or.result c.first_fault.result _ _ c.or-found.ensures
    (or_seen view_fault c.or.result c.name_fault.result c.mutation_fault.result _ _ c.or.ensures (c.name_fault.ensures ∙ ap name_fault c.query_name.ensures)
    (c.mutation_fault.ensures ∙ ap mutation_fault c.mutation_name.ensures))
    (c.first_fault.ensures ∙ ap first_fault (ap (map (view_made shown)) c.as_slice.ensures.value ∙ c.in_ok-types.ensures))
