use Rattle.juniper_schema.specs.Faults.{view_fault}
use Rattle.juniper_schema.specs.Searching.{fault_among}
use Rattle.juniper_schema.proofs.Searched.{or_seen}
use Rattle.juniper_schema.proofs.faults.fault_among.Goals as goal

pub returns : goal.returns
unfolding fault_among
returns g c =
    or_seen view_fault c.or-6.result c.or-5.result c.scalar_fault.result _ _ c.or-6.ensures
    (or_seen view_fault c.or-5.result c.or-4.result c.first_fault-5.result _ _ c.or-5.ensures
    (or_seen view_fault c.or-4.result c.or-3.result c.first_fault-4.result _ _ c.or-4.ensures
    (or_seen view_fault c.or-3.result c.or-2.result c.first_fault-3.result _ _ c.or-3.ensures
    (or_seen view_fault c.or-2.result c.or.result c.first_fault-2.result _ _ c.or-2.ensures
    (or_seen view_fault c.or.result c.first_fault.result c.root_fault.result _ _ c.or.ensures c.first_fault.ensures c.root_fault.ensures)
    c.first_fault-2.ensures) c.first_fault-3.ensures) c.first_fault-4.ensures) c.first_fault-5.ensures) c.scalar_fault.ensures
