use Rattle.juniper_registry.proofs.registry.Registry.field_convert.Goals as goal

pub returns-clause-made : goal.returns-clause-made
returns-clause-made g c = c.field.ensures.made

pub returns-clause-awaited : goal.returns-clause-awaited
returns-clause-awaited g c = c.field.ensures.awaited

pub returns-clause-added : goal.returns-clause-added
returns-clause-added g c = c.field.ensures.added
