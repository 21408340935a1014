use Rattle.juniper_language.proofs.references.+type_reference.Given as goal

abbrev pub decreases-type_reference : goal.decreases-type_reference
decreases-type_reference l = l.depth
