use Rattle.juniper_syntax.proofs.position.Spanning+T+Span.unlocated.Goals as goal

pub returns-clause-end : goal.returns-clause-end
returns-clause-end g c = c.new_origin-start.ensures
