use Rattle.juniper_intro.proofs.Held as lemmas
use Rattle.juniper_intro.proofs.laws.numbers_serve.Goals as goal

pub returns-clause-introspection : goal.returns-clause-introspection
returns-clause-introspection g c = lemmas.numbers_serve

pub returns-clause-nodes : goal.returns-clause-nodes
returns-clause-nodes g c = lemmas.held_nodes_serve
