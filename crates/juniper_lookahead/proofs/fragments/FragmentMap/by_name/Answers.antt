use Rattle.juniper_lookahead.proofs.Alike.{map-acyclic, map-alike}
use Rattle.juniper_lookahead.specs.FragmentView.{fragments_in}
use Rattle.juniper_lookahead.proofs.fragments.FragmentMap.by_name.Goals as goal

pub returns-clause-acyclic : goal.returns-clause-acyclic
returns-clause-acyclic g c =
    map-acyclic g.S.ScalarValue.shown c.args.self.now.lent (fragments_in g.S.ScalarValue.shown c.args.self.now) c.requires.made.named c.requires.acyclic

pub returns-clause-alike : goal.returns-clause-alike
returns-clause-alike g c =
    map-alike g.S.ScalarValue.shown c.args.self.now.lent (fragments_in g.S.ScalarValue.shown c.args.self.now) c.requires.made.named c.requires.acyclic
