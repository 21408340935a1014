use Rattle.std.proofs.Common.{option_map}
use Rattle.std.proofs.lemmas.Bool.{le-ltb, lt-ltb}
use Rattle.juniper_explain.proofs.Nearing.{closer, farther}
use Rattle.juniper_explain.proofs.nearest.nearer.Goals as goal

pub returns-then-edits-near : goal.returns-then-edits-near
returns-then-edits-near c = λ n ks is.
    closer n c.args.near.bound c.args.edits c.args.other.now ks (option_map (λ k. k.now) c.args.near.name) is
    (lt-ltb c.args.edits c.args.near.bound c.if-edits-near.true)

pub returns : goal.returns
returns c = λ n ks is.
    farther n c.args.near.bound c.args.edits c.args.other.now ks (option_map (λ k. k.now) c.args.near.name) is
    (le-ltb c.args.edits c.args.near.bound c.if-edits-near.false)
