use Rattle.std.proofs.Common.{◌∙◌, ap, ◌++◌, codes, decimal}
use Rattle.juniper_bench.proofs.answers.tested.Goals as goal

pub returns-clause-line : goal.returns-clause-line
returns-clause-line c =
    c.in_ok-format.ensures.ok ∙ ap (λ w. codes "types: " ++ (decimal c.args.types ++ (codes ", executable: " ++ w))) c.is_told-executable.ensures
