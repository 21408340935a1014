use Rattle.std.proofs.Common.{option_map, ap, ◌∙◌}
use Rattle.juniper_syntax.specs.DocumentView.{view_fragment}
use Rattle.juniper_written.specs.SpreadsView.{fragment_at}
use Rattle.juniper_written.proofs.by_name.FragmentsByName.fragment.Goals as goal

pub returns : goal.returns
unfolding fragment_at
returns g c = λ d are.
    ap (option_map (λ f. view_fragment g.S.ScalarValue.shown f.now)) (c.copied.ensures ∙ c.get.ensures) ∙ are.named c.args.name.now
