use Rattle.std.proofs.Common.{option_map, ap, sym, ◌∙◌}
use Rattle.std.specs.Option.{option_copied}
use Rattle.juniper_lookahead.specs.Expansion.{fragments_among}
use Rattle.juniper_lookahead.specs.Nesting.{view_core}
use Rattle.juniper_lookahead.proofs.ByName.{among-entries}
use Rattle.juniper_lookahead.proofs.Nesting.{value_shallow}
use Rattle.juniper_lookahead.proofs.choosing.lent_named.Goals as goal

pub returns-in-Some-clause-found : goal.returns-in-Some-clause-found
unfolding fragments_among
returns-in-Some-clause-found g c =
    let view = option_map (λ f. view_core g.S.ScalarValue.shown f.now) in
    among-entries g.S.ScalarValue.shown c.args.fragments.now.entries c.args.name.now
    ∙ sym (ap (λ o. view (option_copied o)) (sym c.in-Some.is) ∙ ap view c.get.ensures.value)

pub returns-in-Some-clause-nested : goal.returns-in-Some-clause-nested
returns-in-Some-clause-nested g c = value_shallow c.args.fragments.now.entries _ c.in-Some.ensures.member

pub returns-in-None-clause-found : goal.returns-in-None-clause-found
unfolding fragments_among
returns-in-None-clause-found g c =
    let view = option_map (λ f. view_core g.S.ScalarValue.shown f.now) in
    among-entries g.S.ScalarValue.shown c.args.fragments.now.entries c.args.name.now
    ∙ sym (ap (λ o. view (option_copied o)) (sym c.in-None.is) ∙ ap view c.get.ensures.value)
