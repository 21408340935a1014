use Rattle.std.proofs.Common.{option_map, ap, sym, ◌∙◌}
use Rattle.std.specs.Option.{option_copied}
use Rattle.juniper_lookahead.specs.FragmentView.{fragment_in_order, fragment_named, fragments_in}
use Rattle.juniper_lookahead.specs.Nesting.{view_core}
use Rattle.juniper_lookahead.proofs.ByName.{named-among}
use Rattle.juniper_lookahead.proofs.FragmentMaps.{found-in-order}
use Rattle.juniper_lookahead.proofs.Nesting.{value_shallow}
use Rattle.juniper_lookahead.proofs.fragments.FragmentMap.named.Goals as goal

pub returns-in-Some-clause-found : goal.returns-in-Some-clause-found
unfolding fragment_in_order fragment_named
returns-in-Some-clause-found g c =
    let shown = g.S.ScalarValue.shown in
    let m = c.args.self.now in
    let name = c.args.name.now in
    named-among shown m.ordered.entries name (fragments_in shown m) (c.requires.in_order name)
    ∙ sym (ap (λ o. option_map (λ f. view_core shown f.now) (option_copied o)) (sym c.in-Some.is)
    ∙ ap (option_map (λ f. view_core shown f.now)) (c.get.ensures.value ∙ found-in-order name m.ordered.entries))

pub returns-in-Some-clause-nested : goal.returns-in-Some-clause-nested
returns-in-Some-clause-nested g c = value_shallow c.args.self.now.ordered.entries _ c.in-Some.ensures.member

pub returns-in-None-clause-found : goal.returns-in-None-clause-found
unfolding fragment_in_order fragment_named
returns-in-None-clause-found g c =
    let shown = g.S.ScalarValue.shown in
    let m = c.args.self.now in
    let name = c.args.name.now in
    named-among shown m.ordered.entries name (fragments_in shown m) (c.requires.in_order name)
    ∙ sym (ap (λ o. option_map (λ f. view_core shown f.now) (option_copied o)) (sym c.in-None.is)
    ∙ ap (option_map (λ f. view_core shown f.now)) (c.get.ensures.value ∙ found-in-order name m.ordered.entries))
