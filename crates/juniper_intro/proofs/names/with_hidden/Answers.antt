use Rattle.std.proofs.Common.{codes, [], ◌∷◌, ◌++◌, map, string_bytes, ap, ◌∙◌}
use Rattle.std.proofs.lemmas.List.{append_assoc, take_all}
use Rattle.juniper_intro.proofs.Collected.{seen-more}
use Rattle.juniper_intro.proofs.names.with_hidden.Goals as goal

pub returns : goal.returns
returns c =
    let listed = map (λ n. n.now) c.args.listed.now in
    let before = c.loop-name.invariant ∙ ap (map (λ n. n.now)) (take_all c.loop-name.name-index c.args.listed.now c.loop-name-test.false) in
    seen-more (λ n. string_bytes n) _ _ _ (listed ++ codes "_EmptyMutation" ∷ []) (codes "_EmptySubscription") c.in_ok-push-3.ensures.items
    (seen-more (λ n. string_bytes n) _ _ _ listed (codes "_EmptyMutation") c.in_ok-push-2.ensures.items before c.in_ok-from_str-2.ensures.ok)
    c.in_ok-from_str-3.ensures.ok
    ∙ append_assoc listed (codes "_EmptyMutation" ∷ []) (codes "_EmptySubscription" ∷ [])
