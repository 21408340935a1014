use Rattle.std.proofs.Common.{[], ◌∷◌, ◌++◌, map, sym, ap, ◌∙◌}
use Rattle.std.proofs.lemmas.List.{map-append}
use Rattle.juniper_syntax.specs.DocumentView.{items_or_none}
use Rattle.juniper_meta.specs.MetaView.{view_argument}
use Rattle.juniper_meta.proofs.declaration.appended.Goals as goal

pub returns-in_ok-push-in-Some : goal.returns-in_ok-push-in-Some
returns-in_ok-push-in-Some g c =
    let view = view_argument g.S.ScalarValue.shown in
    let all = ap (map view) c.in_ok-push-in-Some.ensures.items ∙ map-append view c.in-Some.items.items (c.args.argument ∷ []) in
    all ∙ ap (λ o. items_or_none view o ++ view c.args.argument ∷ []) (sym c.in-Some.is)

pub returns-in_ok-push-in-None : goal.returns-in_ok-push-in-None
returns-in_ok-push-in-None g c =
    let view = view_argument g.S.ScalarValue.shown in
    let alone = c.in_ok-push-in-None.ensures.items ∙ ap (λ xs. xs ++ c.args.argument ∷ []) c.new-items.ensures.items in
    ap (map view) alone ∙ ap (λ o. items_or_none view o ++ view c.args.argument ∷ []) (sym c.in-None.is)
