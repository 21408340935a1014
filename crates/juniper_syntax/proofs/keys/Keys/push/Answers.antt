use Rattle.std.proofs.Common.{◌++◌, ◌∷◌, [], sym, ap, subst, ◌∙◌}
use Rattle.std.specs.List.{list_any}
use Rattle.std.specs.String.{string_eq}
use Rattle.juniper_syntax.specs.Indexes.{IsIndex}
use Rattle.juniper_syntax.proofs.Indexes.{index-of, more-distinct, distinct-of}
use Rattle.juniper_syntax.proofs.keys.Keys.push.Goals as goal

pub invariant_of-self-2 : goal.invariant_of-self-2
invariant_of-self-2 c =
    let names = c.self.inside.names.items in
    let key = c.args.key in
    let grown = c.push_reserved.ensures.items ∙ ap (λ xs. xs ++ key ∷ []) c.in_ok-reserve.ensures.items in
    let gone = ap (list_any (string_eq key)) c.self.view_is ∙ c.requires in
    let seen = c.as_slice.ensures.value ∙ c.in_ok-reserve.ensures.items in
    let index = subst (IsIndex c.self.inside.places) (sym seen) c.self.invariant.1 in
    let placed = c.in_ok-add_place.ensures.ok key (sym c.as_str.ensures.value) index in (
      distinct-of (names ++ key ∷ []) c.push_reserved.new.self.items grown (more-distinct names key c.self.invariant.0 gone),
      index-of c.add_place.new.places (c.as_slice.result.now ++ key ∷ []) c.push_reserved.new.self.items (grown ∙ ap (λ xs. xs ++ key ∷ []) (sym seen)) placed,
    )
