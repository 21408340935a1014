use Rattle.std.proofs.Common.{ap, ◌∙◌}
use Rattle.std.specs.List.{position}
use Rattle.juniper_syntax.specs.FieldWords.{is_key}
use Rattle.juniper_syntax.specs.Indexes.{Shows, place_in}
use Rattle.juniper_syntax.proofs.Indexes.{index-shows, within}
use Rattle.juniper_syntax.proofs.keys.Keys.get_index_of.Goals as goal

pub returns-else-is_empty-clause-index : goal.returns-else-is_empty-clause-index
unfolding Shows
returns-else-is_empty-clause-index c =
    let p = c.self.inside.places in
    let key = c.args.key.now in
    let shows = index-shows p c.self.inside.names.items c.is_empty.ensures c.if-is_empty.false c.self.invariant.1 key in
    c.get.ensures ∙ ap (λ names. place_in p names key) c.as_slice-names.ensures.value ∙ shows ∙ ap (position (is_key key)) c.self.view_is

pub returns-else-is_empty-clause-within : goal.returns-else-is_empty-clause-within
unfolding Shows
returns-else-is_empty-clause-within c =
    let p = c.self.inside.places in
    let key = c.args.key.now in
    let shows = index-shows p c.self.inside.names.items c.is_empty.ensures c.if-is_empty.false c.self.invariant.1 key in
    within (is_key key) c.args.self.now c.get.result
    (c.get.ensures ∙ ap (λ names. place_in p names key) c.as_slice-names.ensures.value ∙ shows ∙ ap (position (is_key key)) c.self.view_is)
