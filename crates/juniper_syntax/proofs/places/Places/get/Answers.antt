use Rattle.std.proofs.Common.{true, false, ap, sym, ◌∙◌}
use Rattle.std.specs.BTreeMap.{get, get_by_text}
use Rattle.std.specs.Ordering.{nat_cmp}
use Rattle.juniper_syntax.proofs.Indexes.{chosen-some, chosen-none}
use Rattle.juniper_syntax.proofs.places.Places.get.Goals as goal

pub returns-then-is_at : goal.returns-then-is_at
returns-then-is_at c =
    let p = c.args.self.now in
    let key = c.args.key.now in
    chosen-some c.args.names.now key c.in-Some.place.now _ (get_by_text p.tied key) true
    (c.in-Some.ensures.value ∙ ap (get nat_cmp p.by_number) c.name_number.ensures) (sym c.is_at.ensures ∙ c.if-is_at.true)

pub returns-else-is_at : goal.returns-else-is_at
returns-else-is_at c =
    let p = c.args.self.now in
    let key = c.args.key.now in
    c.tied_place.ensures ∙ chosen-some c.args.names.now key c.in-Some.place.now _ (get_by_text p.tied key) false
    (c.in-Some.ensures.value ∙ ap (get nat_cmp p.by_number) c.name_number.ensures) (sym c.is_at.ensures ∙ c.if-is_at.false)

pub returns-in-None : goal.returns-in-None
returns-in-None c =
    let p = c.args.self.now in
    let key = c.args.key.now in
    c.tied_place-in-None.ensures ∙ sym (chosen-none c.args.names.now key _ (get_by_text p.tied key)
    (sym (c.in-None.ensures.value ∙ ap (get nat_cmp p.by_number) c.name_number.ensures)))
