use Rattle.std.proofs.Common.{ap, sym, ◌∙◌}
use Rattle.std.specs.Option.{option_copied}
use Rattle.juniper_field_graph.specs.Keys.{number_at}
use Rattle.juniper_field_graph.proofs.Numbered.{found-number}
use Rattle.juniper_field_graph.proofs.Places.{found-place, number-put}
use Rattle.juniper_field_graph.proofs.keys.number_of_key.Goals as goal

pub returns-in-Some : goal.returns-in-Some
returns-in-Some c =
    found-number (number_at c.args.keys.now) c.args.name.now c.in-Some.key.now c.args.number
    (sym (found-place c.args.keys.now c.args.name.now c.name_number.result (option_copied c.get.result) c.name_number.ensures c.get.ensures.value)
    ∙ ap option_copied c.in-Some.is)

pub returns-in_ok-insert-in-None : goal.returns-in_ok-insert-in-None
returns-in_ok-insert-in-None c =
    number-put c.args.keys.now c.insert.new.self c.args.name.now c.name_number.result c.args.number c.name_number.ensures
    (sym (found-place c.args.keys.now c.args.name.now c.name_number.result (option_copied c.get.result) c.name_number.ensures c.get.ensures.value)
    ∙ ap option_copied c.in-None.is)
    c.in_ok-insert-in-None.ensures.updates
