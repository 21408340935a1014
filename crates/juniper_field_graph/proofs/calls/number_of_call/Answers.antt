use Rattle.std.proofs.Common.{ap, sym, ◌∙◌}
use Rattle.std.specs.Option.{option_copied}
use Rattle.juniper_field_graph.specs.CallParts.{number_of_parts, view_parts}
use Rattle.juniper_field_graph.proofs.CallNumbers.{call-put, found-call}
use Rattle.juniper_field_graph.proofs.Numbered.{found-number}
use Rattle.juniper_field_graph.proofs.calls.number_of_call.Goals as goal

pub returns-in-Some : goal.returns-in-Some
returns-in-Some c =
    found-number (number_of_parts c.args.calls.now) (view_parts c.args.call.items) c.in-Some.known.now c.args.number
    (sym (found-call c.args.calls.now c.args.call (option_copied c.get.result) c.get.ensures.value) ∙ ap option_copied c.in-Some.is)

pub returns-in_ok-insert-in-None : goal.returns-in_ok-insert-in-None
returns-in_ok-insert-in-None c =
    call-put c.args.calls.now c.insert.new.self c.args.call c.args.number
    (sym (found-call c.args.calls.now c.args.call (option_copied c.get.result) c.get.ensures.value) ∙ ap option_copied c.in-None.is)
    c.in_ok-insert-in-None.ensures.updates
