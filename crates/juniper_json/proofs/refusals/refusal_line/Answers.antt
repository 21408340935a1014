-- The events that are sent are those of the refusals, which have no floats, so the text is known.
use Rattle.serde_json.proofs.FreeTexts.{text_of_value}
use Rattle.juniper_json.proofs.Floatless.{refusals_have_none}
use Rattle.juniper_json.proofs.refusals.refusal_line.Goals as goal

pub returns-in-Ok : goal.returns-in-Ok
returns-in-Ok c = let h = c.in-Ok.ensures.events in text_of_value _ h.0 _ h.1 h.2 (refusals_have_none _)
