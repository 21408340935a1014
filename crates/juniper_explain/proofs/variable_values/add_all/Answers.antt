use Rattle.std.proofs.Common.{List, String, Global, ◌∙◌, ◌++◌, map, ap, refl, string_bytes}
use Rattle.std.specs.Vec.Iter.{into_iter_items}
use Rattle.juniper_syntax.specs.Positions.{view_position}
use Rattle.juniper_written.proofs.Lists.{seen-twice}
use Rattle.juniper_explain.specs.GivenValues.{view_variable_explanation, view_variable_explanations}
use Rattle.juniper_explain.proofs.Moved.{moved-all, moved-turn, none-left}
use Rattle.juniper_explain.proofs.TellingValues.{told_message, told_text}
use Rattle.juniper_explain.proofs.variable_values.add_all.Goals as goal

pub loop-message-init : goal.loop-message-init
loop-message-init c = refl

pub loop-message-preserved : goal.loop-message-preserved
loop-message-preserved c =
    moved-turn (told_message (view_position c.args.location)) view_variable_explanation _ _ _ _ _ _ _ c.loop-message.invariant
    c.in-Some.ensures.steps.0 c.in_ok-push.ensures.items refl

pub returns : goal.returns
returns c =
    let p = view_position c.args.location in
    let old = view_variable_explanations c.args.explanations.now.items in
    let it = c.loop-message.message-iterator in
    let out = none-left (into_iter_items it) it.rest.len it.rest.ok.0 c.in-None.ensures.steps.0 in
    moved-all (told_message p) view_variable_explanation _ _ _ out c.loop-message.invariant
    ∙ (ap (λ (ms : List (String Global)). old ++ map (told_message p) ms) c.into_iter-message-iterator.ensures.into_iter_gives.0
    ∙ ap (λ l. old ++ l) (seen-twice (λ (m : String Global). string_bytes m) (told_text p) c.args.messages.items))
