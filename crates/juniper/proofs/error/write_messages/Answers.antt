use Rattle.std.proofs.Common.{◌<◌, length, refl, arith}
use Rattle.std.proofs.Output.{has_written_append, has_written_of_eq}
use Rattle.juniper.proofs.Messages.{messages_from_first}
use Rattle.juniper.proofs.error.write_messages.Goals as goal

pub returns-in_ok-write_str-in-len1-up : goal.returns-in_ok-write_str-in-len1-up
returns-in_ok-write_str-in-len1-up g c =
    let some_left : 0 < length c.args.errors.now = omega (arith, c.in-len1-up.len_at_least) in
    λ plain ok.
    let first_written = c.in_ok-write_str-in-len1-up.ensures.writes plain refl in
    has_written_of_eq _ _ _ _ _ (messages_from_first c.args.errors.now c.first-item.result c.message.result.now some_left c.first-item.is c.message.ensures)
    (has_written_append _ _ _ _ _ _ first_written (c.write_more_messages.ensures first_written.plain ok))
