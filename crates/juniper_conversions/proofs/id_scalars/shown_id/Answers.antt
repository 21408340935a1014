use Rattle.std.proofs.Common.{◌≡◌, Some, string_bytes, ap, ◌∙◌, rules}
use Rattle.std.specs.Fmt.{signed_decimal}
use Rattle.juniper_conversions.proofs.IdReads.{id_of_text, id_of_int, id_of_neither}
use Rattle.juniper_conversions.proofs.id_scalars.shown_id.Goals as goal

pub returns-in_ok-from_str-in-Some : goal.returns-in_ok-from_str-in-Some
returns-in_ok-from_str-in-Some g c =
    ap Some (c.new.ensures ∙ c.in_ok-from_str-in-Some.ensures.ok) ∙ id_of_text _ _ c.in-Some.ensures

pub returns-in_ok-to_string-in-Some-try_to_int : goal.returns-in_ok-to_string-in-Some-try_to_int
returns-in_ok-to_string-in-Some-try_to_int g c =
    let printed : string_bytes c.in_ok-to_string-in-Some-try_to_int.field-0 ≡ signed_decimal c.in-Some-try_to_int.number = search rules in
    ap Some (c.new-in-Some-try_to_int.ensures ∙ printed) ∙ id_of_int _ _ c.in-Some-try_to_int.ensures

pub returns-in-None-try_to_int : goal.returns-in-None-try_to_int
returns-in-None-try_to_int g c = id_of_neither _ c.in-None.ensures c.in-None-try_to_int.ensures
