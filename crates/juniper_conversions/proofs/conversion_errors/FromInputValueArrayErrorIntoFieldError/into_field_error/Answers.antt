use Rattle.std.proofs.Common.{◌≡◌, ◌∙◌, ap, sym, codes, ◌++◌, string_bytes}
use Rattle.std.specs.Fmt.{decimal}
use Rattle.std.proofs.lemmas.List.{append_assoc}
use Rattle.std.proofs.lemmas.Result.{IfOk-weaker}
use Rattle.juniper_conversions.specs.Messages.{message_alone}
use Rattle.juniper_conversions.proofs.conversion_errors.FromInputValueArrayErrorIntoFieldError.into_field_error.Goals as goal

pub returns-in_ok-format-in-WrongCount : goal.returns-in_ok-format-in-WrongCount
returns-in_ok-format-in-WrongCount g c =
    let before = codes "Failed to convert into exact-size array: wrong elements count: " in
    let actual = decimal c.in-WrongCount.actual in
    let between = codes " instead of " in
    let expected = decimal c.in-WrongCount.expected in
    let said : string_bytes c.in_ok-format-in-WrongCount.field-0 ≡ before ++ actual ++ between ++ expected =
    c.in_ok-format-in-WrongCount.ensures.ok ∙ sym (append_assoc (before ++ actual) between expected ∙ append_assoc before actual (between ++ expected)) in
    rw c.in-WrongCount.is
    (IfOk-weaker c.into_field_error-in-WrongCount.result _ _ (λ made e. e ∙ ap message_alone said) c.into_field_error-in-WrongCount.ensures)
