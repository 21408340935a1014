-- Replies and errors that are one word (6.4.2, 6.4.4).
use Rattle.std.specs.Prelude.{ℕ, pos, Bool, cond, codes, Option, Some, None, Result, Ok, Err}
use Rattle.graphql_spec.specs.Shown.{Name, Text, boolean, text}
use Rattle.graphql_spec.specs.Tokens.{fits_int}
use Rattle.graphql_spec.specs.Values as values
use Rattle.graphql_spec.specs.Resolvers.{Error, Reply, answered, failed, leaf, nothing}
use Rattle.juniper_conversions.specs.Messages.{message_alone}
use Rattle.juniper_values.specs.Answered.{fails_with, int_reply, text_reply}

-- a Boolean (3.5.4)
abbrev pub boolean_reply : {N : Type 0} → Bool → Reply N
boolean_reply b = answered (leaf (boolean b))

-- a text, or null where there is none (3.12)
abbrev pub text_or_null : {N : Type 0} → Option Text → Reply N
text_or_null None = answered nothing
text_or_null (Some t) = text_reply t

-- a value of an enum, by its name (3.9)
abbrev pub value_reply : {E N : Type 0} → (E → Name) → E → Reply N
value_reply name_of v = text_reply (name_of v)

-- how many there are, where that is an Int (3.5.1)
abbrev pub count_reply : {N : Type 0} → ℕ → Reply N
count_reply n = cond (fits_int (pos n)) (int_reply (pos n)) (fails_with (codes "The number is no Int"))

-- ## Errors with a code, which an answer shows in `extensions` (7.1.2)

-- a message, and a code
abbrev pub error_with_code : Text → Text → Error
error_with_code message code =
    record { message = message; extensions = values.object (values.entry (codes "code") (values.scalar (text code)) values.no_entries) }

-- the field fails with them
abbrev pub fails_with_code : {N : Type 0} → Text → Text → Reply N
fails_with_code message code = failed (error_with_code message code)

-- ## What has to be there

-- what is there, or an error of this message
abbrev pub found_or : {A : Type 0} → Text → Option A → Result A Error
found_or message None = Err (message_alone message)
found_or message (Some x) = Ok x

-- what is there, or an error of this message and this code
abbrev pub found_or_code : {A : Type 0} → Text → Text → Option A → Result A Error
found_or_code message code None = Err (error_with_code message code)
found_or_code message code (Some x) = Ok x
