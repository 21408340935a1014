-- Errors that say nothing more than a message (6.4.4).
use Rattle.graphql_spec.specs.Shown.{Text}
use Rattle.graphql_spec.specs.Values as values
use Rattle.graphql_spec.specs.Resolvers.{Error}

-- the error of this message alone
abbrev pub message_alone : Text → Error
message_alone text = record { message = text; extensions = values.null }
