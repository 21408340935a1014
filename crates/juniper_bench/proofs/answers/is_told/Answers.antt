use Rattle.std.proofs.Common.{◌∙◌, ap, sym}
use Rattle.juniper_bench.specs.Answers.{executable_word}
use Rattle.juniper_bench.proofs.answers.is_told.Goals as goal

pub returns-then-schema_is_executable : goal.returns-then-schema_is_executable
unfolding executable_word
returns-then-schema_is_executable c = sym (ap executable_word (sym c.schema_is_executable.ensures ∙ c.if-schema_is_executable.true))

pub returns-else-schema_is_executable : goal.returns-else-schema_is_executable
unfolding executable_word
returns-else-schema_is_executable c = sym (ap executable_word (sym c.schema_is_executable.ensures ∙ c.if-schema_is_executable.false))
