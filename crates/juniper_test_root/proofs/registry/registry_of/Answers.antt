use Rattle.std.proofs.Common.{sym, ◌∙◌}
use Rattle.juniper_registry.specs.Entries.{type_entries}
use Rattle.juniper_test_root.proofs.OwnEntries.{own_at}
use Rattle.juniper_test_root.proofs.registry.registry_of.Goals as goal

pub new-requires : goal.new-requires
new-requires g c = λ n. own_at (type_entries g.S.ScalarValue.shown c.args.types) n (sym c.are_own.ensures ∙ c.if-are_own.true)
