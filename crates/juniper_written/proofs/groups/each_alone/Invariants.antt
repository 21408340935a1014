use Rattle.std.proofs.Common.{◌≡◌, Some}
use Rattle.graphql_spec.specs.Shown.{Name}
use Rattle.juniper_written.specs.WrittenView.{named}
use Rattle.juniper_written.specs.declared.groups.Root.{Root}
use Rattle.juniper_written.proofs.groups.each_alone.Given as goal

abbrev pub invariant-loop-index : goal.invariant-loop-index
invariant-loop-index l = (k : Name) (x : Root) → named l.roots k ≡ Some x → x.name.now ≡ k
