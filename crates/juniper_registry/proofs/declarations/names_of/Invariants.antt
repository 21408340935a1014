use Rattle.std.proofs.Common.{◌≡◌, ◌++◌, drop, map}
use Rattle.juniper_meta.specs.MetaView.{view_names}
use Rattle.juniper_registry.proofs.declarations.names_of.Given as goal

-- what is made, before what is still to be made, is the whole
abbrev pub invariant-loop-text : goal.invariant-loop-text
invariant-loop-text l = view_names l.names.items ++ map (λ n. n.now) (drop l.text-index l.texts) ≡ map (λ n. n.now) l.texts
