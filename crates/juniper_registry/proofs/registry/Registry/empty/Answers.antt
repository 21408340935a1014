use Rattle.std.proofs.Common.{◌≡◌, None, ap, refl, ◌∙◌}
use Rattle.graphql_spec.specs.Fields.{entry_in}
use Rattle.graphql_spec.specs.Shown.{Name}
use Rattle.juniper_registry.specs.Entries.{Table, table}
use Rattle.juniper_registry.proofs.registry.Registry.empty.Goals as goal

pub returns : goal.returns
unfolding entry_in
returns g c =
    let nothing : (n : Name) → table g.S.ScalarValue.shown c.new.result n ≡ None = λ n. rw c.new.ensures.empty refl in
    λ n. ap (λ (t : Table). t n) c.new-2.ensures ∙ nothing n
