-- A type is registered where its declaration is put behind what it refers to.
use Rattle.std.proofs.Common.{◌≡◌, false, cond, Some, ap₂, ◌∙◌}
use Rattle.std.specs.Str.{bytes_eq}
use Rattle.graphql_spec.specs.Shown.{Name}
use Rattle.juniper_meta.specs.MetaView.{Meta, entry_at}
use Rattle.juniper_registry.specs.Entries.{Table, IsRegistered, awaiting_each, declaring, is_declared}
use Rattle.juniper_registry.specs.Referred.{referred}

pub registered : (k : Name) (m d : Meta) (old between new : Table) → is_declared (old k) ≡ false → m ≡ d
    → ((n : Name) → between n ≡ awaiting_each (referred d.shape) old n) → ((n : Name) → new n ≡ declaring k m between n) → IsRegistered k d old new
registered k m d old between new free same awaited put =
    record { free = free; held = λ n. put n ∙ ap₂ (λ e o. cond (bytes_eq n k) (Some (entry_at n e)) o) same (awaited n) }
