-- Declarations that are registered one after the other.
use Rattle.std.proofs.Common.{◌≡◌, ◌||◌, false, ap, ◌∙◌, ◌∷◌, Result, Ok, Err, subst}
use Rattle.graphql_spec.specs.Shown.{Name}
use Rattle.juniper_words.specs.Data.{Declarations, RegistersAll, collide, with_declared}
use Rattle.juniper_meta.specs.MetaView.{Meta}
use Rattle.juniper_registry.specs.Entries.{IsRegistered, Table, is_declared}
use Rattle.juniper_registry.specs.declared.error.RegistryError.{RegistryError}
use Rattle.juniper_registry.specs.declared.error.RegistryError.TheVariants.{AlreadyRegistered, Memory}

-- a name that is free leaves the choice to the declarations behind
behind : (d : Name × Meta) (ds : Declarations) (r : Result (Unit {0}) RegistryError) (old new : Table)
    → is_declared (old (d.0)) ≡ false → RegistersAll r ds (with_declared d old) new → RegistersAll r (d ∷ ds) old new
behind d ds (Ok x) old new free rest = (ap (λ taken. taken || collide ds (with_declared d old)) free ∙ rest.0, rest.1)
behind d ds (Err AlreadyRegistered) old new free rest = ap (λ taken. taken || collide ds (with_declared d old)) free ∙ rest
behind d ds (Err Memory) old new free rest = tt

-- a declaration is registered, and then those behind it
pub registered : (d : Name × Meta) (ds : Declarations) (r : Result (Unit {0}) RegistryError) (old mid new : Table)
    → IsRegistered d.0 d.1 old mid → RegistersAll r ds mid new → RegistersAll r (d ∷ ds) old new
registered d ds r old mid new first rest =
    let next : mid ≡ with_declared d old = λ i n. (first.held n) i in
    behind d ds r old new first.free (subst (λ (t : Table). RegistersAll r ds t new) next rest)
