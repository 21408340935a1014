-- Where each entry stands at its own name, so does what stands at any name.
use Rattle.std.specs.Prelude.{◌≡◌, true, List, [], ◌∷◌}
use Rattle.std.specs.List.{list_all}
use Rattle.std.specs.Str.{bytes_eq}
use Rattle.std.proofs.Common.{refl, inl, inr}
use Rattle.std.proofs.lemmas.Bool.{and_parts, cases_Bool}
use Rattle.graphql_spec.specs.Fields.{entry_in}
use Rattle.graphql_spec.specs.Schema.{Entry}
use Rattle.graphql_spec.specs.Shown.{Name}
use Rattle.juniper_registry.specs.Entries.{is_own}
use Rattle.juniper_test_root.specs.OwnNames.{entry_is_own}

pub own_at : (es : List Entry) (n : Name) → list_all entry_is_own es ≡ true → is_own (entry_in es n) ≡ true
unfolding entry_in entry_is_own
own_at [] n all = refl
own_at (e ∷ es) n all =
    let parts = and_parts (entry_is_own e) (list_all entry_is_own es) all in
    elim (cases_Bool (bytes_eq n e.key)) [
      | inl at ↦ rw (at) parts.0
      | inr at ↦ rw (at) (own_at es n parts.1)
    ]
