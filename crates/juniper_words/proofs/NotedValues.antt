-- A value of an enum, with what notes say of it.
use Rattle.std.proofs.Common.{◌≡◌, Option, None, Some, refl}
use Rattle.graphql_spec.specs.BuiltIns.{value_named}
use Rattle.graphql_spec.specs.Shown.{Name, Text}
use Rattle.juniper_words.specs.Data.{deprecated_if, described_if}
use Rattle.juniper_words.specs.Notes.{deprecation}

pub value_is : (n : Name) (t r : Option Text) →
    record { name = n; description = t; deprecation = deprecation r } ≡ deprecated_if r (described_if t (value_named n))
unfolding value_named
value_is n None None = refl
value_is n None (Some r) = refl
value_is n (Some t) None = refl
value_is n (Some t) (Some r) = refl
