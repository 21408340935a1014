-- A reference to a list beside what it stands for.
use Rattle.std.proofs.Common.{◌≡◌, ℕ, true, false, Option, Box, String, Global, rules}
use Rattle.graphql_spec.specs.Types.{list_of}
use Rattle.juniper_meta.specs.MetaView.{view_type}
use Rattle.juniper_syntax.specs.declared.types.«Type».{«Type» as CodeType, List as ListOf, NonNullList, the_lemmas}

pub view-List : (t : Box (CodeType (String Global)) Global) (size : Option ℕ) → view_type (ListOf t size) ≡ list_of false size (view_type t.value)
view-List t size = search (rules, the_lemmas)

pub view-NonNullList : (t : Box (CodeType (String Global)) Global) (size : Option ℕ) → view_type (NonNullList t size) ≡ list_of true size (view_type t.value)
view-NonNullList t size = search (rules, the_lemmas)
