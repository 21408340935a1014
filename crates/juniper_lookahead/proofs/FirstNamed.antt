-- A turn of the loop that seeks an argument by its name.
use Rattle.std.proofs.Common.{◌≡◌, true, false, cond, List, ◌∷◌, Option, Some, ap, sym, ◌∙◌}
use Rattle.std.specs.Str.{bytes_eq}
use Rattle.graphql_spec.specs.Shown.{Name}
use Rattle.graphql_spec.specs.Documents.{Argument}
use Rattle.juniper_lookahead.specs.ShownValues.{first_named}

module _ (n : Name) (a : Argument) (left more : List Argument) (all : Option Argument) (is : left ≡ a ∷ more) (same : first_named n left ≡ all) where
  here : cond (bytes_eq a.name.item n) (Some a) (first_named n more) ≡ all
  unfolding first_named
  here = sym (ap (first_named n) is) ∙ same

  pub named-found : bytes_eq a.name.item n ≡ true → Some a ≡ all
  named-found t = sym (ap (λ b. cond b (Some a) (first_named n more)) t) ∙ here

  pub named-further : bytes_eq a.name.item n ≡ false → first_named n more ≡ all
  named-further t = sym (ap (λ b. cond b (Some a) (first_named n more)) t) ∙ here
