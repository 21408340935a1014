-- the test on meanings decides that they are equal
use Rattle.std.specs.Prelude.{true, false, ◌&&◌, ◌≡◌}
use Rattle.std.specs.Str.{bytes_eq}
use Rattle.std.proofs.lemmas.Bool.{both_ways, and_parts}
use Rattle.std.proofs.Common.{refl, ap, ◌∙◌}
use Rattle.graphql_spec.specs.Constants.{Constant, null, scalar, enumerated, variable, list, object, Constants, no_constants, constant, Members, no_members}
use Rattle.graphql_spec.specs.Constants.{member, same_constant, same_constants, same_members}
use Rattle.graphql_spec.proofs.Equality.{same_shown-true}
use Rattle.graphql_spec.proofs.Lists.{same_true}

mutual
  unfolding same_constant

  same_constant-true : (u v : Constant) → same_constant u v ≡ true → u ≡ v
  same_constant-true null null e = refl
  same_constant-true (scalar x) (scalar y) e = ap scalar (same_shown-true x y e)
  same_constant-true (enumerated x) (enumerated y) e = ap enumerated (same_true x y e)
  same_constant-true (variable x) (variable y) e = ap variable (same_true x y e)
  same_constant-true (list us) (list vs) e = ap list (same_constants-true us vs e)
  same_constant-true (object us) (object vs) e = ap object (same_members-true us vs e)
  same_constant-true u v e = absurd (both_ways false refl e)

  same_constants-true : (us vs : Constants) → same_constants us vs ≡ true → us ≡ vs
  same_constants-true no_constants no_constants e = refl
  same_constants-true (constant u us) (constant v vs) e =
      let p = and_parts (same_constant u v) (same_constants us vs) e in
      ap (λ z. constant z us) (same_constant-true u v p.0) ∙ ap (constant v) (same_constants-true us vs p.1)
  same_constants-true us vs e = absurd (both_ways false refl e)

  pub same_members-true : (us vs : Members) → same_members us vs ≡ true → us ≡ vs
  same_members-true no_members no_members e = refl
  same_members-true (member k u us) (member j v vs) e =
      let p = and_parts (bytes_eq k j) (same_constant u v && same_members us vs) e in
      let q = and_parts (same_constant u v) (same_members us vs) p.1 in
      ap (λ z. member z u us) (same_true k j p.0) ∙ (ap (λ z. member j z us) (same_constant-true u v q.0) ∙ ap (member j v) (same_members-true us vs q.1))
  same_members-true us vs e = absurd (both_ways false refl e)
