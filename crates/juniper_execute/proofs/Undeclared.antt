-- The type of a field that is not declared.
use Rattle.std.proofs.Common.{◌≡◌, true, false, [], ◌∷◌, None, refl}
use Rattle.std.proofs.lemmas.Bool.{both_ways}
use Rattle.graphql_spec.specs.Types.{TypeRef, named, list_of}
use Rattle.graphql_spec.specs.Fields.{declared_type}
use Rattle.juniper_execute.specs.Meanings.{is_undeclared}

pub undeclared-is : (t : TypeRef) → is_undeclared t ≡ true → t ≡ declared_type None
unfolding is_undeclared declared_type
undeclared-is (named false []) e = refl
undeclared-is (named false (x ∷ xs)) e = absurd (both_ways false refl e)
undeclared-is (named true n) e = absurd (both_ways false refl e)
undeclared-is (list_of r size t) e = absurd (both_ways false refl e)
