-- Null, and what is not.
use Rattle.std.proofs.Common.{◌≡◌, true, false, ap, refl}
use Rattle.std.specs.Prelude.{◌≢◌}
use Rattle.std.proofs.lemmas.Bool.{both_ways}
use Rattle.graphql_spec.specs.Constants.{Constant, null, scalar, enumerated, variable, list, object, is_null}

pub null_is : (v : Constant) → is_null v ≡ true → v ≡ null
null_is null e = refl
null_is (scalar s) e = absurd (both_ways false refl e)
null_is (enumerated s) e = absurd (both_ways false refl e)
null_is (variable s) e = absurd (both_ways false refl e)
null_is (list s) e = absurd (both_ways false refl e)
null_is (object s) e = absurd (both_ways false refl e)

pub not_null : (v : Constant) → is_null v ≡ false → v ≢ null
not_null v e n = both_ways (is_null v) e (ap is_null n)
