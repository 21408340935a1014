-- What one more written argument puts in (6.4.1).
use Rattle.std.proofs.Common.{◌≡◌, cond, Option, Some, None, is_some, refl, inl, inr}
use Rattle.std.proofs.lemmas.Bool.{cases_Bool}
use Rattle.graphql_spec.specs.Arguments.{put_default, put_given}
use Rattle.graphql_spec.specs.Constants.{Members, find}
use Rattle.graphql_spec.specs.Inputs.{Input}
use Rattle.graphql_spec.specs.Shown.{Name}

-- a value for a name, unless one is there
pub put-unless : (k : Name) (o : Option Input) (ms : Members) → put_default k o ms ≡ cond (is_some (find k ms)) ms (put_given k o ms)
unfolding put_default put_given
put-unless k None ms = elim (cases_Bool (is_some (find k ms))) [ inl e ↦ rw e refl | inr e ↦ rw e refl ]
put-unless k (Some v) ms = refl
