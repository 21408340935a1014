-- The kinds of scalars.
use Rattle.std.proofs.Common.{◌≡◌, is_some, cond, refl}
use Rattle.graphql_spec.specs.Shown.{Shown, int, text, boolean, shown_int, shown_boolean}
use Rattle.graphql_spec.specs.Schema.{ScalarKinds}
use Rattle.graphql_spec.specs.Fields.{accepts_kind}

-- a scalar is of one kind
pub kind_is_one : (k : ScalarKinds) (x : Shown) → accepts_kind k x ≡ cond (is_some (shown_int x)) k.int (cond (is_some (shown_boolean x)) k.boolean k.text)
unfolding accepts_kind shown_int shown_boolean
kind_is_one k (int i) = refl
kind_is_one k (text t) = refl
kind_is_one k (boolean b) = refl
