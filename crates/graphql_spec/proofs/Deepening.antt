-- What was walked counts down from any depth that is enough (6.3).
use Rattle.std.proofs.Common.{◌≤◌, ◌<◌, ℕ, List, ◌∙◌, subst, arith, Bool}
use Rattle.graphql_spec.specs.Shown.{Name}
use Rattle.graphql_spec.specs.Values.{Value, is_null}
use Rattle.graphql_spec.specs.Errors.{Place, Listed}
use Rattle.graphql_spec.specs.Selections.{Forest, depth, Occurrence, occurrences}
use Rattle.graphql_spec.specs.Resolvers.{World}
use Rattle.graphql_spec.specs.Failures.{failures}
use Rattle.graphql_spec.specs.Nulls.{nulls}
use Rattle.graphql_spec.specs.Laws.{In}
use Rattle.graphql_spec.specs.Walk.{Met}
use Rattle.graphql_spec.proofs.Depth.{Fits, fits-occurrences, grouped-deep, failures-deep, nulls-deep}
use Rattle.graphql_spec.specs.Walks.{IsWalked}

module _ (tell : Place → Place) {N : Type 0} (W : World N) where
  pub lifted : (d : ℕ) (s : Forest) → depth s ≤ d → (here above : Place) (T : Name) (m : N) (v : Value) (es : List Listed) →
      IsWalked tell W (depth s) here above T m (occurrences W.possible T s) v es → IsWalked tell W d here above T m (occurrences W.possible T s) v es
  lifted d s deep here above T m v es w =
      let os = occurrences W.possible T s in
      let f : Fits (depth s) os = fits-occurrences W.possible T s in
      let g : Fits d os = λ o i. let r = f o i in omega (arith, r, deep) in
      record {
        value = w.value ∙ grouped-deep W (depth s) d T m os f g;
        errors = subst (λ z. Met tell (is_null v) es (failures W d here above T m os) above z) (nulls-deep W (depth s) d here T m os f g)
            (subst (λ z. Met tell (is_null v) es z above (nulls W (depth s) here T m os)) (failures-deep W (depth s) d here above T m os f g) w.errors);
      }

pub fields-are-shallower : (possible : Name → Name → Bool) (T : Name) (s : Forest) (o : Occurrence) → In o (occurrences possible T s) → depth o.below < depth s
fields-are-shallower possible T s o i = fits-occurrences possible T s o i
