-- A budget of fields, by the way to walk (6.2).
use Rattle.std.proofs.Common.{ℕ, suc, ◌≡◌, ◌+◌, ◌-◌, ◌<◌, ◌≤◌, Bool, true, false, cond, List, IfOk, Result, refl, sym, ap, subst, arith}
use Rattle.graphql_spec.specs.Errors.{Listed}
use Rattle.graphql_spec.specs.Shown.{Name}
use Rattle.graphql_spec.specs.Values.{Value, Entries, no_entries, null, object, put}
use Rattle.juniper_walk.specs.Budget.{fields_in, fields_in_entries}
use Rattle.juniper_walk.proofs.Budget.{put-fields}
use Rattle.juniper_walk.specs.Plans.{IsBare}
use Rattle.juniper_walk.specs.declared.plan.Plan.{Plan}
use Rattle.juniper_execute.specs.Stepping.{IsGiven}
use Rattle.juniper_execute.specs.Walkings.{IsBounded}
use Rattle.juniper_execute.specs.declared.walking.Walking.{Walking}
use Rattle.juniper_execute.specs.declared.walking.Walking.TheVariants.{Grouped, Joined}

-- ## By the way to walk

-- where keys are walked at once, what is counted is bounded
pub bounded-grouped : {A E : Type 0} (w : Walking) → w ≡ Grouped → (n : A → ℕ) (fields : ℕ) (r : Result A E) → IfOk r (λ a. n a ≤ fields) →
    IfOk r (λ a. IsBounded w (n a) fields)
bounded-grouped w is n fields r p = subst (λ v. IfOk r (λ a. IsBounded v (n a) fields)) (sym is) p

-- ## The groups of a mutation

-- a plan without groups has what it was given
pub bare-own : {S Q : Type 0} (fields : ℕ) (p : Plan S Q) → IsBare fields p → IsBare p.left p
bare-own fields p bare = record {
  groups = bare.groups;
  occurrences = bare.occurrences;
  questions = bare.questions;
  below = bare.below;
  left = refl;
}

given-fields : (rises : Bool) (k : Name) (v : Value) (es : Entries) → fields_in_entries (cond rises es (put k v es)) ≤ suc (fields_in v + fields_in_entries es)
given-fields true k v es = omega arith
given-fields false k v es = put-fields k v es

-- a group's value was put in, or its null rises
pub given-counted : (w : Walking) (k : Name) (r : Bool) (v : Value) (more : List Listed) (rises : Bool) (es put_in : Entries) (errors listed : List Listed)
    (left before : ℕ) → IsGiven k r v more rises es put_in errors listed → IsBounded w (fields_in v + left) before →
    IsBounded w (fields_in_entries put_in + left) (suc (fields_in_entries es + before))
given-counted Grouped k r v more rises es put_in errors listed left before given b =
    let fits = given-fields rises k v es in
    let same = ap fields_in_entries given.puts in
    omega (arith, fits, same, b)
given-counted Joined k r v more rises es put_in errors listed left before given b = tt

-- no group has run
pub bounded-begins : (w : Walking) (es : Entries) (left groups base : ℕ) → es ≡ no_entries → left + groups ≤ base →
    IsBounded w (fields_in_entries es + left + groups) base
unfolding fields_in
bounded-begins Grouped es left groups base empty fits = let none = ap fields_in_entries empty in omega (arith, none, fits)
bounded-begins Joined es left groups base empty fits = tt

-- one more ran
pub bounded-next : (w : Walking) (old left new rest i end base : ℕ) → i < end → IsBounded w (old + left + (end - i)) base →
    IsBounded w (new + rest) (suc (old + left)) → IsBounded w (new + rest + (end - (i + 1))) base
bounded-next Grouped old left new rest i end base high so_far one = omega (arith, high, so_far, one)
bounded-next Joined old left new rest i end base high so_far one = tt

-- all ran
pub bounded-ends : (w : Walking) (v : Value) (es : Entries) (left groups base : ℕ) → v ≡ object es →
    IsBounded w (fields_in_entries es + left + groups) base → IsBounded w (fields_in v) base
unfolding fields_in
bounded-ends Grouped v es left groups base is so_far = let same = ap fields_in is in omega (arith, same, so_far)
bounded-ends Joined v es left groups base is so_far = tt

-- a null rose
pub bounded-null : (w : Walking) (v : Value) (base : ℕ) → v ≡ null → IsBounded w (fields_in v) base
unfolding fields_in
bounded-null Grouped v base is = let none = ap fields_in is in omega (arith, none)
bounded-null Joined v base is = tt
