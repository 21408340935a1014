-- What a call within a budget of fields answers, under other readings (6.1).
use Rattle.std.proofs.Common.{◌≡◌, ◌≢◌, ◌<◌, ℕ, Option, None, Some, Result, Ok, Err, Vec, Global, map, sym, subst}
use Rattle.graphql_spec.specs.Outcomes as outcome
use Rattle.graphql_spec.specs.Outcomes.{Response, Service, responds, refuses}
use Rattle.graphql_spec.specs.Requests.{Outcome}
use Rattle.graphql_spec.specs.Shown.{Shown}
use Rattle.juniper_conversions.specs.ErrorView.{view_listed}
use Rattle.juniper_conversions.specs.declared.execution_error.ExecutionError.{ExecutionError}
use Rattle.juniper_syntax.specs.ValueView.{view_value}
use Rattle.juniper_syntax.specs.declared.value.Value.{Value}
use Rattle.juniper_walk.specs.declared.walked.Stop.{Stop}
use Rattle.juniper_walk.specs.declared.walked.Stop.TheVariants as stops
use Rattle.juniper_execute.specs.declared.walking.Walking.TheVariants.{Grouped}
use Rattle.juniper.specs.Answering.{Responds}
use Rattle.juniper.specs.Budgets.{AnswersWithin, IsSpentOnly, RefusesWithin, SpendsOnly, error_of, of_stop}
use Rattle.juniper_walk.specs.Entered.{SpendsGiven}
use Rattle.juniper.specs.Promised.{IsFullOutcomeOf}
use Rattle.juniper.specs.RequestErrors.{view_request_error}
use Rattle.juniper.specs.WalkedOutcomes.{IsWalkedOutcome}
use Rattle.juniper.specs.declared.budget.Within.{Within}
use Rattle.juniper.specs.declared.budget.Within.TheVariants.{Refused, Spent}
use Rattle.juniper.specs.declared.error.GraphQLError.{GraphQLError}
use Rattle.juniper.proofs.Composing.{responds-so}

module _ (P Q : Response → Type 0) (f : (r : Response) → P r → Q r) where
  pub within-refuses : (w : Within) → RefusesWithin P w → RefusesWithin Q w
  within-refuses (Refused e) p = responds-so P Q f (view_request_error e) p
  within-refuses Spent p = f outcome.out_of_memory p

  pub within-answers : {S : Type 0} (shown : S → Shown) (a : Result (Value S × Vec (ExecutionError S) Global) Within) → AnswersWithin shown P a →
      AnswersWithin shown Q a
  within-answers shown (Ok p) x = f (responds (view_value shown p.0) (map (view_listed shown) p.1.items)) x
  within-answers shown (Err w) x = within-refuses w x

  -- where there is no budget
  unbounded : (w : Within) → RefusesWithin P w → Responds Q (view_request_error (error_of w))
  unbounded (Refused e) p = responds-so P Q f (view_request_error e) p
  unbounded Spent p = f outcome.out_of_memory p

  pub without-budget : (w : Within) (e : GraphQLError) → e ≡ error_of w → RefusesWithin P w → Responds Q (view_request_error e)
  without-budget w e is p = subst (λ x. Responds Q (view_request_error x)) (sym is) (unbounded w p)

-- a walk that was not ended leaves what want of memory leaves
pub stop-refuses : (P : Response → Type 0) (s : Stop) (w : Within) → w ≡ of_stop s → P outcome.out_of_memory → RefusesWithin P w
stop-refuses P s w is p = subst (RefusesWithin P) (sym is) (go s)
  where
    go : (t : Stop) → RefusesWithin P (of_stop t)
    go stops.Memory = p
    go stops.Spent = p

-- where no budget is given, none is spent
pub unspent : (over : ℕ → Type 0) (w : Within) → IsSpentOnly None over w → w ≢ Spent
unspent over (Refused e) only = λ is. cc
unspent over Spent only = λ is. let none : None ≡ Some only.0 = only.1 in absurd cc

-- a walk that spends its budget enters more
pub stop-runs : (A : Type 0) (over : ℕ → Type 0) (fields : Option ℕ) (n : ℕ) (s : Stop) (w : Within) → w ≡ of_stop s → SpendsGiven {A = A} fields n (Err s) →
    ((left : ℕ) → left < n → over left) → IsSpentOnly fields over w
stop-runs A over fields n s w is given f = subst (IsSpentOnly fields over) (sym is) (go s given)
  where
    go : (t : Stop) → SpendsGiven {A = A} fields n (Err t) → IsSpentOnly fields over (of_stop t)
    go stops.Memory g = tt
    go stops.Spent g = (g.0, g.1, f g.0 g.2)

-- what is spent only by what runs, under another reading
pub spent-so : (P Q : ℕ → Type 0) → ((n : ℕ) → P n → Q n) → (fields : Option ℕ) (w : Within) → IsSpentOnly fields P w → IsSpentOnly fields Q w
spent-so P Q f fields (Refused e) only = tt
spent-so P Q f fields Spent only = (only.0, only.1, f only.0 only.2)

pub spends-so : {A : Type 0} (P Q : ℕ → Type 0) → ((n : ℕ) → P n → Q n) → (fields : Option ℕ) (r : Result A Within) → SpendsOnly fields P r →
    SpendsOnly fields Q r
spends-so P Q f fields (Ok a) only = tt
spends-so P Q f fields (Err w) only = spent-so P Q f fields w only

-- what the walk promises where keys are walked at once
pub walked-full : {C N : Type 0} (S : Service C N) (x : Outcome) (c : C) (r : Response) (after : C) → IsWalkedOutcome S Grouped x c r after →
    IsFullOutcomeOf S x c r after
walked-full S x c (refuses r) after o = o
walked-full S x c (responds v es) after o = o
walked-full S x c outcome.out_of_memory after o = o
