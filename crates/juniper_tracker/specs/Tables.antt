-- The tables as data: each user and each issue is known by its place.
use Rattle.std.specs.Prelude.{ℕ, List, [], ◌∷◌, Option, Some, None, option_map, codes}
use Rattle.juniper.specs.Server.{Name, Text, bytes_eq, position, slice_get}
use Rattle.juniper_tracker.specs.declared.tracker.Issue.{Issue}
use Rattle.juniper_tracker.specs.declared.tracker.State.{State}
use Rattle.juniper_tracker.specs.declared.tracker.State.TheVariants.{Open, Closed}
use Rattle.juniper_tracker.specs.declared.tracker.User.{User}

pub record Tables : Type 0 where
  pub users : List User
  pub issues : List Issue

-- the name of a state (3.9)
abbrev pub state_name : State → Name
state_name Open = codes "OPEN"
state_name Closed = codes "CLOSED"

abbrev pub states : List State
states = Open ∷ Closed ∷ []

abbrev pub user_of : Tables → Text → Option ℕ
user_of t id = position (λ u. bytes_eq u.id id) t.users

abbrev pub issue_of : Tables → Text → Option ℕ
issue_of t id = position (λ i. bytes_eq i.id id) t.issues

abbrev pub cursor : Tables → Option ℕ → Option Text
cursor t None = None
cursor t (Some i) = option_map (λ i. i.id) (slice_get t.issues i)
