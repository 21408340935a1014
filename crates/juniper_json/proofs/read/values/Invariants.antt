use Rattle.std.proofs.Common.{◌≡◌, List, ◌++◌}
use Rattle.juniper_syntax.specs.InputView.{view_variables}
use Rattle.juniper_syntax.specs.Scalars.{default_shown}
use Rattle.juniper_json.specs.Given.{values_of}
use Rattle.serde_json.proofs.Views.{Entry}
use Rattle.serde_json.specs.View.{members_view}
use Rattle.juniper_json.proofs.read.values.Given as goal

-- some members are done, and their values are made
abbrev pub invariant-loop-name : goal.invariant-loop-name
invariant-loop-name l =
    (done : List Entry) × (l.members.entries ≡ done ++ l.name-iterator) × (view_variables default_shown l.made ≡ values_of (members_view done))
