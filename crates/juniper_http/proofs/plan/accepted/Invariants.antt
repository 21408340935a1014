use Rattle.std.proofs.Common.{◌≡◌, ◌++◌, map}
use Rattle.juniper_http.specs.Accept.{ranges_of, view_range}
use Rattle.juniper_http.specs.Plans.{taken_by}
use Rattle.juniper_http.proofs.plan.accepted.Given as goal

-- the ranges of the lines so far, with those of the lines to come, are all
abbrev pub invariant-loop-value : goal.invariant-loop-value
invariant-loop-value l = map view_range l.made.items ++ ranges_of l.value-iterator ≡ taken_by l.request
