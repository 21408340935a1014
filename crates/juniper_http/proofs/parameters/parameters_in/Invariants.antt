use Rattle.std.proofs.Common.{◌≡◌}
use Rattle.form_urlencoded.specs.Parse.{owned_pairs_left}
use Rattle.juniper_http.specs.Parameters.{given_in, view_parameters}
use Rattle.juniper_http.proofs.Pairs.{behind}
use Rattle.juniper_http.proofs.parameters.parameters_in.Given as goal

-- what is found, put behind what is still to come, is the whole
abbrev pub invariant-loop-pair : goal.invariant-loop-pair
invariant-loop-pair l = behind (owned_pairs_left l.pair-iterator) (view_parameters l.found) ≡ given_in l.query
