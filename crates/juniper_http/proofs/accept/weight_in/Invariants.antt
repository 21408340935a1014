use Rattle.std.proofs.Common.{◌≡◌, length}
use denote.Text.{Utf8}
use denote.Shadow.{shadow}
use Rattle.juniper_http.specs.Accept.{weights_in}
use Rattle.juniper_http.proofs.accept.weight_in.Given as goal

-- no weight was given so far
abbrev pub invariant-parameters : goal.invariant-parameters
invariant-parameters l = shadow (Utf8 l.rest) × (weights_in l.rest ≡ weights_in l.fn.parameters)

abbrev pub decreases-parameters : goal.decreases-parameters
decreases-parameters l = length l.rest
