use Rattle.std.proofs.Common.{◌≡◌, drop}
use Rattle.std.specs.List.{list_any}
use Rattle.std.specs.Str.{bytes_eq}
use Rattle.juniper_http.proofs.origins.is_one_of.Given as goal

-- those to come decide
abbrev pub invariant-loop-one : goal.invariant-loop-one
invariant-loop-one l =
    list_any (λ one. bytes_eq one.now l.origin) (drop l.one-index l.them) ≡ list_any (λ one. bytes_eq one.now l.origin) l.them
