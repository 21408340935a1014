use Rattle.std.proofs.Common.{ap}
use Rattle.std.specs.Map.{lookup}
use Rattle.std.specs.Str.{bytes_eq}
use Rattle.juniper_written.specs.WrittenView.{named}
use Rattle.juniper_written.proofs.name_map.NameMap.new.Goals as goal

pub returns : goal.returns
unfolding named
returns g c = λ k. ap (lookup (λ n. bytes_eq k n.now)) c.new.ensures.empty
