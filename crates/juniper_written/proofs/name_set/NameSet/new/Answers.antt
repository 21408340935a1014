use Rattle.std.proofs.Common.{ap}
use Rattle.std.specs.List.{list_any}
use Rattle.std.specs.Str.{bytes_eq}
use Rattle.juniper_written.specs.WrittenView.{has_name}
use Rattle.juniper_written.proofs.name_set.NameSet.new.Goals as goal

pub returns : goal.returns
unfolding has_name
returns c = λ n. ap (list_any (λ k. bytes_eq n k.now)) c.new.ensures.empty
