use Rattle.std.proofs.Common.{◌∙◌}
use Rattle.juniper_cache.proofs.Using.{found-among}
use Rattle.juniper_cache.proofs.text_cache.TextCache.is_kept.Goals as goal

pub returns : goal.returns
returns g c = c.contains.ensures ∙ found-among c.args.text.now c.args.self.now.kept.entries
