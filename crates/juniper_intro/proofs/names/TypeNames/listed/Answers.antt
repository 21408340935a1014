use Rattle.std.proofs.Common.{map, take, string_bytes, ap, sym, ◌∙◌}
use Rattle.std.proofs.lemmas.List.{take-map}
use Rattle.juniper_intro.proofs.names.TypeNames.listed.Goals as goal

pub returns : goal.returns
returns c = ap (λ l. map (λ n. string_bytes n) (take c.args.self.now.listed l)) c.as_slice.ensures.value
    ∙ sym (take-map (λ n. string_bytes n) c.args.self.now.listed c.args.self.now.names.items)
