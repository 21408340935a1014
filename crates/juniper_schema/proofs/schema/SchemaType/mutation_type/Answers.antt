use Rattle.std.proofs.Common.{String, Global, Option, option_map, string_bytes, ap, sym, ◌∙◌}
use Rattle.std.specs.Option.{option_and_then}
use Rattle.juniper_schema.specs.MadeTypes.{concrete}
use Rattle.juniper_schema.specs.SchemaView.{entry_meta, view_schema}
use Rattle.juniper_schema.proofs.schema.SchemaType.mutation_type.Goals as goal

pub returns-in-Some : goal.returns-in-Some
returns-in-Some g c =
    let s = view_schema g.S.ScalarValue.shown c.args.self.now in
    c.entry_type.ensures ∙ (ap (λ n. option_map concrete (entry_meta s n)) c.as_str.ensures.value
    ∙ sym (ap (λ (o : Option (String Global)). option_map concrete (option_and_then (entry_meta s) (option_map (λ n. string_bytes n) o))) c.in-Some.is))
