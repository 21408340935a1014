use Rattle.std.proofs.Common.{rules, ◌≡◌, string_bytes, ap, ◌∙◌}
use Rattle.std.specs.List.{flat_map}
use Rattle.graphql_spec.specs.TypeList.{type_list}
use Rattle.juniper_schema.specs.MadeTypes.{view_made}
use Rattle.juniper_schema.specs.SchemaView.{meta_of, view_schema}
use Rattle.juniper_sdl.proofs.Lists.{all_texts}
use Rattle.juniper_sdl.specs.Definitions.{made_text, meta_text}
use Rattle.juniper_sdl.proofs.sdl.schema_text.Goals as goal

pub returns : goal.returns
returns g c =
    let shown = g.S.ScalarValue.shown in
    let es = type_list (view_schema shown c.args.schema.now) in
    let d : string_bytes c.in_ok-definitions.definitions ≡ flat_map (λ x. meta_text (meta_of x)) es =
    c.in_ok-definitions.ensures ∙ (ap (flat_map (λ t. made_text (view_made shown t))) c.as_slice.ensures.value
    ∙ all_texts (view_made shown) c.in_ok-types.types.items es c.in_ok-types.ensures) in
    search (rules, d)
