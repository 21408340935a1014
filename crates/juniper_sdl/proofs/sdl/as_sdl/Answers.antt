use Rattle.std.proofs.Common.{option_map, ap, sym, string_bytes, ◌∙◌}
use Rattle.juniper_schema.specs.SchemaView.{view_schema}
use Rattle.juniper_sdl.specs.Faults.{view_fault}
use Rattle.juniper_sdl.proofs.SpelledSchemas.{spelled_text}
use Rattle.juniper_sdl.proofs.sdl.as_sdl.Goals as goal

pub returns-in_ok-text-in-None-clause-spelled : goal.returns-in_ok-text-in-None-clause-spelled
returns-in_ok-text-in-None-clause-spelled g c =
    spelled_text (view_schema g.S.ScalarValue.shown c.args.schema.now) (string_bytes c.in_ok-text-in-None.text) c.in_ok-text-in-None.ensures
    (sym (ap (option_map view_fault) c.in-None.is) ∙ c.in_ok-found.ensures)
