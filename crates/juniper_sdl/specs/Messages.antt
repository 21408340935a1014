-- What a fault is shown as: this project's own words.
use Rattle.std.specs.Prelude.{codes, ◌++◌}
use Rattle.graphql_spec.specs.Shown.{Text}
use Rattle.juniper_sdl.specs.Faults.{Fault, view_fault}
use Rattle.juniper_sdl.specs.declared.fault.Flaw.{Flaw}
use Rattle.juniper_sdl.specs.declared.fault.Flaw.TheVariants.{NoName, NoParts}
use Rattle.juniper_sdl.specs.declared.fault.SdlError.{SdlError}
use Rattle.juniper_sdl.specs.declared.fault.SdlError.TheVariants as errors

abbrev pub flaw_text : Flaw → Text
flaw_text NoParts = codes "it lists no field, value or member"
flaw_text NoName = codes "a name is no Name, or a default value is no constant"

abbrev pub fault_text : Fault → Text
fault_text f = f.type_name ++ codes ": " ++ flaw_text f.flaw

abbrev pub error_text : SdlError → Text
error_text (errors.Fault f) = fault_text (view_fault f)
error_text errors.Memory = codes "Out of memory"
