-- Want of memory, kept through a call.
use Rattle.std.specs.Prelude.{Result, Ok, Err}
use Rattle.juniper_conversions.specs.declared.field_error.ResolveError.{ResolveError}
use Rattle.juniper_conversions.specs.declared.field_error.ResolveError.TheVariants.{Field, Memory}

-- where memory was wanting before, that is what is answered
abbrev pub KeepsWant : {A B S : Type 0} → Result A (ResolveError S) → Result B (ResolveError S) → Type 0
KeepsWant (Err Memory) (Err Memory) = Unit {0}
KeepsWant (Err Memory) (Err (Field e)) = ⊥
KeepsWant (Err Memory) (Ok r) = ⊥
KeepsWant (Err (Field e)) b = Unit {0}
KeepsWant (Ok r) b = Unit {0}
