-- What a step of a mutation leaves (6.2.2).
use Rattle.std.specs.Prelude.{◌≡◌, Bool, IsTrue, Result, Ok, Err}
use Rattle.juniper_conversions.specs.declared.field_error.ResolveError.{ResolveError}
use Rattle.juniper_conversions.specs.declared.field_error.ResolveError.TheVariants.{Field, Memory}

-- an answer or an error of the field leaves this context; want of memory one that may be torn from a step (6.2.2)
abbrev pub Leaves : {A S C : Type 0} → C → (C → Bool) → Result A (ResolveError S) → C → Type 0
Leaves next torn (Ok r) after = after ≡ next
Leaves next torn (Err (Field e)) after = after ≡ next
Leaves next torn (Err Memory) after = IsTrue (torn after)
