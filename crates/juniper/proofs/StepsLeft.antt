-- What a step leaves, whose answer has a root's nodes in place of the user's (6.2.2).
use Rattle.std.proofs.Common.{Bool, Result, Ok, Err, inl, inr}
use Rattle.juniper_conversions.specs.declared.field_error.ResolveError.{ResolveError}
use Rattle.juniper_conversions.specs.declared.field_error.ResolveError.TheVariants.{Field, Memory}
use Rattle.juniper_execute.specs.Stepping.{MayLeave}
use Rattle.juniper_intro.specs.Wants.{KeepsWant}
use Rattle.juniper_types.specs.Stepping.{Leaves}

pub may-leave : {A B S C : Type 0} (a : Result A (ResolveError S)) (b : Result B (ResolveError S)) (next : C) (torn : C → Bool) (after : C) →
    Leaves next torn a after → KeepsWant a b → MayLeave next torn b after
may-leave (Ok r) (Ok x) next torn after left k = left
may-leave (Ok r) (Err (Field e)) next torn after left k = left
may-leave (Ok r) (Err Memory) next torn after left k = inr left
may-leave (Err (Field e)) (Ok x) next torn after left k = left
may-leave (Err (Field e)) (Err (Field f)) next torn after left k = left
may-leave (Err (Field e)) (Err Memory) next torn after left k = inr left
may-leave (Err Memory) (Ok x) next torn after left k = absurd k
may-leave (Err Memory) (Err (Field f)) next torn after left k = absurd k
may-leave (Err Memory) (Err Memory) next torn after left k = inl left
