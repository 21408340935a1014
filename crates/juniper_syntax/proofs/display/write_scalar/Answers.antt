use Rattle.std.proofs.Common.{refl, arith, w32, to_z, of_z, to_z-of_z}
use Rattle.std.proofs.Output.{has_written_of_eq}
use Rattle.juniper_syntax.proofs.Displays.{number_text, truth_text, quoted_text, shows_one}
use Rattle.juniper_syntax.proofs.display.write_scalar.Goals as goal

pub returns-in-Some : goal.returns-in-Some
returns-in-Some g c plain ok =
    let n = c.in-Some.number in
    let same = number_text (g.S.ScalarValue.shown c.args.scalar.now) c.try_to_int.result n (to_z w32 (of_z w32 n)) c.try_to_int.ensures c.in-Some.is
    (grind (arith, to_z-of_z)) in
    has_written_of_eq _ _ _ _ c.write.new.self same (c.write.ensures.writes plain ok)

pub returns-in-Some-try_to_bool : goal.returns-in-Some-try_to_bool
returns-in-Some-try_to_bool g c plain ok =
    let same = truth_text (g.S.ScalarValue.shown c.args.scalar.now) c.try_to_bool.result c.in-Some-try_to_bool.truth c.try_to_bool.ensures
    c.in-Some-try_to_bool.is in
    has_written_of_eq _ _ _ _ _ same (c.write-in-Some-try_to_bool.ensures.writes plain ok)

pub unreachable-requires : goal.unreachable-requires
unreachable-requires g c = shows_one (g.S.ScalarValue.shown c.args.scalar.now) _ _ _ c.try_to_int.ensures c.try_to_bool.ensures c.in-None.ensures
    c.in_default.is c.in_default-try_to_bool.is refl

pub returns : goal.returns
returns g c plain ok =
    has_written_of_eq _ _ _ _ _ (quoted_text (g.S.ScalarValue.shown c.args.scalar.now) _ c.in-Some-try_to_str.text.now c.in-Some-try_to_str.ensures refl)
    (c.write_quoted.ensures plain ok)
