use Rattle.std.proofs.Common.{rules, refl}
use Rattle.juniper_syntax.proofs.Displays.{shows_one}
use Rattle.juniper_json.proofs.Scalars.{number_data, truth_data, text_data}
use Rattle.juniper_json.proofs.line.send_scalar.Goals as goal

pub returns-in-Some : goal.returns-in-Some
returns-in-Some g c =
    rw (number_data (g.S.ScalarValue.shown c.args.scalar.now) c.try_to_int.result c.in-Some.number c.try_to_int.ensures c.in-Some.is) (search rules)

pub returns-in-Some-try_to_bool : goal.returns-in-Some-try_to_bool
returns-in-Some-try_to_bool g c = rw (truth_data (g.S.ScalarValue.shown c.args.scalar.now) c.try_to_bool.result c.in-Some-try_to_bool.truth
    c.try_to_bool.ensures c.in-Some-try_to_bool.is) c.bool.ensures

pub unreachable-requires : goal.unreachable-requires
unreachable-requires g c = shows_one (g.S.ScalarValue.shown c.args.scalar.now) _ _ _ c.try_to_int.ensures c.try_to_bool.ensures c.in-None.ensures
    c.in_default.is c.in_default-try_to_bool.is refl

pub returns : goal.returns
returns g c = rw (text_data (g.S.ScalarValue.shown c.args.scalar.now) _ c.in-Some-try_to_str.text.now c.in-Some-try_to_str.ensures refl) c.str.ensures
