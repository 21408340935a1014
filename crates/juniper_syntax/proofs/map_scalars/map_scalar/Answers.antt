use Rattle.std.proofs.Common.{◌≡◌, refl, ap, ◌∙◌, arith, w32, to_z, of_z, to_z-of_z}
use Rattle.std.proofs.lemmas.Result.{IfOk-weaker}
use Rattle.graphql_spec.specs.Shown.{int, text}
use Rattle.juniper_syntax.proofs.Displays.{shows_one}
use Rattle.juniper_syntax.proofs.Mapped.{shows_int, shows_boolean, shows_text}
use Rattle.juniper_syntax.proofs.map_scalars.map_scalar.Goals as goal

pub returns-in-Some : goal.returns-in-Some
returns-in-Some g c =
    let n = c.in-Some.number in
    let same : to_z w32 (of_z w32 n) ≡ n = grind (arith, to_z-of_z) in
    c.from_int.ensures ∙ (ap int same ∙ shows_int _ n c.in-Some.ensures)

pub returns-in-Some-try_to_bool : goal.returns-in-Some-try_to_bool
returns-in-Some-try_to_bool g c = c.from_bool.ensures ∙ shows_boolean _ c.in-Some-try_to_bool.truth c.in-Some-try_to_bool.ensures

pub unreachable-requires : goal.unreachable-requires
unreachable-requires g c = shows_one (g.S.ScalarValue.shown c.args.scalar.now) _ _ _ c.try_to_int.ensures c.try_to_bool.ensures c.in-None.ensures
    c.in_default.is c.in_default-try_to_bool.is refl

pub returns : goal.returns
returns g c =
    let said = ap text c.in_ok-from_str-in-Some-try_to_str.ensures.ok ∙ shows_text _ c.in-Some-try_to_str.text.now c.in-Some-try_to_str.ensures in
    IfOk-weaker c.from_text.result _ _ (λ made shows. shows ∙ said) c.from_text.ensures
