use Rattle.std.proofs.Common.{◌≡◌, ◌+◌, ◌<◌, [], arith, get_or, length, map, string_bytes, sym, ap, ◌∙◌, subst, Some}
use Rattle.std.proofs.lemmas.List.{get_or-map, length-map, take_all, take-map}
use Rattle.std.proofs.lemmas.Map.Text.{hash_map_updates_text}
use Rattle.juniper_intro.specs.Numbers.{StandAt}
use Rattle.juniper_intro.proofs.Naming.{stand-more}
use Rattle.juniper_intro.proofs.names.numbers_of.Goals as goal

pub loop-number-init : goal.loop-number-init
loop-number-init c n e = cc

pub loop-number-preserved : goal.loop-number-preserved
loop-number-preserved c =
    let names = map (λ n. string_bytes n) c.args.names.now in
    let k = c.loop-number.number in
    let size = length-map c.args.names.now (λ n. string_bytes n) in
    let low : k < length c.args.names.now = omega (arith, c.loop-number-test.true) in
    let is : string_bytes c.in_ok-name.name ≡ get_or names k [] =
    c.in_ok-name.ensures.ok ∙ (c.as_str.ensures.value ∙ (ap (λ n. string_bytes n) c.index-names-number.is
    ∙ sym (get_or-map (λ n. string_bytes n) c.args.names.now k c.index-names-number.result [] low))) in
    subst (λ l. StandAt l names c.insert.new.self) (take-map (λ n. string_bytes n) (k + 1) c.args.names.now)
    (stand-more names c.loop-number.numbers c.insert.new.self k (string_bytes c.in_ok-name.name) (omega (arith, size, low)) is
    (hash_map_updates_text (string_bytes c.in_ok-name.name) c.loop-number.numbers c.insert.new.self (Some k) c.in_ok-insert.ensures.updates)
    (subst (λ l. StandAt l names c.loop-number.numbers) (sym (take-map (λ n. string_bytes n) k c.args.names.now)) c.loop-number.invariant))

pub returns : goal.returns
returns c = subst (λ l. StandAt (map (λ n. string_bytes n) l) (map (λ n. string_bytes n) c.args.names.now) c.loop-number.numbers)
    (take_all c.loop-number.number c.args.names.now (omega arith)) c.loop-number.invariant
