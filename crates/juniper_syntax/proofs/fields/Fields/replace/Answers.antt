use Rattle.std.proofs.Common.{ap, sym, ◌∙◌, arith, length, zip}
use Rattle.std.specs.Map.{keys_of}
use Rattle.juniper_syntax.specs.FieldWords.{is_key}
use Rattle.juniper_syntax.proofs.Indexes.{none-position}
use Rattle.juniper_syntax.proofs.FirstKeys.{missing-first, stays-first, found-first, put-first, zip-long}
use Rattle.juniper_syntax.proofs.fields.Fields.replace.Goals as goal

pub returns-in_err-place-clause-old : goal.returns-in_err-place-clause-old
returns-in_err-place-clause-old g c =
    let test = is_key c.args.key.now in
    let es = c.args.self.now in
    c.from_residual.ensures ∙ sym (missing-first test es (none-position test (keys_of es) (sym c.in_err-place.ensures.index)))

pub returns-in_err-place-clause-new : goal.returns-in_err-place-clause-new
returns-in_err-place-clause-new g c =
    let test = is_key c.args.key.now in
    let es = c.args.self.now in
    sym (stays-first test es c.args.value (none-position test (keys_of es) (sym c.in_err-place.ensures.index)))

pub returns-clause-old : goal.returns-clause-old
returns-clause-old g c =
    let ks = c.self.inside.keys.value in
    let vs = c.self.inside.values.items in
    let test = is_key c.args.key.now in
    sym c.put_at.ensures.old
    ∙ sym (found-first test ks vs c.args.self.now c.self.view_is c.self.invariant c.in_ok-place.place (sym c.in_ok-place.ensures.index))

pub returns-clause-new : goal.returns-clause-new
returns-clause-new g c =
    let ks = c.self.inside.keys.value in
    let vs = c.self.inside.values.items in
    let test = is_key c.args.key.now in
    ap (zip ks) c.put_at.ensures.new
    ∙ put-first test ks vs c.args.self.now c.self.view_is c.self.invariant c.in_ok-place.place c.args.value (sym c.in_ok-place.ensures.index)

pub put_at-requires : goal.put_at-requires
put_at-requires g c =
    let long = zip-long c.self.inside.keys.value c.self.inside.values.items c.self.invariant in
    omega (arith, c.in_ok-place.ensures.within, long, ap length c.self.view_is)
