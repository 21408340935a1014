use Rattle.std.proofs.Common.{◌<◌, Some, ap, sym, ◌∙◌, arith, length}
use Rattle.std.proofs.lemmas.Option.{slice_get-get_or}
use Rattle.std.specs.Map.{keys_of}
use Rattle.std.specs.Option.{option_copied}
use Rattle.juniper_syntax.specs.FieldWords.{is_key}
use Rattle.juniper_syntax.proofs.Indexes.{none-position}
use Rattle.juniper_syntax.proofs.FirstKeys.{missing-first, found-first, zip-long}
use Rattle.juniper_syntax.proofs.fields.Fields.get.Goals as goal

pub returns-in_err-place : goal.returns-in_err-place
returns-in_err-place g c =
    let test = is_key c.args.key.now in
    let es = c.args.self.now in
    ap option_copied c.from_residual.ensures ∙ sym (missing-first test es (none-position test (keys_of es) (sym c.in_err-place.ensures.index)))

pub returns : goal.returns
returns g c =
    let ks = c.self.inside.keys.value in
    let vs = c.self.inside.values.items in
    let test = is_key c.args.key.now in
    let i = c.in_ok-place.place in
    let below : i < length vs = omega (arith, c.in_ok-place.ensures.within, zip-long ks vs c.self.invariant, ap length c.self.view_is) in
    ap Some c.index.ensures ∙ sym (slice_get-get_or vs i c.index.result.now below)
    ∙ sym (found-first test ks vs c.args.self.now c.self.view_is c.self.invariant i (sym c.in_ok-place.ensures.index))

pub index-requires : goal.index-requires
index-requires g c =
    let long = zip-long c.self.inside.keys.value c.self.inside.values.items c.self.invariant in
    omega (arith, c.in_ok-place.ensures.within, long, ap length c.self.view_is, c.self.inside.values.ok.0)
