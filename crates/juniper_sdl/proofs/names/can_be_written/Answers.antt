use Rattle.std.proofs.Common.{◌≡◌, ap, ◌∙◌, arith, w32, to_z, of_z, to_z-of_z}
use Rattle.graphql_spec.specs.Tokens.{fits_int}
use Rattle.juniper_sdl.proofs.Constants.{no_number, number_is}
use Rattle.juniper_sdl.proofs.names.can_be_written.Goals as goal

pub returns-in-Some : goal.returns-in-Some
returns-in-Some g c =
    let n = c.in-Some.number in
    let same : to_z w32 (of_z w32 n) ≡ n = grind (arith, to_z-of_z) in
    c.fits.ensures ∙ (ap fits_int same ∙ number_is (g.S.ScalarValue.shown c.args.scalar.now) n c.in-Some.ensures)

pub returns-in-None : goal.returns-in-None
returns-in-None g c = no_number (g.S.ScalarValue.shown c.args.scalar.now) c.in-None.ensures
