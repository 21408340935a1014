use Rattle.std.proofs.Common.{sym}
use Rattle.juniper_sdl.proofs.Constants.{fits_is}
use Rattle.juniper_sdl.proofs.names.fits.Goals as goal

pub returns : goal.returns
returns c = sym (fits_is c.args._number c.ranges._number)
