use Rattle.std.proofs.Common.{rules}
use Rattle.juniper_schema.proofs.Fitting.{scalar_fits_is}
use Rattle.juniper_schema.proofs.fits.scalar_fits.Goals as goal

pub returns-then-is_some : goal.returns-then-is_some
returns-then-is_some g c = search (rules, scalar_fits_is)

pub returns-else-is_some : goal.returns-else-is_some
returns-else-is_some g c = search (rules, scalar_fits_is)
