use Rattle.std.proofs.Common.{refl}
use Rattle.sql_read.proofs.cursor.fits_name.Goals as goal

pub returns : goal.returns
returns c = refl
