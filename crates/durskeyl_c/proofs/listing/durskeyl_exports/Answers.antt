use Rattle.std.proofs.Common.{refl}
use Rattle.durskeyl_c.proofs.listing.durskeyl_exports.Goals as goal

pub returns-in-None-clause-listed : goal.returns-in-None-clause-listed
returns-in-None-clause-listed c z m h = absurd (c.in-None.ensures.listed z m h)

pub returns-in-None-clause-within : goal.returns-in-None-clause-within
returns-in-None-clause-within c f = absurd (f refl)
