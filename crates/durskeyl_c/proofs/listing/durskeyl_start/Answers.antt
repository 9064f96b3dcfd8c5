use Rattle.std.proofs.Common.{ap}
use Rattle.durskeyl_c.specs.Listed.{start_number}
use Rattle.durskeyl_c.proofs.listing.durskeyl_start.Goals as goal

pub returns-in-Some : goal.returns-in-Some
returns-in-Some c z m h = ap start_number (c.in-Some.ensures z m h)

pub returns-in-None : goal.returns-in-None
returns-in-None c z m h = ap start_number (c.in-None.ensures z m h)
