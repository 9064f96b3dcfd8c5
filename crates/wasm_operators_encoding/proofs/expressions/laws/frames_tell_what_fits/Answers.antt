use Rattle.wasm_operators_encoding.specs.expressions.FrameLaws.{fits_after, after_bounded, after_opened}
use Rattle.wasm_operators_encoding.proofs.expressions.laws.frames_tell_what_fits.Goals as goal

pub returns-clause-fits : goal.returns-clause-fits
returns-clause-fits c = fits_after

pub returns-clause-bounded : goal.returns-clause-bounded
returns-clause-bounded c = λ o ks js e. after_bounded o js ks e

pub returns-clause-opened : goal.returns-clause-opened
returns-clause-opened c = λ o ks js e lt. after_opened o js ks e lt
