-- The laws of numbers, one for every width.
use Rattle.std.proofs.Common.{refl}
use Rattle.wasm_types_decoding.specs.LebLaws.{lawful-unsigned, decides-unsigned}
use Rattle.wasm_types_decoding.specs.SignedLaws.{lawful-signed, decides-signed}
use Rattle.wasm_types_reader.proofs.leb.numbers_are_lawful.Goals as goal

pub returns-clause-unsigned : goal.returns-clause-unsigned
returns-clause-unsigned c = λ k r some few. (lawful-unsigned k r, decides-unsigned r few k _ refl some)

pub returns-clause-signed : goal.returns-clause-signed
returns-clause-signed c = λ k r some few. (lawful-signed k r, decides-signed r few some k _ refl)
