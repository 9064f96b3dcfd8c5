-- Where reading a part fails, reading the whole fails with the same error.
use Rattle.std.proofs.Common.{ℕ, refl}
use Rattle.wasm_types_decoding.specs.Decoder.{Outcome, Decoder, continue_with}
use Rattle.wasm_types_decoding.specs.declared.error.ErrorKind.{ErrorKind}
use Rattle.wasm_types_decoding.specs.declared.error.ErrorKind.TheVariants.{EndOfData, MissingFeature, OutOfMemory, Failed, Other}
use Rattle.wasm_types_reader.specs.Reading.{FailsAt}

-- what fails stays, whatever would have followed
pub fails_then : {A B : Type 0} (o : Outcome A) (f : A → Decoder B) (k : ErrorKind) (p : ℕ) → FailsAt k p o → FailsAt k p (continue_with o f)
fails_then o f (EndOfData h) p e = rw e refl
fails_then o f (MissingFeature m) p e = rw e refl
fails_then o f OutOfMemory p e = tt
fails_then o f Failed p e = absurd e
fails_then o f Other p e = rw e refl
