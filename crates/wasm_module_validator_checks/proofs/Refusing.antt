-- Of which kind a refusal is, of a fact that asks for more.
use Rattle.std.proofs.Common.{ℕ}
use Rattle.wasm_types.specs.decoding.declared.error.ErrorKind.{ErrorKind}
use Rattle.wasm_types.specs.decoding.declared.error.ErrorKind.TheVariants as kinds
use Rattle.wasm_module_validator_checks.specs.externs.Refusals.{IsRefusal, IsNeeded}

pub refusal_from : (bits : ℕ) (P Q : ℕ → Type 0) (k : ErrorKind) → ((b : ℕ) → Q b → P b) → IsRefusal bits P k → IsRefusal bits Q k
refusal_from bits P Q (kinds.EndOfData h) f r = r
refusal_from bits P Q (kinds.MissingFeature x) f r = r
refusal_from bits P Q kinds.OutOfMemory f r = r
refusal_from bits P Q kinds.Failed f r = r
refusal_from bits P Q kinds.Other f r = λ b q. r b (f b q)

pub needed_from : (bits : ℕ) (P Q : ℕ → Type 0) (k : ErrorKind) → ((b : ℕ) → Q b → P b) → IsNeeded bits P k → IsNeeded bits Q k
needed_from bits P Q (kinds.EndOfData h) f r = r
needed_from bits P Q (kinds.MissingFeature x) f r = (r.0, λ b q. r.1 b (f b q))
needed_from bits P Q kinds.OutOfMemory f r = r
needed_from bits P Q kinds.Failed f r = r
needed_from bits P Q kinds.Other f r = λ b q. r b (f b q)
