-- How answers follow from answers, and which type addresses have.
use Rattle.std.specs.Prelude.{◌≡◌, Bool, true, false, Result, Ok, Err, IfErr}
use Rattle.std.proofs.Common.{refl}
use Rattle.wasm_types.specs.decoding.Denials.{Tells, UnlessMemory}
use Rattle.wasm_types.specs.decoding.DenialLaws.{denies_from}
use Rattle.wasm_types.specs.decoding.ErrorValue.{ErrorValue}
use Rattle.wasm_types.specs.decoding.declared.error.ErrorKind.{ErrorKind}
use Rattle.wasm_types.specs.decoding.declared.error.ErrorKind.TheVariants.{EndOfData, MissingFeature, OutOfMemory, Failed, Other}
use Rattle.wasm_types.specs.externs.Addresses.{address_type as address_written}
use Rattle.wasm_operator_validator_state.specs.resources.Meaning.{Meaning, type_in}
use Rattle.wasm_operator_validator_rules.specs.Context.{address_type}

pub unless_from : (k : ErrorKind) (P Q : Type 0) → (P → Q) → UnlessMemory k P → UnlessMemory k Q
unless_from (EndOfData h) P Q f p = f p
unless_from (MissingFeature x) P Q f p = f p
unless_from OutOfMemory P Q f p = tt
unless_from Failed P Q f p = f p
unless_from Other P Q f p = f p

-- what is the same as what an answer tells of, it tells of too
pub tells_from : {X : Type 0} (r : Result X ErrorValue) (P Q : Type 0) → (P → Q) → (Q → P) → Tells r P → Tells r Q
tells_from (Ok x) P Q f g h = f h
tells_from (Err e) P Q f g h = denies_from e.kind P Q g h

-- and a refusal stands where it did
pub refused_from : {X : Type 0} (r : Result X ErrorValue) (P Q : ErrorValue → Type 0) → ((e : ErrorValue) → P e → Q e) → IfErr r (λ e. UnlessMemory e.kind (P e))
    → IfErr r (λ e. UnlessMemory e.kind (Q e))
refused_from (Ok x) P Q f h = tt
refused_from (Err e) P Q f h = unless_from e.kind (P e) (Q e) (f e) h

-- the type of addresses, as the code names it
pub address_in : (m : Meaning) (b : Bool) → type_in m (address_written b) ≡ address_type b
unfolding type_in
address_in m true = refl
address_in m false = refl
