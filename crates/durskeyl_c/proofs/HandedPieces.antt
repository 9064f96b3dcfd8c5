-- What the answer of a module in pieces tells as a number.
use Rattle.std.proofs.Common.{◌≡◌, ◌∙◌, ◌<◌, ◌≤◌, ℕ, List, ◌++◌, Err, refl, arith}
use Rattle.wasm_types.specs.decoding.Denials.{Denies}
use Rattle.wasm_types.specs.decoding.ErrorValue.{ErrorValue}
use Rattle.wasm_types.specs.decoding.declared.error.ErrorKind.{ErrorKind}
use Rattle.wasm_types.specs.decoding.declared.error.ErrorKind.TheVariants.{EndOfData, MissingFeature, OutOfMemory, Failed, Other}
use Rattle.wasm_module_validator_import_export_places.specs.rules.Accepts.{AcceptsUnder}
use Rattle.wasm_module_validator_streaming.specs.Awaiting.{IsNotRefused}
use Rattle.wasm_module_validator_streaming.specs.HandedOver.{IsTooLong, RefusesFrom, TellsModule}
use Rattle.wasm_module_validator_streaming.specs.declared.handing.PieceError.{PieceError}
use Rattle.wasm_module_validator_streaming.specs.declared.handing.PieceError.TheVariants as pieces
use Rattle.wasm_module_validator.specs.declared.ValidatorId.{ValidatorId}
use Rattle.durskeyl_c.specs.declared.settings.DurskeylSettings.{DurskeylSettings}
use Rattle.durskeyl_c.specs.Settings.{settings_in, AreSettings}
use Rattle.durskeyl_c.specs.Told.{Told, number_of, number_in}
use Rattle.durskeyl_c.specs.Pieces.{TellsPiece}

some_number : (k : ErrorKind) → 0 < number_of k
some_number (EndOfData h) = omega arith
some_number (MissingFeature f) = omega arith
some_number OutOfMemory = omega arith
some_number Failed = omega arith
some_number Other = omega arith

few_numbers : (k : ErrorKind) → number_of k ≤ 5
few_numbers (EndOfData h) = omega arith
few_numbers (MissingFeature f) = omega arith
few_numbers OutOfMemory = omega arith
few_numbers Failed = omega arith
few_numbers Other = omega arith

-- each but that of no memory refutes what it denies
refuted : (k : ErrorKind) (P : Type 0) → ¬ (number_of k ≡ 3) → Denies k P → ¬ P
refuted (EndOfData h) P other d = d
refuted (MissingFeature f) P other d = d
refuted OutOfMemory P other d = absurd (other refl)
refuted Failed P other d = d
refuted Other P other d = d

pub some_answer : (e : PieceError) → 0 < number_in e
some_answer (pieces.Refused e) = some_number e.kind
some_answer pieces.TooLong = omega arith

pub few_answers : (e : PieceError) → number_in e ≤ 7
few_answers (pieces.Refused e) = let few = few_numbers e.kind in omega (arith, few)
few_answers pieces.TooLong = omega arith

pub not_bad : (e : PieceError) → ¬ (number_in e ≡ 6)
not_bad (pieces.Refused e) six = let few = few_numbers e.kind in omega (arith, few, six)
not_bad pieces.TooLong six = omega (arith, six)

module _ (s : DurskeylSettings) (most : ℕ) (got : List ℕ) where
  -- of the bytes that came so far
  pub tells_going : IsNotRefused (settings_in s) got → TellsPiece 0 s most got
  tells_going h = record { going = λ _. h; too_long = λ seven. absurd (omega (arith, seven)); invalid = λ other. absurd (other refl) }

  pub tells_refused : (n : ℕ) (e : PieceError) → n ≡ number_in e → RefusesFrom (settings_in s) most got e → TellsPiece n s most got
  tells_refused n (pieces.Refused e) is h = record {
    going = λ zero. let some = some_number e.kind in absurd (omega (arith, is, zero, some));
    too_long = λ seven. let few = few_numbers e.kind in absurd (omega (arith, is, seven, few));
    invalid = λ other memory none seven more room. refuted e.kind (AcceptsUnder (settings_in s) (got ++ more)) (λ three. memory (is ∙ three)) (h more room);
  }
  tells_refused n pieces.TooLong is h = record {
    going = λ zero. absurd (omega (arith, is, zero));
    too_long = λ _. h;
    invalid = λ other memory none seven. absurd (seven is);
  }

module _ (s : DurskeylSettings) (got : List ℕ) where
  -- of all bytes
  pub told_accepted : AreSettings s → AcceptsUnder (settings_in s) got → Told 0 s got
  told_accepted are h = record {
    valid = λ _. h;
    invalid = λ other. absurd (other refl);
    settings = λ six. absurd (omega (arith, six));
    judged = λ bad. absurd (bad are);
  }

  pub told_refused : (n : ℕ) (e : ErrorValue) → n ≡ number_of e.kind → AreSettings s → Denies e.kind (AcceptsUnder (settings_in s) got) → Told n s got
  told_refused n e is are h = record {
    valid = λ zero. let some = some_number e.kind in absurd (omega (arith, is, zero, some));
    invalid = λ other memory none. refuted e.kind (AcceptsUnder (settings_in s) got) (λ three. memory (is ∙ three)) h;
    settings = λ six. let few = few_numbers e.kind in absurd (omega (arith, is, six, few));
    judged = λ bad. absurd (bad are);
  }

  pub told_ended : (id : ValidatorId) (most : ℕ) (n : ℕ) (e : PieceError) → n ≡ number_in e → AreSettings s → TellsModule (settings_in s) id most got (Err e) → ¬ (n ≡ 7) → Told n s got
  told_ended id most n (pieces.Refused e) is are h other = told_refused n e is are h
  told_ended id most n pieces.TooLong is are h other = absurd (other is)

  pub told_long : (id : ValidatorId) (most : ℕ) (n : ℕ) (e : PieceError) → n ≡ number_in e → TellsModule (settings_in s) id most got (Err e) → n ≡ 7 → IsTooLong (settings_in s) most got
  told_long id most n (pieces.Refused e) is h seven = let few = few_numbers e.kind in absurd (omega (arith, is, seven, few))
  told_long id most n pieces.TooLong is h seven = h
