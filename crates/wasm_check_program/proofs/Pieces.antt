-- What a call says of the bytes of a reader, as the program asks it of a judge.
use Rattle.std.proofs.Common.{◌≡◌, ◌∙◌, ◌<◌, ◌≤◌, ◌^◌, ℕ, List, [], ◌++◌, Bool, true, length, length-append, Option, Some, None, Result, Err, refl, sym, ap, subst, append-nil, arith}
use Rattle.std.specs.Io.KnownBytes.{Consumes, IsAtEnd}
use Rattle.wasm_types.specs.decoding.Denials.{Denies, UnlessMemory}
use Rattle.wasm_types.specs.decoding.ErrorValue.{ErrorValue}
use Rattle.wasm_types.specs.decoding.declared.error.ErrorKind.{ErrorKind}
use Rattle.wasm_types.specs.decoding.declared.error.ErrorKind.TheVariants as kinds
use Rattle.wasm_module_validator_streaming.specs.declared.reading.ReadError.{ReadError}
use Rattle.wasm_module_validator_streaming.specs.declared.reading.ReadError.TheVariants as faults
use Rattle.wasm_module_validator_streaming.specs.Pieces.{AcceptsAll, Answers, RefusesAll, ReadsSome}
use Rattle.wasm_check_command.specs.Modes.{AreLeft, FailsJudging, IsCounted, IsTooLong, HasValid, HasInvalid}
use Rattle.wasm_check_program.specs.Faults.{unjudged}

-- all that a reader had was accepted
pub all_valid : {D : Type 0} (accepts : List ℕ → Type 0) (shown : List ℕ → D → Type 0) (before after : Option (List ℕ)) (d : D)
    → ((text : List ℕ) → shown text d → accepts text) → AcceptsAll shown (2 ^ 30) before after d → HasValid accepts before
all_valid accepts shown before after d f a = (a.all, left before after a.all a.read a.ended, a.within, f a.all a.known)
  where
    left : (b c : Option (List ℕ)) (all : List ℕ) → Consumes b c all → IsAtEnd c → AreLeft b all
    left None c all p e = tt
    left (Some x) None all p e = absurd p
    left (Some x) (Some y) all p e = p ∙ ap (λ l. all ++ l) e ∙ append-nil all

-- a refusal, by its kind
told : (k : ErrorKind) (S A H : Type 0) → (S → Denies k A) → ((S × A → ⊥) → H) → UnlessMemory k H
told (kinds.EndOfData h) S A H d f = f (λ a. d a.0 a.1)
told (kinds.MissingFeature m) S A H d f = f (λ a. d a.0 a.1)
told kinds.OutOfMemory S A H d f = tt
told kinds.Failed S A H d f = f (λ a. d a.0 a.1)
told kinds.Other S A H d f = f (λ a. d a.0 a.1)

-- some of it was refused: the whole is then what came, and what is known to follow
pub some_invalid : (accepts : List ℕ → Type 0) (before after : Option (List ℕ)) (e : ErrorValue)
    → RefusesAll (λ text x. Denies x.kind (accepts text)) before after e → UnlessMemory e.kind (HasInvalid accepts before)
some_invalid accepts None after e r =
    told e.kind (IsCounted (r.got ++ [])) (accepts (r.got ++ [])) (HasInvalid accepts None) (λ s. r.refused [] (λ last. refl) s)
    (λ none. (r.got ++ [], tt, none))
some_invalid accepts (Some x) None e r = absurd r.read
some_invalid accepts (Some x) (Some y) e r =
    told e.kind (IsCounted (r.got ++ y)) (accepts (r.got ++ y)) (HasInvalid accepts (Some x)) (λ s. r.refused y (λ last. r.ended last) s)
    (λ none. (r.got ++ y, r.read, none))

-- more bytes were read than an input may have
pub too_long : (before after : Option (List ℕ)) → ReadsSome (λ n. 2 ^ 30 < n) before after → IsTooLong before
too_long None after r = tt
too_long (Some x) None r = absurd r.1
too_long (Some x) (Some y) (got, read, many) = subst (λ (l : List ℕ). 2 ^ 30 < length l) (sym read) (longer got y many)
  where
    longer : (got y : List ℕ) → 2 ^ 30 < length got → 2 ^ 30 < length (got ++ y)
    longer got y many = let both = length-append got y in omega (arith, many, both)

-- why it is not said that what a reader has is valid
pub fails_judging : {D : Type 0} (accepts : List ℕ → Type 0) (shown : List ℕ → D → Type 0) (before after : Option (List ℕ)) (fault : ReadError)
    → Answers {D = D} shown (λ text x. Denies x.kind (accepts text)) (2 ^ 30) before after (Err fault) → FailsJudging accepts before (unjudged fault)
fails_judging accepts shown before after (faults.Refused e) h = some_invalid accepts before after e h
fails_judging accepts shown before after faults.Read h = tt
fails_judging accepts shown before after faults.TooLong h = too_long before after h
