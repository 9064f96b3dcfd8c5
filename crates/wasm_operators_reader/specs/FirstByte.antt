-- What is told of an operator that was not read, if its first byte is reason enough to refuse it, whatever follows.
use Rattle.std.specs.Prelude.{◌≡◌, ◌⊎◌, ◌==◌, if◌then◌else◌, ℕ, List, [], ◌∷◌, Option, Some, None}
use Rattle.wasm_types.specs.settings.Features.{LegacyExceptions, has, judges_vectors, mask}
use Rattle.wasm_types.specs.decoding.Decoder.{State}
use Rattle.wasm_types.specs.decoding.declared.error.ErrorKind.{ErrorKind}
use Rattle.wasm_types.specs.decoding.declared.error.ErrorKind.TheVariants.{MissingFeature, OutOfMemory, Other}
use Rattle.wasm_types.specs.decoding.ErrorValue.{ErrorValue}
use Rattle.wasm_types.specs.reader.Reading.{IsNotMemory}
use Rattle.wasm_operators_immediates.specs.declared.frames.FrameKind.{FrameKind}

-- these features refuse an operator on vectors, unless they ask that it be judged
abbrev pub vector_refused : ℕ → Option ErrorKind
vector_refused features = if judges_vectors features then None else Some Other

-- they refuse a legacy operator on exceptions, unless they allow it
abbrev pub legacy_refused : ℕ → Option ErrorKind
legacy_refused features = if has LegacyExceptions features then None else Some (MissingFeature (record { 0 = mask LegacyExceptions }))

-- how they refuse an operator that begins with this byte: `try`, `catch` and `catch_all`, and all that are on vectors
abbrev pub refused_by_byte : ℕ → ℕ → Option ErrorKind
refused_by_byte features b =
    if b == 0x06 then legacy_refused features
    else (if b == 0x07 then legacy_refused features
    else (if b == 0x19 then legacy_refused features
    else (if b == 0xfd then vector_refused features else None)))

abbrev pub refused_by_first : ℕ → List ℕ → Option ErrorKind
refused_by_first features [] = None
refused_by_first features (b ∷ rest) = refused_by_byte features b

-- the same of what comes next in this frame; with none open no byte is looked at
abbrev pub refused_in : Option FrameKind → State → Option ErrorKind
refused_in None s = None
refused_in (Some k) s = refused_by_first s.settings.features s.rest

-- how an operator on vectors is refused by who takes none, whatever the features are
abbrev pub vector_by_byte : ℕ → Option ErrorKind
vector_by_byte b = if b == 0xfd then Some Other else None

abbrev pub vector_by_first : List ℕ → Option ErrorKind
vector_by_first [] = None
vector_by_first (b ∷ rest) = vector_by_byte b

abbrev pub vector_in : Option FrameKind → State → Option ErrorKind
vector_in None s = None
vector_in (Some k) s = vector_by_first s.rest

-- What is told of an operator at this offset that was not read for the reason f. If its first byte refuses it, that is told at the offset
-- of the byte, except if memory was refused.
abbrev pub ToldFirst : Option ErrorKind → ℕ → ErrorValue → ErrorValue → Type 0
ToldFirst None place f e = e ≡ f
ToldFirst (Some k) place f e = (IsNotMemory f.kind × (e.kind ≡ k) × (e.offset ≡ place)) ⊎ ((f.kind ≡ OutOfMemory) × (e ≡ f))
