-- What a read answers, by its decoder.
use Rattle.std.specs.Prelude.{◌≡◌, ℕ, zero, suc, ◌+◌, ◌<◌, Bool, true, false, if◌then◌else◌, Result, Ok, Err, Option, Some, None}
use Rattle.wasm_types_decoding.specs.declared.Refusal.TheVariants as refusals
use Rattle.wasm_types_decoding.specs.Decoder.{State, Outcome, Done, Short, Fault, Decoder}
use Rattle.wasm_types_decoding.specs.declared.error.ErrorKind.{ErrorKind}
use Rattle.wasm_types_decoding.specs.declared.error.ErrorKind.TheVariants.{EndOfData, MissingFeature, OutOfMemory, Failed, Other}
use Rattle.wasm_types_decoding.specs.ErrorValue.{ErrorValue}

-- an error of this kind at this offset is the outcome, unless memory ran out
abbrev pub FailsAt : {Y : Type 0} → ErrorKind → ℕ → Outcome Y → Type 0
FailsAt (EndOfData h) p o = o ≡ Short p h
FailsAt (MissingFeature f) p o = o ≡ Fault (refusals.MissingFeature f.0) p
FailsAt OutOfMemory p o = Unit {0}
FailsAt Failed p o = ⊥
FailsAt Other p o = o ≡ Fault refusals.Other p

-- this error is the outcome
abbrev pub Fails : {Y : Type 0} → ErrorValue → Outcome Y → Type 0
Fails e o = FailsAt e.kind e.offset o

-- What a call returned, seen by view, and where it left the reader, are the outcome.
abbrev pub Gives : {X Y : Type 0} → (X → Y) → Result X ErrorValue → State → Outcome Y → Type 0
Gives view (Ok x) after o = o ≡ Done (view x) after
Gives view (Err e) after o = Fails e o

-- The same, and a refused read leaves the reader where it was.
abbrev pub Answers : {X Y : Type 0} → (X → Y) → Result X ErrorValue → State → State → Outcome Y → Type 0
Answers view (Ok x) before after o = o ≡ Done (view x) after
Answers view (Err e) before after o = Fails e o × (after ≡ before)

-- The next of n values: none where n is 0, and else what the decoder says. m are left, and none after an error.
abbrev pub NextItem : {X Y : Type 0} → (X → Y) → Decoder Y → ℕ → State → Option (Result X ErrorValue) → ℕ → State → Type 0
NextItem view d n before None m after = (n ≡ 0) × (m ≡ 0) × (after ≡ before)
NextItem view d n before (Some (Ok x)) m after = (n ≡ m + 1) × (d before ≡ Done (view x) after)
NextItem view d n before (Some (Err e)) m after = (0 < n) × (m ≡ 0) × Fails e (d before) × (after ≡ before)

-- What was read. Where the reader stands then is not promised.
abbrev pub Collects : {X Y : Type 0} → (X → Y) → Result X ErrorValue → Outcome Y → Type 0
Collects view (Ok x) o = (t : State) × (o ≡ Done (view x) t)
Collects view (Err e) o = Fails e o

-- this is another kind than out of memory
abbrev pub IsNotMemory : ErrorKind → Type 0
IsNotMemory (EndOfData h) = Unit {0}
IsNotMemory (MissingFeature f) = Unit {0}
IsNotMemory OutOfMemory = ⊥
IsNotMemory Failed = Unit {0}
IsNotMemory Other = Unit {0}

-- memory is no reason for it to fail
abbrev pub NeedsNoMemory : {X : Type 0} → Result X ErrorValue → Type 0
NeedsNoMemory (Err e) = IsNotMemory e.kind
NeedsNoMemory (Ok x) = Unit {0}

-- It is refused for memory only where this takes memory.
abbrev pub MemoryOnlyIf : {X : Type 0} → Bool → Result X ErrorValue → Type 0
MemoryOnlyIf true result = Unit {0}
MemoryOnlyIf false result = NeedsNoMemory result

-- ---- lists

-- this is a value
abbrev pub is_read : {Y : Type 0} → Outcome Y → Bool
is_read (Done x t) = true
is_read (Short p h) = false
is_read (Fault k p) = false

-- Whether n values from here may take memory: where there are any, and reading them takes memory or the first is read, and
-- so has to be kept.
abbrev pub takes_room : {Y : Type 0} → Bool → Decoder Y → ℕ → State → Bool
takes_room takes_memory d zero s = false
takes_room takes_memory d (suc n) s = if takes_memory then true else is_read (d s)

-- the same of as many values as were counted; what is no count takes none
abbrev pub counted_room : {Y : Type 0} → Bool → Decoder Y → Outcome ℕ → Bool
counted_room takes_memory d (Done n t) = takes_room takes_memory d n t
counted_room takes_memory d (Short p h) = false
counted_room takes_memory d (Fault k p) = false
