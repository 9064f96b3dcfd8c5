-- Locals as runs of one type.
use Rattle.std.specs.Prelude.{◌≡◌, ℕ, ◌-◌, ◌<◌, ◌≤◌, ◌^◌, List, [], ◌∷◌, ◌++◌, replicate, Result, Ok, Err}
use Rattle.wasm_types.specs.decoding.ErrorValue.{ErrorValue}
use Rattle.wasm_types.specs.decoding.Denials.{Denies}
use Rattle.wasm_types.specs.decoding.declared.error.ErrorKind.{ErrorKind}
use Rattle.wasm_types.specs.decoding.declared.error.ErrorKind.TheVariants as kinds
use Rattle.wasm_types.specs.values.declared.value.ValType.{ValType}
use Rattle.wasm_operator_validator_locals.specs.declared.locals.Run.{Run}

-- the locals from this index on that runs stand for, one by one
abbrev pub locals_from : ℕ → List Run → List ValType
locals_from start [] = []
locals_from start (r ∷ rs) = replicate (r.end - start) r.ty ++ locals_from r.end rs

-- from this index on each run ends where it begins or later, and the last at a number of 32 bits
abbrev pub AreRunsFrom : ℕ → List Run → Type 0
AreRunsFrom start [] = start < 2 ^ 32
AreRunsFrom start (r ∷ rs) = (start ≤ r.end) × AreRunsFrom r.end rs

-- these are the first of all
abbrev pub IsFront : List ValType → List ValType → Type 0
IsFront front all = (rest : List ValType) × (all ≡ front ++ rest)

-- On Ok this was done. Otherwise it is not possible, unless memory ran out.
abbrev pub Does : {X : Type 0} → Result X ErrorValue → Type 0 → Type 0 → Type 0
Does (Ok x) done possible = done
Does (Err e) done possible = Denies e.kind possible

-- The fact holds of a refusal of content, which is of kind 5. Out of memory promises nothing; no other kind comes.
abbrev pub OfContent : ErrorKind → Type 0 → Type 0
OfContent (kinds.EndOfData h) P = ⊥
OfContent (kinds.MissingFeature f) P = ⊥
OfContent kinds.OutOfMemory P = Unit {0}
OfContent kinds.Failed P = ⊥
OfContent kinds.Other P = P

-- what is refused is refused at this offset, with kind 5
abbrev pub RefusedAt : {X : Type 0} → ℕ → Result X ErrorValue → Type 0
RefusedAt place (Ok x) = Unit {0}
RefusedAt place (Err e) = OfContent e.kind (e.offset ≡ place)
