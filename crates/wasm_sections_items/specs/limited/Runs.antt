-- Where the code's iterators stand, and what a step of them tells.
use Rattle.std.specs.Prelude.{◌≡◌, ℕ, Bool, Option, Result, Ok, Err, IfSome}
use Rattle.wasm_types.specs.settings.Settings.{Settings}
use Rattle.wasm_types.specs.decoding.Decoder.{State, Decoder, Done}
use Rattle.wasm_types.specs.decoding.ErrorValue.{ErrorValue}
use Rattle.wasm_types.specs.reader.Reading.{Fails, MemoryOnlyIf}
use Rattle.wasm_sections_items.specs.declared.limited.walk.SectionLimitedIntoIter.{SectionLimitedIntoIter}
use Rattle.wasm_sections_items.specs.declared.limited.walk.SectionLimitedIntoIterWithOffsets.{SectionLimitedIntoIterWithOffsets}
use Rattle.wasm_sections_items.specs.declared.limited.func_types.FuncTypesIntoIter.{FuncTypesIntoIter}
use Rattle.wasm_sections_items.specs.limited.Walking.{Walk, NextIn}

abbrev pub place_in : {T : Type 0} → SectionLimitedIntoIter T → Walk
place_in s = record { left = s.remaining; reader = s.section.reader; over = s.end }

abbrev pub place_with_offsets : {T : Type 0} → SectionLimitedIntoIterWithOffsets T → Walk
place_with_offsets s = record { left = s.remaining; reader = s.section.reader; over = s.end }

-- the walk over the groups
abbrev pub place_of_functions : FuncTypesIntoIter → Walk
place_of_functions s = place_with_offsets s.groups

-- an error is for memory only where an item takes memory
abbrev pub told : {X : Type 0} → Bool → Option (Result X ErrorValue) → Type 0
told memory r = IfSome r (λ item. MemoryOnlyIf memory item)

-- an item is what d reads
abbrev pub plain : {X A : Type 0} → (X → A) → (Settings → Decoder A) → Settings → State → X → State → Type 0
plain v d z b x c = d z b ≡ Done (v x) c

-- the same, with the offset where it begins
abbrev pub with_offset : {X A : Type 0} → (X → A) → (Settings → Decoder A) → Settings → State → ℕ × X → State → Type 0
with_offset v d z b x c = (x.0 ≡ b.place) × (d z b ≡ Done (v x.1) c)

-- A step of an iterator whose items d reads: walk says where it stands, R which items are read, and told what else a step tells. It is
-- what `next_gives` says of the iterators here.
abbrev pub Steps : {X A S : Type 0} → (Settings → Decoder A) → (S → Walk) → (Option (Result X ErrorValue) → Type 0)
    → (Settings → State → X → State → Type 0) → S
    → Option (Result X ErrorValue) → S → Type 0
Steps d walk told R s r t = NextIn (R (walk s).reader.settings) (λ b e. Fails e (d (walk s).reader.settings b)) (walk s) r (walk t) × told r × ((walk t).reader.settings ≡ (walk s).reader.settings)

-- what was read, seen by v
abbrev pub seen : {X A : Type 0} → (X → A) → Result X ErrorValue → Result A ErrorValue
seen v (Ok x) = Ok (v x)
seen v (Err e) = Err e
