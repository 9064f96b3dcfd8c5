-- How many more bytes can bring a frame or a refusal (WebAssembly 3.0, binary format, modules, and values, integers). A size that is
-- cut may still become any number that begins as it does, so what is needed is the least over all of these.
use Rattle.std.specs.Prelude.{ℕ, zero, suc, ◌+◌, ◌-◌, ◌*◌, ◌^◌, ◌==◌, min, nat_lt, Bool, true, false, List, [], ◌∷◌, length, if◌then◌else◌}
use Rattle.wasm_sections_parser.specs.declared.needs.Measured.{Measured}
use Rattle.wasm_sections_parser.specs.declared.needs.Measured.TheVariants as measured
use Rattle.wasm_sections_parser.specs.declared.progress.Stage.{Stage}
use Rattle.wasm_sections_parser.specs.declared.progress.Stage.TheVariants as stages
use Rattle.wasm_sections_parser.specs.declared.progress.Progress.{Progress}
use Rattle.wasm_sections_parser.specs.Steps.{is_late}

-- ---- behind a size

-- How many bytes are needed behind a size of n. A section that may not come is refused there, and so is what has no room for n bytes.
-- Of the code section the count is needed, of which one byte may be enough; one of no bytes is refused, as it has no count.
abbrev pub wanted : Measured → ℕ → ℕ → ℕ
wanted measured.Late room n = 0
wanted measured.Section room n = n
wanted measured.Code room n = if nat_lt room n then 0 else (if n == 0 then 0 else 1)
wanted measured.Body room n = if nat_lt room n then 0 else n

-- ---- within a size

-- none of these bytes is the last of a number in LEB128
abbrev pub are_not_last : List ℕ → Bool
are_not_last [] = true
are_not_last (b ∷ bs) = if nat_lt b 128 then false else are_not_last bs

-- a number of 32 bits, of at most five bytes, that ends behind these
abbrev pub is_cut : List ℕ → Bool
is_cut size = if nat_lt 4 (length size) then false else are_not_last size

-- the least number that begins so
abbrev pub low_of : List ℕ → ℕ
low_of [] = 0
low_of (b ∷ bs) = (b - 128) + 128 * low_of bs

-- How many bytes are needed within a size, of which k may come before the fifth. As it stands it is from low to high, and its next
-- byte counts so many units. That byte may be the last, and then the least number is low and the greatest has a byte of 127; or the
-- size goes on. A fifth byte can make it too large.
unfoldable pub least_within : Measured → ℕ → ℕ → ℕ → ℕ → ℕ → ℕ
least_within m zero low high unit room = 1
least_within m (suc k) low high unit room =
    1 + min (min (wanted m (room - 1) low) (wanted m (room - 1) (high + 127 * unit))) (least_within m k low (high + 127 * unit) (128 * unit) (room - 1))

-- where these bytes of a size are there, and so many of room behind them; n elsewhere
abbrev pub needed_within : Measured → ℕ → List ℕ → ℕ → ℕ
needed_within m room size n = if is_cut size then least_within m (4 - length size) (low_of size) (low_of size)
    (128 ^ length size) room else n

-- ---- where a parser stands

-- a section of this id, whose contents end at offsets of 64 bits
abbrev pub measured_section : Progress → ℕ → Measured
measured_section p id = if is_late p id then measured.Late else (if id == 10 then measured.Code else measured.Section)

abbrev pub needed_of_section : Progress → ℕ → List ℕ → ℕ → ℕ
needed_of_section p place [] n = n
needed_of_section p place (id ∷ size) n = needed_within (measured_section p id) (2 ^ 64 - 1 - (place + 1 + length size)) size n

-- a body of a code section that ends there
abbrev pub needed_of_body : ℕ → ℕ → List ℕ → ℕ → ℕ
needed_of_body end place size n = needed_within measured.Body (end - (place + length size)) size n

abbrev pub needed_at : Progress → Stage → ℕ → List ℕ → ℕ → ℕ
needed_at p stages.Header place text n = n
needed_at p stages.Sections place text n = needed_of_section p place text n
needed_at p (stages.Code left end) place text n = if left == 0 then needed_of_section p place text n else needed_of_body end place text n
needed_at p stages.Ended place text n = n
needed_at p stages.Failed place text n = n

-- How many bytes are needed behind these, the first of which stands at this offset, where the decoder lacks n: within a size the
-- least that can bring a frame or a refusal, elsewhere these n.
unfoldable pub needed : Progress → ℕ → List ℕ → ℕ → ℕ
needed p place text n = needed_at p p.stage place text n
