-- Where a reader of constant expressions stops, and which are equal.
use Rattle.std.specs.Prelude.{◌≡◌, ◌⊎◌, ◌==◌, Bool, true, false, List, []}
use Rattle.std.specs.Cmp.Lexicographic.{pointwise}
use Rattle.std.specs.Ordering.{on}
use Rattle.wasm_types.specs.decoding.Decoder.{State}
use Rattle.wasm_types.specs.decoding.declared.error.ErrorKind.TheVariants.{Other}
use Rattle.wasm_types.specs.decoding.ErrorValue.{ErrorValue}
use Rattle.wasm_types.specs.reader.Reading.{IsNotMemory}
use Rattle.wasm_operators_enums.specs.Op.{Op}
use Rattle.wasm_operators_encoding.specs.Ends.{is_end, HasNoEnd}
use Rattle.wasm_operators_reader.specs.Standing.{Standing, Reads, Refuses, Runs, WantsMemory}

-- operators are read from s to t, none of which is `end`; or the last of them is
abbrev pub PassesTo : Standing → Bool → Standing → Type 0
PassesTo s false t = (os : List Op) × Runs s os t × HasNoEnd os
PassesTo s true t = (os : List Op) × (m : Standing) × (o : Op) × Runs s os m × HasNoEnd os × Reads m o t × (is_end o ≡ true)

-- why no constant expression is read: an operator is refused before the first `end`, for memory only where it takes some; or a frame
-- is open behind it, which is refused there
abbrev pub StopsConstant : Standing → ErrorValue → Type 0
StopsConstant s e = ((t : Standing) × PassesTo s false t × Refuses t e × ((WantsMemory t → ⊥) → IsNotMemory e.kind))
    ⊎ ((t : Standing) × PassesTo s true t × (t.frames ≡ [] → ⊥) × (e.kind ≡ Other) × (e.offset ≡ t.bytes.place))

-- two expressions of the same bytes, wherever they stand and whatever the settings of their readers are
abbrev pub same_bytes : State → State → Bool
same_bytes = on (λ s. s.rest) (pointwise ◌==◌)
