-- Telling a visitor of the operators of an expression one after the other, those on vectors too.
use Rattle.std.specs.Prelude.{◌≡◌, ◌⊎◌, ℕ, List, []}
use Rattle.wasm_types.specs.decoding.declared.error.ErrorKind.TheVariants.{Other}
use Rattle.wasm_types.specs.decoding.ErrorValue.{ErrorValue}
use Rattle.wasm_types.specs.reader.Reading.{IsNotMemory}
use Rattle.wasm_operators_enums.specs.Op.{Op}
use Rattle.wasm_operators_encoding.specs.expressions.Stack.{innermost}
use Rattle.wasm_operators_reader.specs.FirstByte.{ToldFirst, refused_in}
use Rattle.wasm_operators_reader.specs.Standing.{Standing, Reads, Runs, Refuses, WantsMemory}
use Rattle.wasm_operators_reader.specs.Walking.{VisitsAll}

-- operators are read from s to t, and the visitor is told of them, which answers each of them so
abbrev pub TellsTo : {V A : Type 0} → (V → Op → A → V → Type 0) → A → Standing → V → Standing → V → Type 0
TellsTo visits answer s v t w = (os : List Op) × Runs s os t × VisitsAll visits answer v os w

-- the same, and behind them one more operator, which begins at this offset and which the visitor answers otherwise
abbrev pub TellsUntilAt : {V A : Type 0} → (V → Op → A → V → Type 0) → A → Standing → V → A → V → ℕ → Type 0
TellsUntilAt {V} visits answer s v last w place =
    (m : Standing) × (n : V) × TellsTo visits answer s v m n × (o : Op) × (t : Standing) × Reads m o t × visits n o last w × (m.bytes.place ≡ place)

-- no operator is read here; if the features refuse it by its first byte, it is refused there, whatever follows
abbrev pub RefusesFirst : Standing → ErrorValue → Type 0
RefusesFirst s e = (f : ErrorValue) × Refuses s f × ToldFirst (refused_in (innermost s.frames) s.bytes) s.bytes.place f e

-- why a walk goes no further: bytes are left, and no operator is read, for memory only where the operator takes some; or none is left while a
-- frame is open, which is refused at their end
abbrev pub Stops : Standing → ErrorValue → Type 0
Stops s e = ((s.bytes.rest ≡ [] → ⊥) × RefusesFirst s e × ((WantsMemory s → ⊥) → IsNotMemory e.kind))
    ⊎ ((s.bytes.rest ≡ []) × (s.frames ≡ [] → ⊥) × (e.kind ≡ Other) × (e.offset ≡ s.bytes.place))
