-- Visiting the operators of an expression one after the other.
use Rattle.std.specs.Prelude.{◌≡◌, ◌⊎◌, ℕ, false, List, [], ◌∷◌}
use Rattle.wasm_types.specs.decoding.declared.error.ErrorKind.TheVariants.{Other}
use Rattle.wasm_types.specs.decoding.ErrorValue.{ErrorValue}
use Rattle.wasm_types.specs.reader.Reading.{IsNotMemory}
use Rattle.wasm_operators_enums.specs.Op.{Op}
use Rattle.wasm_operators_enums.specs.Vectors.{is_simd}
use Rattle.wasm_operators_reader.specs.Standing.{Standing, Reads, Runs, WantsMemory}
use Rattle.wasm_operators_reader.specs.Visiting.{VisitsPlain, RefusesPlain}

-- none of them is on vectors
abbrev pub HasNoVectors : List Op → Type 0
HasNoVectors [] = Unit {0}
HasNoVectors (o ∷ os) = (is_simd o ≡ false) × HasNoVectors os

-- a visitor that has this relation is told of these operators, one after the other, and answers each of them so
abbrev pub VisitsAll : {V A : Type 0} → (V → Op → A → V → Type 0) → A → V → List Op → V → Type 0
VisitsAll visits answer v [] w = w ≡ v
VisitsAll {V} visits answer v (o ∷ os) w = (m : V) × visits v o answer m × VisitsAll visits answer m os w

-- operators without vectors are read from s to t, and the visitor is told of them, which answers each of them so
abbrev pub WalksTo : {V A : Type 0} → (V → Op → A → V → Type 0) → A → Standing → V → Standing → V → Type 0
WalksTo visits answer s v t w = (os : List Op) × Runs s os t × HasNoVectors os × VisitsAll visits answer v os w

-- the same, and behind them one more operator that the visitor answers otherwise
abbrev pub WalksUntil : {V A : Type 0} → (V → Op → A → V → Type 0) → A → Standing → V → A → V → Type 0
WalksUntil {V} visits answer s v last w = (m : Standing) × (n : V) × WalksTo visits answer s v m n × (o : Op) × (t : Standing) × Reads m o t
    × (is_simd o ≡ false) × visits n o last w

-- the same, where that operator begins at this offset
abbrev pub WalksUntilAt : {V A : Type 0} → (V → Op → A → V → Type 0) → A → Standing → V → A → V → ℕ → Type 0
WalksUntilAt {V} visits answer s v last w place =
    (m : Standing) × (n : V) × WalksTo visits answer s v m n × (o : Op) × (t : Standing) × Reads m o t × (is_simd o ≡ false) × visits n o last w × (m.bytes.place ≡ place)

-- the same, and where it stands behind that operator
abbrev pub WalksUntilTo : {V A : Type 0} → (V → Op → A → V → Type 0) → A → Standing → V → A → Standing → V → ℕ → Type 0
WalksUntilTo {V} visits answer s v last t w place =
    (m : Standing) × (n : V) × WalksTo visits answer s v m n × VisitsPlain visits m n last t w × (m.bytes.place ≡ place)

-- why a walk without vectors goes no further: bytes are left, and no operator is read, or one on vectors, for memory only where the
-- operator takes some; or none is left while a frame is open, which is refused at their end
abbrev pub StopsPlain : Standing → ErrorValue → Type 0
StopsPlain s e = ((s.bytes.rest ≡ [] → ⊥) × RefusesPlain s e × ((WantsMemory s → ⊥) → IsNotMemory e.kind))
    ⊎ ((s.bytes.rest ≡ []) × (s.frames ≡ [] → ⊥) × (e.kind ≡ Other) × (e.offset ≡ s.bytes.place))
