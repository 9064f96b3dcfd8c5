-- What holds of every set of features.
use Rattle.std.specs.Prelude.{ℕ, ◌≡◌, ◌<◌, ◌^◌, ◌&&◌, ◌||◌, not, false, IsTrue}
use Rattle.std.specs.Int.RustNames.{bit_and, bit_or}
use Rattle.bitflags.specs.Sets.{without}
use Rattle.wasm_types_settings.specs.declared.inflated.WasmFeaturesInflated.{WasmFeaturesInflated}
use Rattle.wasm_types_settings.specs.Features.{Feature, has, has_own, has_each, judges_vectors}
use Rattle.wasm_types_settings.specs.Inflated.{Inflates, Packs, settled}
use Rattle.wasm_types_settings.specs.Sets.{Within}

-- a feature is allowed exactly where each bit of its name is in
abbrev pub AllowedByBits : Type 0
AllowedByBits = (f : Feature) (bits : ℕ) → has f bits ≡ has_each f bits

-- a larger set allows all that a smaller one does
abbrev pub LargerAllowsMore : Type 0
LargerAllowsMore = (f : Feature) (a b : ℕ) → Within a b → IsTrue (has f a) → IsTrue (has f b)

-- a feature's own bit after the operations of sets
abbrev pub OwnInUnion : Type 0
OwnInUnion = (f : Feature) (a b : ℕ) → has_own f (bit_or a b) ≡ has_own f a || has_own f b

abbrev pub OwnInIntersection : Type 0
OwnInIntersection = (f : Feature) (a b : ℕ) → has_own f (bit_and a b) ≡ has_own f a && has_own f b

abbrev pub OwnInDifference : Type 0
OwnInDifference = (f : Feature) (a b : ℕ) → b < 2 ^ 32 → has_own f (without 32 a b) ≡ has_own f a && not (has_own f b)

-- the fields decide the whole set
abbrev pub PackedOnce : Type 0
PackedOnce = (i : WasmFeaturesInflated) (a b : ℕ) → Packs i a → Packs i b → a ≡ b

-- fields that were packed and inflated again: the two that stand for two bits may have changed, and nothing else
abbrev pub InflatedAgain : Type 0
InflatedAgain = (i j : WasmFeaturesInflated) (bits : ℕ) → Packs i bits → Inflates bits j → j ≡ settled i

-- a set that was inflated and packed again: each feature that was allowed has its own bit, and no other has
abbrev pub PackedAgain : Type 0
PackedAgain = (f : Feature) (i : WasmFeaturesInflated) (bits after : ℕ) → Inflates bits i → Packs i after → has_own f after ≡ has f bits

-- no set of features alone asks that operators on vectors be judged
abbrev pub AskedApart : Type 0
AskedApart = (bits : ℕ) → bits < 2 ^ 28 → judges_vectors bits ≡ false
