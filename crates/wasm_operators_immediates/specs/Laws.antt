-- Laws of immediates.
use Rattle.std.specs.Prelude.{◌≡◌, ◌↔◌, ℕ, ◌<◌, ◌^◌, List, length, IsTrue}
use Rattle.std.specs.Int.{w128, to_le_bytes, from_le_bytes}
use Rattle.std.specs.List.{All}
use Rattle.wasm_operators_immediates.specs.Tables.{Labels, same_labels, catch_table_of}
use Rattle.wasm_operators_immediates.specs.declared.memory.MemArg.{MemArg}
use Rattle.wasm_operators_immediates.specs.declared.memory.Ordering.{Ordering}
use Rattle.wasm_operators_immediates.specs.declared.block.BlockType.{BlockType}
use Rattle.wasm_operators_immediates.specs.declared.vector.V128.{V128}
use Rattle.wasm_operators_immediates.specs.declared.handlers.Catch.{Catch}
use Rattle.wasm_operators_immediates.specs.declared.handlers.Handle.{Handle}
use Rattle.wasm_operators_immediates.specs.declared.handlers.TryTable.{TryTable}
use Rattle.wasm_operators_immediates.specs.declared.handlers.ResumeTable.{ResumeTable}
use Rattle.wasm_operators_immediates.specs.contracts.memory.MemArgPartialEq.TheImpl as argument
use Rattle.wasm_operators_immediates.specs.contracts.memory.OrderingPartialEq.TheImpl as ordering
use Rattle.wasm_operators_immediates.specs.contracts.block.BlockTypePartialEq.TheImpl as block
use Rattle.wasm_operators_immediates.specs.contracts.vector.V128PartialEq.TheImpl as vector
use Rattle.wasm_operators_immediates.specs.contracts.handlers.CatchPartialEq.TheImpl as catch
use Rattle.wasm_operators_immediates.specs.contracts.handlers.HandlePartialEq.TheImpl as handle
use Rattle.wasm_operators_immediates.specs.contracts.handlers.TryTablePartialEq.TheImpl as try_table
use Rattle.wasm_operators_immediates.specs.contracts.handlers.ResumeTablePartialEq.TheImpl as resume_table

-- `==` of tables of labels holds of a table and itself alone
abbrev pub LabelEqualityIsIdentity : Type 0
LabelEqualityIsIdentity = (a b : Labels) → IsTrue (same_labels a b) ↔ (a ≡ b)

-- a number is what its bytes are
abbrev pub NumbersAreKept : Type 0
NumbersAreKept = (n : ℕ) → n < 2 ^ 128 → from_le_bytes w128 (to_le_bytes w128 n) ≡ n

-- 16 bytes are those of their number
abbrev pub BytesAreKept : Type 0
BytesAreKept = (bytes : List ℕ) → length bytes ≡ 16 → All (λ b. b < 256) bytes → to_le_bytes w128 (from_le_bytes w128 bytes) ≡ bytes

-- ---- `==` of what else is carried holds exactly where the trees are equal

abbrev pub ArgumentEqualityIsIdentity : Type 0
ArgumentEqualityIsIdentity = (a b : MemArg) → IsTrue (argument.ghosts.eq a b) ↔ (a ≡ b)

abbrev pub OrderingEqualityIsIdentity : Type 0
OrderingEqualityIsIdentity = (a b : Ordering) → IsTrue (ordering.ghosts.eq a b) ↔ (a ≡ b)

abbrev pub BlockEqualityIsIdentity : Type 0
BlockEqualityIsIdentity = (a b : BlockType) → IsTrue (block.ghosts.eq a b) ↔ (a ≡ b)

abbrev pub VectorEqualityIsIdentity : Type 0
VectorEqualityIsIdentity = (a b : V128) → IsTrue (vector.ghosts.eq a b) ↔ (a ≡ b)

abbrev pub CatchEqualityIsIdentity : Type 0
CatchEqualityIsIdentity = (a b : Catch) → IsTrue (catch.ghosts.eq a b) ↔ (a ≡ b)

abbrev pub HandleEqualityIsIdentity : Type 0
HandleEqualityIsIdentity = (a b : Handle) → IsTrue (handle.ghosts.eq a b) ↔ (a ≡ b)

abbrev pub TryTableEqualityIsOfTrees : Type 0
TryTableEqualityIsOfTrees = (a b : TryTable) → IsTrue (try_table.ghosts.eq a b) ↔ (catch_table_of a ≡ catch_table_of b)

abbrev pub ResumeTableEqualityIsOfTrees : Type 0
ResumeTableEqualityIsOfTrees = (a b : ResumeTable) → IsTrue (resume_table.ghosts.eq a b) ↔ (a.handlers.items ≡ b.handlers.items)
