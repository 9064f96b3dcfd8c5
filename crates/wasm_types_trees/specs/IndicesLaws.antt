-- Comparing indices in 22 bits is comparing the indices.
use Rattle.std.proofs.Common.{◌≡◌, ◌↔◌, IsTrue, rules}
use Rattle.wasm_types_trees.specs.declared.index.UnpackedIndex.{UnpackedIndex}
use Rattle.wasm_types_trees.specs.contracts.index.UnpackedIndexPartialEq.TheImpl as unpacked
use Rattle.wasm_types_trees.specs.contracts.index.UnpackedIndexOrd.TheImpl as unpacked_order
use Rattle.wasm_types_trees.specs.contracts.packed.PackedIndexPartialEq.TheImpl as packed
use Rattle.wasm_types_trees.specs.contracts.packed.PackedIndexOrd.TheImpl as packed_order

-- equal are indices that are the same
abbrev pub PackedEqualityIsIdentity : Type 0
PackedEqualityIsIdentity = (a b : UnpackedIndex) → IsTrue (packed.ghosts.eq a b) ↔ (a ≡ b)

abbrev pub UnpackedEqualityIsIdentity : Type 0
UnpackedEqualityIsIdentity = (a b : UnpackedIndex) → IsTrue (unpacked.ghosts.eq a b) ↔ (a ≡ b)

-- both order alike
abbrev pub OrdersAgree : Type 0
OrdersAgree = (a b : UnpackedIndex) → packed_order.ghosts.cmp a b ≡ unpacked_order.ghosts.cmp a b

-- These hold: layers above cite them.
pub packed-equality : PackedEqualityIsIdentity
packed-equality a b = search rules

pub unpacked-equality : UnpackedEqualityIsIdentity
unpacked-equality a b = search rules
