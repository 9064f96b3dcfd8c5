-- `==` of operators of variables, memories, constants, tables and references: it holds exactly where the trees are equal.
use Rattle.std.proofs.Common.{ℕ, refl, ap}
use Rattle.std.specs.Ordering.{int_eq}
use Rattle.std.specs.Cmp.{signed_Decides}
use Rattle.wasm_types.specs.reader.contracts.words.Ieee32PartialEq.TheImpl as float32_eq
use Rattle.wasm_types.specs.reader.contracts.words.Ieee64PartialEq.TheImpl as float64_eq
use Rattle.wasm_operators_immediates.proofs.Telling.{Identity, none, one, two, variants, ◌&◌}
use Rattle.wasm_operators_immediates.proofs.Equality.{identity, numbers, arguments}
use Rattle.wasm_operators_enums.specs.contracts.memory.MemoryOperator as memory
use Rattle.wasm_operators_enums.specs.contracts.memory.MemoryOperatorPartialEq.TheImpl as memory_eq
use Rattle.wasm_operators_enums.specs.contracts.constant.ConstOperator as const
use Rattle.wasm_operators_enums.specs.contracts.constant.ConstOperatorPartialEq.TheImpl as const_eq
use Rattle.wasm_types.specs.values.Laws.{HeapEqualityIsIdentity}
use Rattle.wasm_operators_enums.specs.contracts.bulk.BulkOperator as bulk
use Rattle.wasm_operators_enums.specs.contracts.bulk.BulkOperatorPartialEq.TheImpl as bulk_eq

signed : Identity int_eq
signed = record { sound = λ x y h. (signed_Decides x y).0 h; itself = λ x. (signed_Decides x x).1 refl }

floats32 : Identity float32_eq.ghosts.eq
floats32 = record { sound = λ x y h. ap (λ (bits : ℕ). record { 0 = bits }) (numbers.sound x.0 y.0 h); itself = λ x. numbers.itself x.0 }

floats64 : Identity float64_eq.ghosts.eq
floats64 = record { sound = λ x y h. ap (λ (bits : ℕ). record { 0 = bits }) (numbers.sound x.0 y.0 h); itself = λ x. numbers.itself x.0 }

pub memories : Identity memory_eq.ghosts.eq
memories = variants memory.enum _
    (one numbers & one numbers & one numbers & one numbers & one numbers & one arguments & one arguments &
    one arguments & one arguments & one arguments & one arguments & one arguments & one arguments & one arguments &
    one arguments & one arguments & one arguments & one arguments & one arguments & one arguments & one arguments &
    one arguments & one arguments & one arguments & one arguments & one arguments & one arguments & one arguments &
    one numbers & one numbers & tt)

pub consts : Identity const_eq.ghosts.eq
consts = variants const.enum _
    (one signed & one signed & one floats32 & one floats64 & tt)

pub bulks : (same_heap : HeapEqualityIsIdentity) → Identity bulk_eq.ghosts.eq
bulks same_heap = variants bulk.enum _
    (one numbers & one numbers & one (identity same_heap) & none & one numbers & two numbers numbers &
    one numbers & two numbers numbers & one numbers & two numbers numbers & one numbers & two numbers numbers &
    one numbers & one numbers & one numbers & one numbers & tt)
