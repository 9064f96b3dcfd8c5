-- Atomic accesses are found by prefix and code, and made of their immediates.
use Rattle.std.proofs.Common.{List, [], ◌∷◌, map, refl}
use Rattle.wasm_operators_immediates.proofs.Codes.{Told, Made}
use Rattle.wasm_operators_immediates.specs.declared.memory.Ordering.TheVariants.{SeqCst}
use Rattle.wasm_operators_immediates.specs.Immediates.{kind_of}
use Rattle.wasm_operators_immediates.proofs.Makers.{Maker, argument, bare, number, one, ordering, some_argument, three, two}
use Rattle.wasm_operators_enums.specs.threads.Table.{atomic_info, shared_info}
use Rattle.wasm_operators_enums.specs.threads.Immediates.{atomic_immediates, shared_immediates}
use Rattle.wasm_operators_enums.specs.declared.atomic.AtomicOperator.{AtomicOperator}
use Rattle.wasm_operators_enums.specs.declared.atomic.AtomicOperator.TheVariants as atomic
use Rattle.wasm_operators_enums.specs.declared.atomic.SharedOperator.{SharedOperator}
use Rattle.wasm_operators_enums.specs.declared.atomic.SharedOperator.TheVariants as shared

-- ---- atomic

abbrev pub atomic_list : List (AtomicOperator × Maker AtomicOperator)
atomic_list =
    (atomic.MemoryAtomicNotify some_argument, one argument atomic.MemoryAtomicNotify) ∷
    (atomic.MemoryAtomicWait32 some_argument, one argument atomic.MemoryAtomicWait32) ∷
    (atomic.MemoryAtomicWait64 some_argument, one argument atomic.MemoryAtomicWait64) ∷
    (atomic.AtomicFence, bare atomic.AtomicFence) ∷
    (atomic.I32AtomicLoad some_argument, one argument atomic.I32AtomicLoad) ∷
    (atomic.I64AtomicLoad some_argument, one argument atomic.I64AtomicLoad) ∷
    (atomic.I32AtomicLoad8U some_argument, one argument atomic.I32AtomicLoad8U) ∷
    (atomic.I32AtomicLoad16U some_argument, one argument atomic.I32AtomicLoad16U) ∷
    (atomic.I64AtomicLoad8U some_argument, one argument atomic.I64AtomicLoad8U) ∷
    (atomic.I64AtomicLoad16U some_argument, one argument atomic.I64AtomicLoad16U) ∷
    (atomic.I64AtomicLoad32U some_argument, one argument atomic.I64AtomicLoad32U) ∷
    (atomic.I32AtomicStore some_argument, one argument atomic.I32AtomicStore) ∷
    (atomic.I64AtomicStore some_argument, one argument atomic.I64AtomicStore) ∷
    (atomic.I32AtomicStore8 some_argument, one argument atomic.I32AtomicStore8) ∷
    (atomic.I32AtomicStore16 some_argument, one argument atomic.I32AtomicStore16) ∷
    (atomic.I64AtomicStore8 some_argument, one argument atomic.I64AtomicStore8) ∷
    (atomic.I64AtomicStore16 some_argument, one argument atomic.I64AtomicStore16) ∷
    (atomic.I64AtomicStore32 some_argument, one argument atomic.I64AtomicStore32) ∷
    (atomic.I32AtomicRmwAdd some_argument, one argument atomic.I32AtomicRmwAdd) ∷
    (atomic.I64AtomicRmwAdd some_argument, one argument atomic.I64AtomicRmwAdd) ∷
    (atomic.I32AtomicRmw8AddU some_argument, one argument atomic.I32AtomicRmw8AddU) ∷
    (atomic.I32AtomicRmw16AddU some_argument, one argument atomic.I32AtomicRmw16AddU) ∷
    (atomic.I64AtomicRmw8AddU some_argument, one argument atomic.I64AtomicRmw8AddU) ∷
    (atomic.I64AtomicRmw16AddU some_argument, one argument atomic.I64AtomicRmw16AddU) ∷
    (atomic.I64AtomicRmw32AddU some_argument, one argument atomic.I64AtomicRmw32AddU) ∷
    (atomic.I32AtomicRmwSub some_argument, one argument atomic.I32AtomicRmwSub) ∷
    (atomic.I64AtomicRmwSub some_argument, one argument atomic.I64AtomicRmwSub) ∷
    (atomic.I32AtomicRmw8SubU some_argument, one argument atomic.I32AtomicRmw8SubU) ∷
    (atomic.I32AtomicRmw16SubU some_argument, one argument atomic.I32AtomicRmw16SubU) ∷
    (atomic.I64AtomicRmw8SubU some_argument, one argument atomic.I64AtomicRmw8SubU) ∷
    (atomic.I64AtomicRmw16SubU some_argument, one argument atomic.I64AtomicRmw16SubU) ∷
    (atomic.I64AtomicRmw32SubU some_argument, one argument atomic.I64AtomicRmw32SubU) ∷
    (atomic.I32AtomicRmwAnd some_argument, one argument atomic.I32AtomicRmwAnd) ∷
    (atomic.I64AtomicRmwAnd some_argument, one argument atomic.I64AtomicRmwAnd) ∷
    (atomic.I32AtomicRmw8AndU some_argument, one argument atomic.I32AtomicRmw8AndU) ∷
    (atomic.I32AtomicRmw16AndU some_argument, one argument atomic.I32AtomicRmw16AndU) ∷
    (atomic.I64AtomicRmw8AndU some_argument, one argument atomic.I64AtomicRmw8AndU) ∷
    (atomic.I64AtomicRmw16AndU some_argument, one argument atomic.I64AtomicRmw16AndU) ∷
    (atomic.I64AtomicRmw32AndU some_argument, one argument atomic.I64AtomicRmw32AndU) ∷
    (atomic.I32AtomicRmwOr some_argument, one argument atomic.I32AtomicRmwOr) ∷
    (atomic.I64AtomicRmwOr some_argument, one argument atomic.I64AtomicRmwOr) ∷
    (atomic.I32AtomicRmw8OrU some_argument, one argument atomic.I32AtomicRmw8OrU) ∷
    (atomic.I32AtomicRmw16OrU some_argument, one argument atomic.I32AtomicRmw16OrU) ∷
    (atomic.I64AtomicRmw8OrU some_argument, one argument atomic.I64AtomicRmw8OrU) ∷
    (atomic.I64AtomicRmw16OrU some_argument, one argument atomic.I64AtomicRmw16OrU) ∷
    (atomic.I64AtomicRmw32OrU some_argument, one argument atomic.I64AtomicRmw32OrU) ∷
    (atomic.I32AtomicRmwXor some_argument, one argument atomic.I32AtomicRmwXor) ∷
    (atomic.I64AtomicRmwXor some_argument, one argument atomic.I64AtomicRmwXor) ∷
    (atomic.I32AtomicRmw8XorU some_argument, one argument atomic.I32AtomicRmw8XorU) ∷
    (atomic.I32AtomicRmw16XorU some_argument, one argument atomic.I32AtomicRmw16XorU) ∷
    (atomic.I64AtomicRmw8XorU some_argument, one argument atomic.I64AtomicRmw8XorU) ∷
    (atomic.I64AtomicRmw16XorU some_argument, one argument atomic.I64AtomicRmw16XorU) ∷
    (atomic.I64AtomicRmw32XorU some_argument, one argument atomic.I64AtomicRmw32XorU) ∷
    (atomic.I32AtomicRmwXchg some_argument, one argument atomic.I32AtomicRmwXchg) ∷
    (atomic.I64AtomicRmwXchg some_argument, one argument atomic.I64AtomicRmwXchg) ∷
    (atomic.I32AtomicRmw8XchgU some_argument, one argument atomic.I32AtomicRmw8XchgU) ∷
    (atomic.I32AtomicRmw16XchgU some_argument, one argument atomic.I32AtomicRmw16XchgU) ∷
    (atomic.I64AtomicRmw8XchgU some_argument, one argument atomic.I64AtomicRmw8XchgU) ∷
    (atomic.I64AtomicRmw16XchgU some_argument, one argument atomic.I64AtomicRmw16XchgU) ∷
    (atomic.I64AtomicRmw32XchgU some_argument, one argument atomic.I64AtomicRmw32XchgU) ∷
    (atomic.I32AtomicRmwCmpxchg some_argument, one argument atomic.I32AtomicRmwCmpxchg) ∷
    (atomic.I64AtomicRmwCmpxchg some_argument, one argument atomic.I64AtomicRmwCmpxchg) ∷
    (atomic.I32AtomicRmw8CmpxchgU some_argument, one argument atomic.I32AtomicRmw8CmpxchgU) ∷
    (atomic.I32AtomicRmw16CmpxchgU some_argument, one argument atomic.I32AtomicRmw16CmpxchgU) ∷
    (atomic.I64AtomicRmw8CmpxchgU some_argument, one argument atomic.I64AtomicRmw8CmpxchgU) ∷
    (atomic.I64AtomicRmw16CmpxchgU some_argument, one argument atomic.I64AtomicRmw16CmpxchgU) ∷
    (atomic.I64AtomicRmw32CmpxchgU some_argument, one argument atomic.I64AtomicRmw32CmpxchgU) ∷ []

pub atomic_told : (o : AtomicOperator) → Told atomic_info atomic_immediates (map kind_of) atomic_list o
atomic_told (atomic.MemoryAtomicNotify memarg) = (refl, refl)
atomic_told (atomic.MemoryAtomicWait32 memarg) = (refl, refl)
atomic_told (atomic.MemoryAtomicWait64 memarg) = (refl, refl)
atomic_told atomic.AtomicFence = (refl, refl)
atomic_told (atomic.I32AtomicLoad memarg) = (refl, refl)
atomic_told (atomic.I64AtomicLoad memarg) = (refl, refl)
atomic_told (atomic.I32AtomicLoad8U memarg) = (refl, refl)
atomic_told (atomic.I32AtomicLoad16U memarg) = (refl, refl)
atomic_told (atomic.I64AtomicLoad8U memarg) = (refl, refl)
atomic_told (atomic.I64AtomicLoad16U memarg) = (refl, refl)
atomic_told (atomic.I64AtomicLoad32U memarg) = (refl, refl)
atomic_told (atomic.I32AtomicStore memarg) = (refl, refl)
atomic_told (atomic.I64AtomicStore memarg) = (refl, refl)
atomic_told (atomic.I32AtomicStore8 memarg) = (refl, refl)
atomic_told (atomic.I32AtomicStore16 memarg) = (refl, refl)
atomic_told (atomic.I64AtomicStore8 memarg) = (refl, refl)
atomic_told (atomic.I64AtomicStore16 memarg) = (refl, refl)
atomic_told (atomic.I64AtomicStore32 memarg) = (refl, refl)
atomic_told (atomic.I32AtomicRmwAdd memarg) = (refl, refl)
atomic_told (atomic.I64AtomicRmwAdd memarg) = (refl, refl)
atomic_told (atomic.I32AtomicRmw8AddU memarg) = (refl, refl)
atomic_told (atomic.I32AtomicRmw16AddU memarg) = (refl, refl)
atomic_told (atomic.I64AtomicRmw8AddU memarg) = (refl, refl)
atomic_told (atomic.I64AtomicRmw16AddU memarg) = (refl, refl)
atomic_told (atomic.I64AtomicRmw32AddU memarg) = (refl, refl)
atomic_told (atomic.I32AtomicRmwSub memarg) = (refl, refl)
atomic_told (atomic.I64AtomicRmwSub memarg) = (refl, refl)
atomic_told (atomic.I32AtomicRmw8SubU memarg) = (refl, refl)
atomic_told (atomic.I32AtomicRmw16SubU memarg) = (refl, refl)
atomic_told (atomic.I64AtomicRmw8SubU memarg) = (refl, refl)
atomic_told (atomic.I64AtomicRmw16SubU memarg) = (refl, refl)
atomic_told (atomic.I64AtomicRmw32SubU memarg) = (refl, refl)
atomic_told (atomic.I32AtomicRmwAnd memarg) = (refl, refl)
atomic_told (atomic.I64AtomicRmwAnd memarg) = (refl, refl)
atomic_told (atomic.I32AtomicRmw8AndU memarg) = (refl, refl)
atomic_told (atomic.I32AtomicRmw16AndU memarg) = (refl, refl)
atomic_told (atomic.I64AtomicRmw8AndU memarg) = (refl, refl)
atomic_told (atomic.I64AtomicRmw16AndU memarg) = (refl, refl)
atomic_told (atomic.I64AtomicRmw32AndU memarg) = (refl, refl)
atomic_told (atomic.I32AtomicRmwOr memarg) = (refl, refl)
atomic_told (atomic.I64AtomicRmwOr memarg) = (refl, refl)
atomic_told (atomic.I32AtomicRmw8OrU memarg) = (refl, refl)
atomic_told (atomic.I32AtomicRmw16OrU memarg) = (refl, refl)
atomic_told (atomic.I64AtomicRmw8OrU memarg) = (refl, refl)
atomic_told (atomic.I64AtomicRmw16OrU memarg) = (refl, refl)
atomic_told (atomic.I64AtomicRmw32OrU memarg) = (refl, refl)
atomic_told (atomic.I32AtomicRmwXor memarg) = (refl, refl)
atomic_told (atomic.I64AtomicRmwXor memarg) = (refl, refl)
atomic_told (atomic.I32AtomicRmw8XorU memarg) = (refl, refl)
atomic_told (atomic.I32AtomicRmw16XorU memarg) = (refl, refl)
atomic_told (atomic.I64AtomicRmw8XorU memarg) = (refl, refl)
atomic_told (atomic.I64AtomicRmw16XorU memarg) = (refl, refl)
atomic_told (atomic.I64AtomicRmw32XorU memarg) = (refl, refl)
atomic_told (atomic.I32AtomicRmwXchg memarg) = (refl, refl)
atomic_told (atomic.I64AtomicRmwXchg memarg) = (refl, refl)
atomic_told (atomic.I32AtomicRmw8XchgU memarg) = (refl, refl)
atomic_told (atomic.I32AtomicRmw16XchgU memarg) = (refl, refl)
atomic_told (atomic.I64AtomicRmw8XchgU memarg) = (refl, refl)
atomic_told (atomic.I64AtomicRmw16XchgU memarg) = (refl, refl)
atomic_told (atomic.I64AtomicRmw32XchgU memarg) = (refl, refl)
atomic_told (atomic.I32AtomicRmwCmpxchg memarg) = (refl, refl)
atomic_told (atomic.I64AtomicRmwCmpxchg memarg) = (refl, refl)
atomic_told (atomic.I32AtomicRmw8CmpxchgU memarg) = (refl, refl)
atomic_told (atomic.I32AtomicRmw16CmpxchgU memarg) = (refl, refl)
atomic_told (atomic.I64AtomicRmw8CmpxchgU memarg) = (refl, refl)
atomic_told (atomic.I64AtomicRmw16CmpxchgU memarg) = (refl, refl)
atomic_told (atomic.I64AtomicRmw32CmpxchgU memarg) = (refl, refl)

pub atomic_made : (o : AtomicOperator) → Made atomic_info atomic_immediates (map kind_of) atomic_list o
atomic_made (atomic.MemoryAtomicNotify memarg) = refl
atomic_made (atomic.MemoryAtomicWait32 memarg) = refl
atomic_made (atomic.MemoryAtomicWait64 memarg) = refl
atomic_made atomic.AtomicFence = refl
atomic_made (atomic.I32AtomicLoad memarg) = refl
atomic_made (atomic.I64AtomicLoad memarg) = refl
atomic_made (atomic.I32AtomicLoad8U memarg) = refl
atomic_made (atomic.I32AtomicLoad16U memarg) = refl
atomic_made (atomic.I64AtomicLoad8U memarg) = refl
atomic_made (atomic.I64AtomicLoad16U memarg) = refl
atomic_made (atomic.I64AtomicLoad32U memarg) = refl
atomic_made (atomic.I32AtomicStore memarg) = refl
atomic_made (atomic.I64AtomicStore memarg) = refl
atomic_made (atomic.I32AtomicStore8 memarg) = refl
atomic_made (atomic.I32AtomicStore16 memarg) = refl
atomic_made (atomic.I64AtomicStore8 memarg) = refl
atomic_made (atomic.I64AtomicStore16 memarg) = refl
atomic_made (atomic.I64AtomicStore32 memarg) = refl
atomic_made (atomic.I32AtomicRmwAdd memarg) = refl
atomic_made (atomic.I64AtomicRmwAdd memarg) = refl
atomic_made (atomic.I32AtomicRmw8AddU memarg) = refl
atomic_made (atomic.I32AtomicRmw16AddU memarg) = refl
atomic_made (atomic.I64AtomicRmw8AddU memarg) = refl
atomic_made (atomic.I64AtomicRmw16AddU memarg) = refl
atomic_made (atomic.I64AtomicRmw32AddU memarg) = refl
atomic_made (atomic.I32AtomicRmwSub memarg) = refl
atomic_made (atomic.I64AtomicRmwSub memarg) = refl
atomic_made (atomic.I32AtomicRmw8SubU memarg) = refl
atomic_made (atomic.I32AtomicRmw16SubU memarg) = refl
atomic_made (atomic.I64AtomicRmw8SubU memarg) = refl
atomic_made (atomic.I64AtomicRmw16SubU memarg) = refl
atomic_made (atomic.I64AtomicRmw32SubU memarg) = refl
atomic_made (atomic.I32AtomicRmwAnd memarg) = refl
atomic_made (atomic.I64AtomicRmwAnd memarg) = refl
atomic_made (atomic.I32AtomicRmw8AndU memarg) = refl
atomic_made (atomic.I32AtomicRmw16AndU memarg) = refl
atomic_made (atomic.I64AtomicRmw8AndU memarg) = refl
atomic_made (atomic.I64AtomicRmw16AndU memarg) = refl
atomic_made (atomic.I64AtomicRmw32AndU memarg) = refl
atomic_made (atomic.I32AtomicRmwOr memarg) = refl
atomic_made (atomic.I64AtomicRmwOr memarg) = refl
atomic_made (atomic.I32AtomicRmw8OrU memarg) = refl
atomic_made (atomic.I32AtomicRmw16OrU memarg) = refl
atomic_made (atomic.I64AtomicRmw8OrU memarg) = refl
atomic_made (atomic.I64AtomicRmw16OrU memarg) = refl
atomic_made (atomic.I64AtomicRmw32OrU memarg) = refl
atomic_made (atomic.I32AtomicRmwXor memarg) = refl
atomic_made (atomic.I64AtomicRmwXor memarg) = refl
atomic_made (atomic.I32AtomicRmw8XorU memarg) = refl
atomic_made (atomic.I32AtomicRmw16XorU memarg) = refl
atomic_made (atomic.I64AtomicRmw8XorU memarg) = refl
atomic_made (atomic.I64AtomicRmw16XorU memarg) = refl
atomic_made (atomic.I64AtomicRmw32XorU memarg) = refl
atomic_made (atomic.I32AtomicRmwXchg memarg) = refl
atomic_made (atomic.I64AtomicRmwXchg memarg) = refl
atomic_made (atomic.I32AtomicRmw8XchgU memarg) = refl
atomic_made (atomic.I32AtomicRmw16XchgU memarg) = refl
atomic_made (atomic.I64AtomicRmw8XchgU memarg) = refl
atomic_made (atomic.I64AtomicRmw16XchgU memarg) = refl
atomic_made (atomic.I64AtomicRmw32XchgU memarg) = refl
atomic_made (atomic.I32AtomicRmwCmpxchg memarg) = refl
atomic_made (atomic.I64AtomicRmwCmpxchg memarg) = refl
atomic_made (atomic.I32AtomicRmw8CmpxchgU memarg) = refl
atomic_made (atomic.I32AtomicRmw16CmpxchgU memarg) = refl
atomic_made (atomic.I64AtomicRmw8CmpxchgU memarg) = refl
atomic_made (atomic.I64AtomicRmw16CmpxchgU memarg) = refl
atomic_made (atomic.I64AtomicRmw32CmpxchgU memarg) = refl

-- ---- shared

abbrev pub shared_list : List (SharedOperator × Maker SharedOperator)
shared_list =
    (shared.GlobalAtomicGet SeqCst 0, two ordering number shared.GlobalAtomicGet) ∷
    (shared.GlobalAtomicSet SeqCst 0, two ordering number shared.GlobalAtomicSet) ∷
    (shared.GlobalAtomicRmwAdd SeqCst 0, two ordering number shared.GlobalAtomicRmwAdd) ∷
    (shared.GlobalAtomicRmwSub SeqCst 0, two ordering number shared.GlobalAtomicRmwSub) ∷
    (shared.GlobalAtomicRmwAnd SeqCst 0, two ordering number shared.GlobalAtomicRmwAnd) ∷
    (shared.GlobalAtomicRmwOr SeqCst 0, two ordering number shared.GlobalAtomicRmwOr) ∷
    (shared.GlobalAtomicRmwXor SeqCst 0, two ordering number shared.GlobalAtomicRmwXor) ∷
    (shared.GlobalAtomicRmwXchg SeqCst 0, two ordering number shared.GlobalAtomicRmwXchg) ∷
    (shared.GlobalAtomicRmwCmpxchg SeqCst 0, two ordering number shared.GlobalAtomicRmwCmpxchg) ∷
    (shared.TableAtomicGet SeqCst 0, two ordering number shared.TableAtomicGet) ∷
    (shared.TableAtomicSet SeqCst 0, two ordering number shared.TableAtomicSet) ∷
    (shared.TableAtomicRmwXchg SeqCst 0, two ordering number shared.TableAtomicRmwXchg) ∷
    (shared.TableAtomicRmwCmpxchg SeqCst 0, two ordering number shared.TableAtomicRmwCmpxchg) ∷
    (shared.StructAtomicGet SeqCst 0 0, three ordering number number shared.StructAtomicGet) ∷
    (shared.StructAtomicGetS SeqCst 0 0, three ordering number number shared.StructAtomicGetS) ∷
    (shared.StructAtomicGetU SeqCst 0 0, three ordering number number shared.StructAtomicGetU) ∷
    (shared.StructAtomicSet SeqCst 0 0, three ordering number number shared.StructAtomicSet) ∷
    (shared.StructAtomicRmwAdd SeqCst 0 0, three ordering number number shared.StructAtomicRmwAdd) ∷
    (shared.StructAtomicRmwSub SeqCst 0 0, three ordering number number shared.StructAtomicRmwSub) ∷
    (shared.StructAtomicRmwAnd SeqCst 0 0, three ordering number number shared.StructAtomicRmwAnd) ∷
    (shared.StructAtomicRmwOr SeqCst 0 0, three ordering number number shared.StructAtomicRmwOr) ∷
    (shared.StructAtomicRmwXor SeqCst 0 0, three ordering number number shared.StructAtomicRmwXor) ∷
    (shared.StructAtomicRmwXchg SeqCst 0 0, three ordering number number shared.StructAtomicRmwXchg) ∷
    (shared.StructAtomicRmwCmpxchg SeqCst 0 0, three ordering number number shared.StructAtomicRmwCmpxchg) ∷
    (shared.ArrayAtomicGet SeqCst 0, two ordering number shared.ArrayAtomicGet) ∷
    (shared.ArrayAtomicGetS SeqCst 0, two ordering number shared.ArrayAtomicGetS) ∷
    (shared.ArrayAtomicGetU SeqCst 0, two ordering number shared.ArrayAtomicGetU) ∷
    (shared.ArrayAtomicSet SeqCst 0, two ordering number shared.ArrayAtomicSet) ∷
    (shared.ArrayAtomicRmwAdd SeqCst 0, two ordering number shared.ArrayAtomicRmwAdd) ∷
    (shared.ArrayAtomicRmwSub SeqCst 0, two ordering number shared.ArrayAtomicRmwSub) ∷
    (shared.ArrayAtomicRmwAnd SeqCst 0, two ordering number shared.ArrayAtomicRmwAnd) ∷
    (shared.ArrayAtomicRmwOr SeqCst 0, two ordering number shared.ArrayAtomicRmwOr) ∷
    (shared.ArrayAtomicRmwXor SeqCst 0, two ordering number shared.ArrayAtomicRmwXor) ∷
    (shared.ArrayAtomicRmwXchg SeqCst 0, two ordering number shared.ArrayAtomicRmwXchg) ∷
    (shared.ArrayAtomicRmwCmpxchg SeqCst 0, two ordering number shared.ArrayAtomicRmwCmpxchg) ∷
    (shared.RefI31Shared, bare shared.RefI31Shared) ∷ []

pub shared_told : (o : SharedOperator) → Told shared_info shared_immediates (map kind_of) shared_list o
shared_told (shared.GlobalAtomicGet ordering global_index) = (refl, refl)
shared_told (shared.GlobalAtomicSet ordering global_index) = (refl, refl)
shared_told (shared.GlobalAtomicRmwAdd ordering global_index) = (refl, refl)
shared_told (shared.GlobalAtomicRmwSub ordering global_index) = (refl, refl)
shared_told (shared.GlobalAtomicRmwAnd ordering global_index) = (refl, refl)
shared_told (shared.GlobalAtomicRmwOr ordering global_index) = (refl, refl)
shared_told (shared.GlobalAtomicRmwXor ordering global_index) = (refl, refl)
shared_told (shared.GlobalAtomicRmwXchg ordering global_index) = (refl, refl)
shared_told (shared.GlobalAtomicRmwCmpxchg ordering global_index) = (refl, refl)
shared_told (shared.TableAtomicGet ordering table_index) = (refl, refl)
shared_told (shared.TableAtomicSet ordering table_index) = (refl, refl)
shared_told (shared.TableAtomicRmwXchg ordering table_index) = (refl, refl)
shared_told (shared.TableAtomicRmwCmpxchg ordering table_index) = (refl, refl)
shared_told (shared.StructAtomicGet ordering struct_type_index field_index) = (refl, refl)
shared_told (shared.StructAtomicGetS ordering struct_type_index field_index) = (refl, refl)
shared_told (shared.StructAtomicGetU ordering struct_type_index field_index) = (refl, refl)
shared_told (shared.StructAtomicSet ordering struct_type_index field_index) = (refl, refl)
shared_told (shared.StructAtomicRmwAdd ordering struct_type_index field_index) = (refl, refl)
shared_told (shared.StructAtomicRmwSub ordering struct_type_index field_index) = (refl, refl)
shared_told (shared.StructAtomicRmwAnd ordering struct_type_index field_index) = (refl, refl)
shared_told (shared.StructAtomicRmwOr ordering struct_type_index field_index) = (refl, refl)
shared_told (shared.StructAtomicRmwXor ordering struct_type_index field_index) = (refl, refl)
shared_told (shared.StructAtomicRmwXchg ordering struct_type_index field_index) = (refl, refl)
shared_told (shared.StructAtomicRmwCmpxchg ordering struct_type_index field_index) = (refl, refl)
shared_told (shared.ArrayAtomicGet ordering array_type_index) = (refl, refl)
shared_told (shared.ArrayAtomicGetS ordering array_type_index) = (refl, refl)
shared_told (shared.ArrayAtomicGetU ordering array_type_index) = (refl, refl)
shared_told (shared.ArrayAtomicSet ordering array_type_index) = (refl, refl)
shared_told (shared.ArrayAtomicRmwAdd ordering array_type_index) = (refl, refl)
shared_told (shared.ArrayAtomicRmwSub ordering array_type_index) = (refl, refl)
shared_told (shared.ArrayAtomicRmwAnd ordering array_type_index) = (refl, refl)
shared_told (shared.ArrayAtomicRmwOr ordering array_type_index) = (refl, refl)
shared_told (shared.ArrayAtomicRmwXor ordering array_type_index) = (refl, refl)
shared_told (shared.ArrayAtomicRmwXchg ordering array_type_index) = (refl, refl)
shared_told (shared.ArrayAtomicRmwCmpxchg ordering array_type_index) = (refl, refl)
shared_told shared.RefI31Shared = (refl, refl)

pub shared_made : (o : SharedOperator) → Made shared_info shared_immediates (map kind_of) shared_list o
shared_made (shared.GlobalAtomicGet ordering global_index) = refl
shared_made (shared.GlobalAtomicSet ordering global_index) = refl
shared_made (shared.GlobalAtomicRmwAdd ordering global_index) = refl
shared_made (shared.GlobalAtomicRmwSub ordering global_index) = refl
shared_made (shared.GlobalAtomicRmwAnd ordering global_index) = refl
shared_made (shared.GlobalAtomicRmwOr ordering global_index) = refl
shared_made (shared.GlobalAtomicRmwXor ordering global_index) = refl
shared_made (shared.GlobalAtomicRmwXchg ordering global_index) = refl
shared_made (shared.GlobalAtomicRmwCmpxchg ordering global_index) = refl
shared_made (shared.TableAtomicGet ordering table_index) = refl
shared_made (shared.TableAtomicSet ordering table_index) = refl
shared_made (shared.TableAtomicRmwXchg ordering table_index) = refl
shared_made (shared.TableAtomicRmwCmpxchg ordering table_index) = refl
shared_made (shared.StructAtomicGet ordering struct_type_index field_index) = refl
shared_made (shared.StructAtomicGetS ordering struct_type_index field_index) = refl
shared_made (shared.StructAtomicGetU ordering struct_type_index field_index) = refl
shared_made (shared.StructAtomicSet ordering struct_type_index field_index) = refl
shared_made (shared.StructAtomicRmwAdd ordering struct_type_index field_index) = refl
shared_made (shared.StructAtomicRmwSub ordering struct_type_index field_index) = refl
shared_made (shared.StructAtomicRmwAnd ordering struct_type_index field_index) = refl
shared_made (shared.StructAtomicRmwOr ordering struct_type_index field_index) = refl
shared_made (shared.StructAtomicRmwXor ordering struct_type_index field_index) = refl
shared_made (shared.StructAtomicRmwXchg ordering struct_type_index field_index) = refl
shared_made (shared.StructAtomicRmwCmpxchg ordering struct_type_index field_index) = refl
shared_made (shared.ArrayAtomicGet ordering array_type_index) = refl
shared_made (shared.ArrayAtomicGetS ordering array_type_index) = refl
shared_made (shared.ArrayAtomicGetU ordering array_type_index) = refl
shared_made (shared.ArrayAtomicSet ordering array_type_index) = refl
shared_made (shared.ArrayAtomicRmwAdd ordering array_type_index) = refl
shared_made (shared.ArrayAtomicRmwSub ordering array_type_index) = refl
shared_made (shared.ArrayAtomicRmwAnd ordering array_type_index) = refl
shared_made (shared.ArrayAtomicRmwOr ordering array_type_index) = refl
shared_made (shared.ArrayAtomicRmwXor ordering array_type_index) = refl
shared_made (shared.ArrayAtomicRmwXchg ordering array_type_index) = refl
shared_made (shared.ArrayAtomicRmwCmpxchg ordering array_type_index) = refl
shared_made shared.RefI31Shared = refl
