-- Each atomic access has its shape.
use Rattle.std.proofs.Common.{refl}
use Rattle.wasm_operators_immediates.specs.Kinds.{Atomic, ReadModifyWrite}
use Rattle.wasm_operators_enums.specs.declared.atomic.AtomicOperator.TheVariants as atomic
use Rattle.wasm_operator_validator_fast_objects.proofs.AtomicRows.{coded_atomic}
use Rattle.wasm_operator_validator_fast_objects.proofs.atomics.shape_of.Goals as goal

pub returns-in-0-clause-access : goal.returns-in-0-clause-access
returns-in-0-clause-access c lt = coded_atomic Atomic (λ a. atomic.MemoryAtomicNotify a) c.in-0.is (λ a. refl) (λ a. refl) (λ a. refl) (λ a. refl) (λ a g. refl) (λ ids. refl) (λ ids. refl)

pub returns-in-1-clause-access : goal.returns-in-1-clause-access
returns-in-1-clause-access c lt = coded_atomic Atomic (λ a. atomic.MemoryAtomicWait32 a) c.in-1.is (λ a. refl) (λ a. refl) (λ a. refl) (λ a. refl) (λ a g. refl) (λ ids. refl) (λ ids. refl)

pub returns-in-2-clause-access : goal.returns-in-2-clause-access
returns-in-2-clause-access c lt = coded_atomic Atomic (λ a. atomic.MemoryAtomicWait64 a) c.in-2.is (λ a. refl) (λ a. refl) (λ a. refl) (λ a. refl) (λ a g. refl) (λ ids. refl) (λ ids. refl)

pub returns-in-16-clause-access : goal.returns-in-16-clause-access
returns-in-16-clause-access c lt = coded_atomic Atomic (λ a. atomic.I32AtomicLoad a) c.in-16.is (λ a. refl) (λ a. refl) (λ a. refl) (λ a. refl) (λ a g. refl) (λ ids. refl) (λ ids. refl)

pub returns-in-17-clause-access : goal.returns-in-17-clause-access
returns-in-17-clause-access c lt = coded_atomic Atomic (λ a. atomic.I64AtomicLoad a) c.in-17.is (λ a. refl) (λ a. refl) (λ a. refl) (λ a. refl) (λ a g. refl) (λ ids. refl) (λ ids. refl)

pub returns-in-18-clause-access : goal.returns-in-18-clause-access
returns-in-18-clause-access c lt = coded_atomic Atomic (λ a. atomic.I32AtomicLoad8U a) c.in-18.is (λ a. refl) (λ a. refl) (λ a. refl) (λ a. refl) (λ a g. refl) (λ ids. refl) (λ ids. refl)

pub returns-in-19-clause-access : goal.returns-in-19-clause-access
returns-in-19-clause-access c lt = coded_atomic Atomic (λ a. atomic.I32AtomicLoad16U a) c.in-19.is (λ a. refl) (λ a. refl) (λ a. refl) (λ a. refl) (λ a g. refl) (λ ids. refl) (λ ids. refl)

pub returns-in-20-clause-access : goal.returns-in-20-clause-access
returns-in-20-clause-access c lt = coded_atomic Atomic (λ a. atomic.I64AtomicLoad8U a) c.in-20.is (λ a. refl) (λ a. refl) (λ a. refl) (λ a. refl) (λ a g. refl) (λ ids. refl) (λ ids. refl)

pub returns-in-21-clause-access : goal.returns-in-21-clause-access
returns-in-21-clause-access c lt = coded_atomic Atomic (λ a. atomic.I64AtomicLoad16U a) c.in-21.is (λ a. refl) (λ a. refl) (λ a. refl) (λ a. refl) (λ a g. refl) (λ ids. refl) (λ ids. refl)

pub returns-in-22-clause-access : goal.returns-in-22-clause-access
returns-in-22-clause-access c lt = coded_atomic Atomic (λ a. atomic.I64AtomicLoad32U a) c.in-22.is (λ a. refl) (λ a. refl) (λ a. refl) (λ a. refl) (λ a g. refl) (λ ids. refl) (λ ids. refl)

pub returns-in-23-clause-access : goal.returns-in-23-clause-access
returns-in-23-clause-access c lt = coded_atomic Atomic (λ a. atomic.I32AtomicStore a) c.in-23.is (λ a. refl) (λ a. refl) (λ a. refl) (λ a. refl) (λ a g. refl) (λ ids. refl) (λ ids. refl)

pub returns-in-24-clause-access : goal.returns-in-24-clause-access
returns-in-24-clause-access c lt = coded_atomic Atomic (λ a. atomic.I64AtomicStore a) c.in-24.is (λ a. refl) (λ a. refl) (λ a. refl) (λ a. refl) (λ a g. refl) (λ ids. refl) (λ ids. refl)

pub returns-in-25-clause-access : goal.returns-in-25-clause-access
returns-in-25-clause-access c lt = coded_atomic Atomic (λ a. atomic.I32AtomicStore8 a) c.in-25.is (λ a. refl) (λ a. refl) (λ a. refl) (λ a. refl) (λ a g. refl) (λ ids. refl) (λ ids. refl)

pub returns-in-26-clause-access : goal.returns-in-26-clause-access
returns-in-26-clause-access c lt = coded_atomic Atomic (λ a. atomic.I32AtomicStore16 a) c.in-26.is (λ a. refl) (λ a. refl) (λ a. refl) (λ a. refl) (λ a g. refl) (λ ids. refl) (λ ids. refl)

pub returns-in-27-clause-access : goal.returns-in-27-clause-access
returns-in-27-clause-access c lt = coded_atomic Atomic (λ a. atomic.I64AtomicStore8 a) c.in-27.is (λ a. refl) (λ a. refl) (λ a. refl) (λ a. refl) (λ a g. refl) (λ ids. refl) (λ ids. refl)

pub returns-in-28-clause-access : goal.returns-in-28-clause-access
returns-in-28-clause-access c lt = coded_atomic Atomic (λ a. atomic.I64AtomicStore16 a) c.in-28.is (λ a. refl) (λ a. refl) (λ a. refl) (λ a. refl) (λ a g. refl) (λ ids. refl) (λ ids. refl)

pub returns-in-29-clause-access : goal.returns-in-29-clause-access
returns-in-29-clause-access c lt = coded_atomic Atomic (λ a. atomic.I64AtomicStore32 a) c.in-29.is (λ a. refl) (λ a. refl) (λ a. refl) (λ a. refl) (λ a g. refl) (λ ids. refl) (λ ids. refl)

pub returns-in-30-clause-access : goal.returns-in-30-clause-access
returns-in-30-clause-access c lt = coded_atomic ReadModifyWrite (λ a. atomic.I32AtomicRmwAdd a) c.in-30.is (λ a. refl) (λ a. refl) (λ a. refl) (λ a. refl) (λ a g. refl) (λ ids. refl) (λ ids. refl)

pub returns-in-31-clause-access : goal.returns-in-31-clause-access
returns-in-31-clause-access c lt = coded_atomic ReadModifyWrite (λ a. atomic.I64AtomicRmwAdd a) c.in-31.is (λ a. refl) (λ a. refl) (λ a. refl) (λ a. refl) (λ a g. refl) (λ ids. refl) (λ ids. refl)

pub returns-in-32-clause-access : goal.returns-in-32-clause-access
returns-in-32-clause-access c lt = coded_atomic ReadModifyWrite (λ a. atomic.I32AtomicRmw8AddU a) c.in-32.is (λ a. refl) (λ a. refl) (λ a. refl) (λ a. refl) (λ a g. refl) (λ ids. refl) (λ ids. refl)

pub returns-in-33-clause-access : goal.returns-in-33-clause-access
returns-in-33-clause-access c lt = coded_atomic ReadModifyWrite (λ a. atomic.I32AtomicRmw16AddU a) c.in-33.is (λ a. refl) (λ a. refl) (λ a. refl) (λ a. refl) (λ a g. refl) (λ ids. refl) (λ ids. refl)

pub returns-in-34-clause-access : goal.returns-in-34-clause-access
returns-in-34-clause-access c lt = coded_atomic ReadModifyWrite (λ a. atomic.I64AtomicRmw8AddU a) c.in-34.is (λ a. refl) (λ a. refl) (λ a. refl) (λ a. refl) (λ a g. refl) (λ ids. refl) (λ ids. refl)

pub returns-in-35-clause-access : goal.returns-in-35-clause-access
returns-in-35-clause-access c lt = coded_atomic ReadModifyWrite (λ a. atomic.I64AtomicRmw16AddU a) c.in-35.is (λ a. refl) (λ a. refl) (λ a. refl) (λ a. refl) (λ a g. refl) (λ ids. refl) (λ ids. refl)

pub returns-in-36-clause-access : goal.returns-in-36-clause-access
returns-in-36-clause-access c lt = coded_atomic ReadModifyWrite (λ a. atomic.I64AtomicRmw32AddU a) c.in-36.is (λ a. refl) (λ a. refl) (λ a. refl) (λ a. refl) (λ a g. refl) (λ ids. refl) (λ ids. refl)

pub returns-in-37-clause-access : goal.returns-in-37-clause-access
returns-in-37-clause-access c lt = coded_atomic ReadModifyWrite (λ a. atomic.I32AtomicRmwSub a) c.in-37.is (λ a. refl) (λ a. refl) (λ a. refl) (λ a. refl) (λ a g. refl) (λ ids. refl) (λ ids. refl)

pub returns-in-38-clause-access : goal.returns-in-38-clause-access
returns-in-38-clause-access c lt = coded_atomic ReadModifyWrite (λ a. atomic.I64AtomicRmwSub a) c.in-38.is (λ a. refl) (λ a. refl) (λ a. refl) (λ a. refl) (λ a g. refl) (λ ids. refl) (λ ids. refl)

pub returns-in-39-clause-access : goal.returns-in-39-clause-access
returns-in-39-clause-access c lt = coded_atomic ReadModifyWrite (λ a. atomic.I32AtomicRmw8SubU a) c.in-39.is (λ a. refl) (λ a. refl) (λ a. refl) (λ a. refl) (λ a g. refl) (λ ids. refl) (λ ids. refl)

pub returns-in-40-clause-access : goal.returns-in-40-clause-access
returns-in-40-clause-access c lt = coded_atomic ReadModifyWrite (λ a. atomic.I32AtomicRmw16SubU a) c.in-40.is (λ a. refl) (λ a. refl) (λ a. refl) (λ a. refl) (λ a g. refl) (λ ids. refl) (λ ids. refl)

pub returns-in-41-clause-access : goal.returns-in-41-clause-access
returns-in-41-clause-access c lt = coded_atomic ReadModifyWrite (λ a. atomic.I64AtomicRmw8SubU a) c.in-41.is (λ a. refl) (λ a. refl) (λ a. refl) (λ a. refl) (λ a g. refl) (λ ids. refl) (λ ids. refl)

pub returns-in-42-clause-access : goal.returns-in-42-clause-access
returns-in-42-clause-access c lt = coded_atomic ReadModifyWrite (λ a. atomic.I64AtomicRmw16SubU a) c.in-42.is (λ a. refl) (λ a. refl) (λ a. refl) (λ a. refl) (λ a g. refl) (λ ids. refl) (λ ids. refl)

pub returns-in-43-clause-access : goal.returns-in-43-clause-access
returns-in-43-clause-access c lt = coded_atomic ReadModifyWrite (λ a. atomic.I64AtomicRmw32SubU a) c.in-43.is (λ a. refl) (λ a. refl) (λ a. refl) (λ a. refl) (λ a g. refl) (λ ids. refl) (λ ids. refl)

pub returns-in-44-clause-access : goal.returns-in-44-clause-access
returns-in-44-clause-access c lt = coded_atomic ReadModifyWrite (λ a. atomic.I32AtomicRmwAnd a) c.in-44.is (λ a. refl) (λ a. refl) (λ a. refl) (λ a. refl) (λ a g. refl) (λ ids. refl) (λ ids. refl)

pub returns-in-45-clause-access : goal.returns-in-45-clause-access
returns-in-45-clause-access c lt = coded_atomic ReadModifyWrite (λ a. atomic.I64AtomicRmwAnd a) c.in-45.is (λ a. refl) (λ a. refl) (λ a. refl) (λ a. refl) (λ a g. refl) (λ ids. refl) (λ ids. refl)

pub returns-in-46-clause-access : goal.returns-in-46-clause-access
returns-in-46-clause-access c lt = coded_atomic ReadModifyWrite (λ a. atomic.I32AtomicRmw8AndU a) c.in-46.is (λ a. refl) (λ a. refl) (λ a. refl) (λ a. refl) (λ a g. refl) (λ ids. refl) (λ ids. refl)

pub returns-in-47-clause-access : goal.returns-in-47-clause-access
returns-in-47-clause-access c lt = coded_atomic ReadModifyWrite (λ a. atomic.I32AtomicRmw16AndU a) c.in-47.is (λ a. refl) (λ a. refl) (λ a. refl) (λ a. refl) (λ a g. refl) (λ ids. refl) (λ ids. refl)

pub returns-in-48-clause-access : goal.returns-in-48-clause-access
returns-in-48-clause-access c lt = coded_atomic ReadModifyWrite (λ a. atomic.I64AtomicRmw8AndU a) c.in-48.is (λ a. refl) (λ a. refl) (λ a. refl) (λ a. refl) (λ a g. refl) (λ ids. refl) (λ ids. refl)

pub returns-in-49-clause-access : goal.returns-in-49-clause-access
returns-in-49-clause-access c lt = coded_atomic ReadModifyWrite (λ a. atomic.I64AtomicRmw16AndU a) c.in-49.is (λ a. refl) (λ a. refl) (λ a. refl) (λ a. refl) (λ a g. refl) (λ ids. refl) (λ ids. refl)

pub returns-in-50-clause-access : goal.returns-in-50-clause-access
returns-in-50-clause-access c lt = coded_atomic ReadModifyWrite (λ a. atomic.I64AtomicRmw32AndU a) c.in-50.is (λ a. refl) (λ a. refl) (λ a. refl) (λ a. refl) (λ a g. refl) (λ ids. refl) (λ ids. refl)

pub returns-in-51-clause-access : goal.returns-in-51-clause-access
returns-in-51-clause-access c lt = coded_atomic ReadModifyWrite (λ a. atomic.I32AtomicRmwOr a) c.in-51.is (λ a. refl) (λ a. refl) (λ a. refl) (λ a. refl) (λ a g. refl) (λ ids. refl) (λ ids. refl)

pub returns-in-52-clause-access : goal.returns-in-52-clause-access
returns-in-52-clause-access c lt = coded_atomic ReadModifyWrite (λ a. atomic.I64AtomicRmwOr a) c.in-52.is (λ a. refl) (λ a. refl) (λ a. refl) (λ a. refl) (λ a g. refl) (λ ids. refl) (λ ids. refl)

pub returns-in-53-clause-access : goal.returns-in-53-clause-access
returns-in-53-clause-access c lt = coded_atomic ReadModifyWrite (λ a. atomic.I32AtomicRmw8OrU a) c.in-53.is (λ a. refl) (λ a. refl) (λ a. refl) (λ a. refl) (λ a g. refl) (λ ids. refl) (λ ids. refl)

pub returns-in-54-clause-access : goal.returns-in-54-clause-access
returns-in-54-clause-access c lt = coded_atomic ReadModifyWrite (λ a. atomic.I32AtomicRmw16OrU a) c.in-54.is (λ a. refl) (λ a. refl) (λ a. refl) (λ a. refl) (λ a g. refl) (λ ids. refl) (λ ids. refl)

pub returns-in-55-clause-access : goal.returns-in-55-clause-access
returns-in-55-clause-access c lt = coded_atomic ReadModifyWrite (λ a. atomic.I64AtomicRmw8OrU a) c.in-55.is (λ a. refl) (λ a. refl) (λ a. refl) (λ a. refl) (λ a g. refl) (λ ids. refl) (λ ids. refl)

pub returns-in-56-clause-access : goal.returns-in-56-clause-access
returns-in-56-clause-access c lt = coded_atomic ReadModifyWrite (λ a. atomic.I64AtomicRmw16OrU a) c.in-56.is (λ a. refl) (λ a. refl) (λ a. refl) (λ a. refl) (λ a g. refl) (λ ids. refl) (λ ids. refl)

pub returns-in-57-clause-access : goal.returns-in-57-clause-access
returns-in-57-clause-access c lt = coded_atomic ReadModifyWrite (λ a. atomic.I64AtomicRmw32OrU a) c.in-57.is (λ a. refl) (λ a. refl) (λ a. refl) (λ a. refl) (λ a g. refl) (λ ids. refl) (λ ids. refl)

pub returns-in-58-clause-access : goal.returns-in-58-clause-access
returns-in-58-clause-access c lt = coded_atomic ReadModifyWrite (λ a. atomic.I32AtomicRmwXor a) c.in-58.is (λ a. refl) (λ a. refl) (λ a. refl) (λ a. refl) (λ a g. refl) (λ ids. refl) (λ ids. refl)

pub returns-in-59-clause-access : goal.returns-in-59-clause-access
returns-in-59-clause-access c lt = coded_atomic ReadModifyWrite (λ a. atomic.I64AtomicRmwXor a) c.in-59.is (λ a. refl) (λ a. refl) (λ a. refl) (λ a. refl) (λ a g. refl) (λ ids. refl) (λ ids. refl)

pub returns-in-60-clause-access : goal.returns-in-60-clause-access
returns-in-60-clause-access c lt = coded_atomic ReadModifyWrite (λ a. atomic.I32AtomicRmw8XorU a) c.in-60.is (λ a. refl) (λ a. refl) (λ a. refl) (λ a. refl) (λ a g. refl) (λ ids. refl) (λ ids. refl)

pub returns-in-61-clause-access : goal.returns-in-61-clause-access
returns-in-61-clause-access c lt = coded_atomic ReadModifyWrite (λ a. atomic.I32AtomicRmw16XorU a) c.in-61.is (λ a. refl) (λ a. refl) (λ a. refl) (λ a. refl) (λ a g. refl) (λ ids. refl) (λ ids. refl)

pub returns-in-62-clause-access : goal.returns-in-62-clause-access
returns-in-62-clause-access c lt = coded_atomic ReadModifyWrite (λ a. atomic.I64AtomicRmw8XorU a) c.in-62.is (λ a. refl) (λ a. refl) (λ a. refl) (λ a. refl) (λ a g. refl) (λ ids. refl) (λ ids. refl)

pub returns-in-63-clause-access : goal.returns-in-63-clause-access
returns-in-63-clause-access c lt = coded_atomic ReadModifyWrite (λ a. atomic.I64AtomicRmw16XorU a) c.in-63.is (λ a. refl) (λ a. refl) (λ a. refl) (λ a. refl) (λ a g. refl) (λ ids. refl) (λ ids. refl)

pub returns-in-64-clause-access : goal.returns-in-64-clause-access
returns-in-64-clause-access c lt = coded_atomic ReadModifyWrite (λ a. atomic.I64AtomicRmw32XorU a) c.in-64.is (λ a. refl) (λ a. refl) (λ a. refl) (λ a. refl) (λ a g. refl) (λ ids. refl) (λ ids. refl)

pub returns-in-65-clause-access : goal.returns-in-65-clause-access
returns-in-65-clause-access c lt = coded_atomic ReadModifyWrite (λ a. atomic.I32AtomicRmwXchg a) c.in-65.is (λ a. refl) (λ a. refl) (λ a. refl) (λ a. refl) (λ a g. refl) (λ ids. refl) (λ ids. refl)

pub returns-in-66-clause-access : goal.returns-in-66-clause-access
returns-in-66-clause-access c lt = coded_atomic ReadModifyWrite (λ a. atomic.I64AtomicRmwXchg a) c.in-66.is (λ a. refl) (λ a. refl) (λ a. refl) (λ a. refl) (λ a g. refl) (λ ids. refl) (λ ids. refl)

pub returns-in-67-clause-access : goal.returns-in-67-clause-access
returns-in-67-clause-access c lt = coded_atomic ReadModifyWrite (λ a. atomic.I32AtomicRmw8XchgU a) c.in-67.is (λ a. refl) (λ a. refl) (λ a. refl) (λ a. refl) (λ a g. refl) (λ ids. refl) (λ ids. refl)

pub returns-in-68-clause-access : goal.returns-in-68-clause-access
returns-in-68-clause-access c lt = coded_atomic ReadModifyWrite (λ a. atomic.I32AtomicRmw16XchgU a) c.in-68.is (λ a. refl) (λ a. refl) (λ a. refl) (λ a. refl) (λ a g. refl) (λ ids. refl) (λ ids. refl)

pub returns-in-69-clause-access : goal.returns-in-69-clause-access
returns-in-69-clause-access c lt = coded_atomic ReadModifyWrite (λ a. atomic.I64AtomicRmw8XchgU a) c.in-69.is (λ a. refl) (λ a. refl) (λ a. refl) (λ a. refl) (λ a g. refl) (λ ids. refl) (λ ids. refl)

pub returns-in-70-clause-access : goal.returns-in-70-clause-access
returns-in-70-clause-access c lt = coded_atomic ReadModifyWrite (λ a. atomic.I64AtomicRmw16XchgU a) c.in-70.is (λ a. refl) (λ a. refl) (λ a. refl) (λ a. refl) (λ a g. refl) (λ ids. refl) (λ ids. refl)

pub returns-in-71-clause-access : goal.returns-in-71-clause-access
returns-in-71-clause-access c lt = coded_atomic ReadModifyWrite (λ a. atomic.I64AtomicRmw32XchgU a) c.in-71.is (λ a. refl) (λ a. refl) (λ a. refl) (λ a. refl) (λ a g. refl) (λ ids. refl) (λ ids. refl)

pub returns-in-72-clause-access : goal.returns-in-72-clause-access
returns-in-72-clause-access c lt = coded_atomic ReadModifyWrite (λ a. atomic.I32AtomicRmwCmpxchg a) c.in-72.is (λ a. refl) (λ a. refl) (λ a. refl) (λ a. refl) (λ a g. refl) (λ ids. refl) (λ ids. refl)

pub returns-in-73-clause-access : goal.returns-in-73-clause-access
returns-in-73-clause-access c lt = coded_atomic ReadModifyWrite (λ a. atomic.I64AtomicRmwCmpxchg a) c.in-73.is (λ a. refl) (λ a. refl) (λ a. refl) (λ a. refl) (λ a g. refl) (λ ids. refl) (λ ids. refl)

pub returns-in-74-clause-access : goal.returns-in-74-clause-access
returns-in-74-clause-access c lt = coded_atomic ReadModifyWrite (λ a. atomic.I32AtomicRmw8CmpxchgU a) c.in-74.is (λ a. refl) (λ a. refl) (λ a. refl) (λ a. refl) (λ a g. refl) (λ ids. refl) (λ ids. refl)

pub returns-in-75-clause-access : goal.returns-in-75-clause-access
returns-in-75-clause-access c lt = coded_atomic ReadModifyWrite (λ a. atomic.I32AtomicRmw16CmpxchgU a) c.in-75.is (λ a. refl) (λ a. refl) (λ a. refl) (λ a. refl) (λ a g. refl) (λ ids. refl) (λ ids. refl)

pub returns-in-76-clause-access : goal.returns-in-76-clause-access
returns-in-76-clause-access c lt = coded_atomic ReadModifyWrite (λ a. atomic.I64AtomicRmw8CmpxchgU a) c.in-76.is (λ a. refl) (λ a. refl) (λ a. refl) (λ a. refl) (λ a g. refl) (λ ids. refl) (λ ids. refl)

pub returns-in-77-clause-access : goal.returns-in-77-clause-access
returns-in-77-clause-access c lt = coded_atomic ReadModifyWrite (λ a. atomic.I64AtomicRmw16CmpxchgU a) c.in-77.is (λ a. refl) (λ a. refl) (λ a. refl) (λ a. refl) (λ a g. refl) (λ ids. refl) (λ ids. refl)

pub returns-in-78-clause-access : goal.returns-in-78-clause-access
returns-in-78-clause-access c lt = coded_atomic ReadModifyWrite (λ a. atomic.I64AtomicRmw32CmpxchgU a) c.in-78.is (λ a. refl) (λ a. refl) (λ a. refl) (λ a. refl) (λ a g. refl) (λ ids. refl) (λ ids. refl)
