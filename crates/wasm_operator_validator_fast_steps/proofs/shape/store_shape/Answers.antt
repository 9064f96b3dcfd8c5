-- Each store has its shape.
use Rattle.std.proofs.Common.{refl}
use Rattle.wasm_operators_enums.specs.declared.memory.MemoryOperator.TheVariants as memory
use Rattle.wasm_operator_validator_fast_steps.proofs.Coded.{coded_access}
use Rattle.wasm_operator_validator_fast_steps.proofs.shape.store_shape.Goals as goal

pub returns-in-54-clause-access : goal.returns-in-54-clause-access
returns-in-54-clause-access c lt = coded_access (λ a. memory.I32Store a) c.in-54.is refl (λ a. refl) (λ a. refl) (λ a. refl) (λ a. refl) (λ a. refl) (λ a set. refl) (λ a g. refl) (λ a g set popped pushed r. r) (λ ids. refl)

pub returns-in-55-clause-access : goal.returns-in-55-clause-access
returns-in-55-clause-access c lt = coded_access (λ a. memory.I64Store a) c.in-55.is refl (λ a. refl) (λ a. refl) (λ a. refl) (λ a. refl) (λ a. refl) (λ a set. refl) (λ a g. refl) (λ a g set popped pushed r. r) (λ ids. refl)

pub returns-in-56-clause-access : goal.returns-in-56-clause-access
returns-in-56-clause-access c lt = coded_access (λ a. memory.F32Store a) c.in-56.is refl (λ a. refl) (λ a. refl) (λ a. refl) (λ a. refl) (λ a. refl) (λ a set. refl) (λ a g. refl) (λ a g set popped pushed r. r) (λ ids. refl)

pub returns-in-57-clause-access : goal.returns-in-57-clause-access
returns-in-57-clause-access c lt = coded_access (λ a. memory.F64Store a) c.in-57.is refl (λ a. refl) (λ a. refl) (λ a. refl) (λ a. refl) (λ a. refl) (λ a set. refl) (λ a g. refl) (λ a g set popped pushed r. r) (λ ids. refl)

pub returns-in-58-clause-access : goal.returns-in-58-clause-access
returns-in-58-clause-access c lt = coded_access (λ a. memory.I32Store8 a) c.in-58.is refl (λ a. refl) (λ a. refl) (λ a. refl) (λ a. refl) (λ a. refl) (λ a set. refl) (λ a g. refl) (λ a g set popped pushed r. r) (λ ids. refl)

pub returns-in-59-clause-access : goal.returns-in-59-clause-access
returns-in-59-clause-access c lt = coded_access (λ a. memory.I32Store16 a) c.in-59.is refl (λ a. refl) (λ a. refl) (λ a. refl) (λ a. refl) (λ a. refl) (λ a set. refl) (λ a g. refl) (λ a g set popped pushed r. r) (λ ids. refl)

pub returns-in-60-clause-access : goal.returns-in-60-clause-access
returns-in-60-clause-access c lt = coded_access (λ a. memory.I64Store8 a) c.in-60.is refl (λ a. refl) (λ a. refl) (λ a. refl) (λ a. refl) (λ a. refl) (λ a set. refl) (λ a g. refl) (λ a g set popped pushed r. r) (λ ids. refl)

pub returns-in-61-clause-access : goal.returns-in-61-clause-access
returns-in-61-clause-access c lt = coded_access (λ a. memory.I64Store16 a) c.in-61.is refl (λ a. refl) (λ a. refl) (λ a. refl) (λ a. refl) (λ a. refl) (λ a set. refl) (λ a g. refl) (λ a g set popped pushed r. r) (λ ids. refl)

pub returns-in-62-clause-access : goal.returns-in-62-clause-access
returns-in-62-clause-access c lt = coded_access (λ a. memory.I64Store32 a) c.in-62.is refl (λ a. refl) (λ a. refl) (λ a. refl) (λ a. refl) (λ a. refl) (λ a set. refl) (λ a g. refl) (λ a g set popped pushed r. r) (λ ids. refl)
