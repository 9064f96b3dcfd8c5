-- Each load has its shape.
use Rattle.std.proofs.Common.{refl}
use Rattle.wasm_operators_enums.specs.declared.memory.MemoryOperator.TheVariants as memory
use Rattle.wasm_operator_validator_fast_steps.proofs.Coded.{coded_access}
use Rattle.wasm_operator_validator_fast_steps.proofs.shape.load_shape.Goals as goal

pub returns-in-40-clause-access : goal.returns-in-40-clause-access
returns-in-40-clause-access c lt = coded_access (λ a. memory.I32Load a) c.in-40.is refl (λ a. refl) (λ a. refl) (λ a. refl) (λ a. refl) (λ a. refl) (λ a set. refl) (λ a g. refl) (λ a g set popped pushed r. r) (λ ids. refl)

pub returns-in-41-clause-access : goal.returns-in-41-clause-access
returns-in-41-clause-access c lt = coded_access (λ a. memory.I64Load a) c.in-41.is refl (λ a. refl) (λ a. refl) (λ a. refl) (λ a. refl) (λ a. refl) (λ a set. refl) (λ a g. refl) (λ a g set popped pushed r. r) (λ ids. refl)

pub returns-in-42-clause-access : goal.returns-in-42-clause-access
returns-in-42-clause-access c lt = coded_access (λ a. memory.F32Load a) c.in-42.is refl (λ a. refl) (λ a. refl) (λ a. refl) (λ a. refl) (λ a. refl) (λ a set. refl) (λ a g. refl) (λ a g set popped pushed r. r) (λ ids. refl)

pub returns-in-43-clause-access : goal.returns-in-43-clause-access
returns-in-43-clause-access c lt = coded_access (λ a. memory.F64Load a) c.in-43.is refl (λ a. refl) (λ a. refl) (λ a. refl) (λ a. refl) (λ a. refl) (λ a set. refl) (λ a g. refl) (λ a g set popped pushed r. r) (λ ids. refl)

pub returns-in-44-clause-access : goal.returns-in-44-clause-access
returns-in-44-clause-access c lt = coded_access (λ a. memory.I32Load8S a) c.in-44.is refl (λ a. refl) (λ a. refl) (λ a. refl) (λ a. refl) (λ a. refl) (λ a set. refl) (λ a g. refl) (λ a g set popped pushed r. r) (λ ids. refl)

pub returns-in-45-clause-access : goal.returns-in-45-clause-access
returns-in-45-clause-access c lt = coded_access (λ a. memory.I32Load8U a) c.in-45.is refl (λ a. refl) (λ a. refl) (λ a. refl) (λ a. refl) (λ a. refl) (λ a set. refl) (λ a g. refl) (λ a g set popped pushed r. r) (λ ids. refl)

pub returns-in-46-clause-access : goal.returns-in-46-clause-access
returns-in-46-clause-access c lt = coded_access (λ a. memory.I32Load16S a) c.in-46.is refl (λ a. refl) (λ a. refl) (λ a. refl) (λ a. refl) (λ a. refl) (λ a set. refl) (λ a g. refl) (λ a g set popped pushed r. r) (λ ids. refl)

pub returns-in-47-clause-access : goal.returns-in-47-clause-access
returns-in-47-clause-access c lt = coded_access (λ a. memory.I32Load16U a) c.in-47.is refl (λ a. refl) (λ a. refl) (λ a. refl) (λ a. refl) (λ a. refl) (λ a set. refl) (λ a g. refl) (λ a g set popped pushed r. r) (λ ids. refl)

pub returns-in-48-clause-access : goal.returns-in-48-clause-access
returns-in-48-clause-access c lt = coded_access (λ a. memory.I64Load8S a) c.in-48.is refl (λ a. refl) (λ a. refl) (λ a. refl) (λ a. refl) (λ a. refl) (λ a set. refl) (λ a g. refl) (λ a g set popped pushed r. r) (λ ids. refl)

pub returns-in-49-clause-access : goal.returns-in-49-clause-access
returns-in-49-clause-access c lt = coded_access (λ a. memory.I64Load8U a) c.in-49.is refl (λ a. refl) (λ a. refl) (λ a. refl) (λ a. refl) (λ a. refl) (λ a set. refl) (λ a g. refl) (λ a g set popped pushed r. r) (λ ids. refl)

pub returns-in-50-clause-access : goal.returns-in-50-clause-access
returns-in-50-clause-access c lt = coded_access (λ a. memory.I64Load16S a) c.in-50.is refl (λ a. refl) (λ a. refl) (λ a. refl) (λ a. refl) (λ a. refl) (λ a set. refl) (λ a g. refl) (λ a g set popped pushed r. r) (λ ids. refl)

pub returns-in-51-clause-access : goal.returns-in-51-clause-access
returns-in-51-clause-access c lt = coded_access (λ a. memory.I64Load16U a) c.in-51.is refl (λ a. refl) (λ a. refl) (λ a. refl) (λ a. refl) (λ a. refl) (λ a set. refl) (λ a g. refl) (λ a g set popped pushed r. r) (λ ids. refl)

pub returns-in-52-clause-access : goal.returns-in-52-clause-access
returns-in-52-clause-access c lt = coded_access (λ a. memory.I64Load32S a) c.in-52.is refl (λ a. refl) (λ a. refl) (λ a. refl) (λ a. refl) (λ a. refl) (λ a set. refl) (λ a g. refl) (λ a g set popped pushed r. r) (λ ids. refl)

pub returns-in-53-clause-access : goal.returns-in-53-clause-access
returns-in-53-clause-access c lt = coded_access (λ a. memory.I64Load32U a) c.in-53.is refl (λ a. refl) (λ a. refl) (λ a. refl) (λ a. refl) (λ a. refl) (λ a set. refl) (λ a g. refl) (λ a g set popped pushed r. r) (λ ids. refl)
