use Rattle.std.proofs.Common.{refl}
use Rattle.wasm_operators_immediates.specs.Kinds as kind
use Rattle.wasm_operators_immediates.specs.Immediates.{Index}
use Rattle.wasm_operators_enums.specs.Op as op
use Rattle.wasm_operators_enums.specs.declared.memory.MemoryOperator.TheVariants as memory
use Rattle.wasm_operators_frequent.proofs.ShortReading.{told_with}
use Rattle.wasm_operators_frequent.proofs.Carried.{index_of}
use Rattle.wasm_operators_frequent.proofs.memory.short_local_tee.Goals as goal

pub returns-clause-told : goal.returns-clause-told
returns-clause-told g c = told_with c.args.features.0 c.args.bytes.now c.args.at 34 34 c.requires refl
    (op.Memory (memory.LocalTee c.in-Some.index)) refl refl _ c.visit_local_tee.ensures refl refl (Index kind.Locals c.in-Some.index) c.in-Some.end refl
    (λ limits. index_of _ _ _ _ kind.Locals c.in-Some.index c.in-Some.ensures.found)
