use Rattle.std.proofs.Common.{refl}
use Rattle.wasm_operators_immediates.specs.Kinds as kind
use Rattle.wasm_operators_immediates.specs.Immediates.{Index}
use Rattle.wasm_operators_enums.specs.Op as op
use Rattle.wasm_operators_enums.specs.declared.memory.MemoryOperator.TheVariants as memory
use Rattle.wasm_operators_frequent.proofs.ShortReading.{told_with}
use Rattle.wasm_operators_frequent.proofs.Carried.{index_of}
use Rattle.wasm_operators_frequent.proofs.memory.short_global.Goals as goal

pub returns-in-35-clause-told : goal.returns-in-35-clause-told
returns-in-35-clause-told g c = told_with c.args.features.0 c.args.bytes.now c.args.at c.args.code 35 c.requires c.in-35.is
    (op.Memory (memory.GlobalGet c.in-Some.index)) refl refl _ c.visit_global_get.ensures refl refl (Index kind.Globals c.in-Some.index) c.in-Some.end refl
    (λ limits. index_of _ _ _ _ kind.Globals c.in-Some.index c.in-Some.ensures.found)

pub returns-in-36-clause-told : goal.returns-in-36-clause-told
returns-in-36-clause-told g c = told_with c.args.features.0 c.args.bytes.now c.args.at c.args.code 36 c.requires c.in-36.is
    (op.Memory (memory.GlobalSet c.in-Some.index)) refl refl _ c.visit_global_set.ensures refl refl (Index kind.Globals c.in-Some.index) c.in-Some.end refl
    (λ limits. index_of _ _ _ _ kind.Globals c.in-Some.index c.in-Some.ensures.found)
