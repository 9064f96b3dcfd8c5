use Rattle.std.proofs.Common.{refl}
use Rattle.wasm_operators_immediates.specs.Kinds as kind
use Rattle.wasm_operators_immediates.specs.Immediates.{Index}
use Rattle.wasm_operators_enums.specs.Op as op
use Rattle.wasm_operators_enums.specs.declared.memory.MemoryOperator.TheVariants as memory
use Rattle.wasm_operators_frequent.proofs.ShortReading.{told_with}
use Rattle.wasm_operators_frequent.proofs.Carried.{index_of}
use Rattle.wasm_operators_frequent.proofs.reading.memory.variable.Goals as goal

pub returns-in-32 : goal.returns-in-32
returns-in-32 c = told_with c.args.features.0 c.args.bytes.now c.args.at c.args.code 32 c.requires c.in-32.is
    (op.Memory (memory.LocalGet c.in-Some.index)) refl refl _ refl refl refl (Index kind.Locals c.in-Some.index) c.in-Some.end refl
    (λ limits. index_of _ _ _ _ kind.Locals c.in-Some.index c.in-Some.ensures.found)

pub returns-in-33 : goal.returns-in-33
returns-in-33 c = told_with c.args.features.0 c.args.bytes.now c.args.at c.args.code 33 c.requires c.in-33.is
    (op.Memory (memory.LocalSet c.in-Some.index)) refl refl _ refl refl refl (Index kind.Locals c.in-Some.index) c.in-Some.end refl
    (λ limits. index_of _ _ _ _ kind.Locals c.in-Some.index c.in-Some.ensures.found)

pub returns-in-34 : goal.returns-in-34
returns-in-34 c = told_with c.args.features.0 c.args.bytes.now c.args.at c.args.code 34 c.requires c.in-34.is
    (op.Memory (memory.LocalTee c.in-Some.index)) refl refl _ refl refl refl (Index kind.Locals c.in-Some.index) c.in-Some.end refl
    (λ limits. index_of _ _ _ _ kind.Locals c.in-Some.index c.in-Some.ensures.found)

pub returns-in-35 : goal.returns-in-35
returns-in-35 c = told_with c.args.features.0 c.args.bytes.now c.args.at c.args.code 35 c.requires c.in-35.is
    (op.Memory (memory.GlobalGet c.in-Some.index)) refl refl _ refl refl refl (Index kind.Globals c.in-Some.index) c.in-Some.end refl
    (λ limits. index_of _ _ _ _ kind.Globals c.in-Some.index c.in-Some.ensures.found)

pub returns-in-36 : goal.returns-in-36
returns-in-36 c = told_with c.args.features.0 c.args.bytes.now c.args.at c.args.code 36 c.requires c.in-36.is
    (op.Memory (memory.GlobalSet c.in-Some.index)) refl refl _ refl refl refl (Index kind.Globals c.in-Some.index) c.in-Some.end refl
    (λ limits. index_of _ _ _ _ kind.Globals c.in-Some.index c.in-Some.ensures.found)
