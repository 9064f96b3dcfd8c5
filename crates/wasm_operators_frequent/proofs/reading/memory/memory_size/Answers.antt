use Rattle.std.proofs.Common.{refl}
use Rattle.wasm_operators_immediates.specs.Kinds as kind
use Rattle.wasm_operators_immediates.specs.Immediates.{IndexOrZero}
use Rattle.wasm_operators_enums.specs.Op as op
use Rattle.wasm_operators_enums.specs.declared.memory.MemoryOperator.TheVariants as memory
use Rattle.wasm_operators_frequent.proofs.ShortReading.{told_with}
use Rattle.wasm_operators_frequent.proofs.Carried.{zero_of}
use Rattle.wasm_operators_frequent.proofs.reading.memory.memory_size.Goals as goal

pub returns-in-63 : goal.returns-in-63
returns-in-63 c = told_with c.args.features.0 c.args.bytes.now c.args.at c.args.code 63 c.requires c.in-63.is
    (op.Memory (memory.MemorySize c.in-Some.mem)) refl refl _ refl refl refl
    (IndexOrZero kind.Memories c.in-Some.mem) c.in-Some.end refl (λ limits. zero_of _ _ _ _ kind.Memories c.in-Some.mem (c.in-Some.ensures.1 _))

pub returns-in-64 : goal.returns-in-64
returns-in-64 c = told_with c.args.features.0 c.args.bytes.now c.args.at c.args.code 64 c.requires c.in-64.is
    (op.Memory (memory.MemoryGrow c.in-Some.mem)) refl refl _ refl refl refl
    (IndexOrZero kind.Memories c.in-Some.mem) c.in-Some.end refl (λ limits. zero_of _ _ _ _ kind.Memories c.in-Some.mem (c.in-Some.ensures.1 _))
