use Rattle.std.proofs.Common.{refl}
use Rattle.wasm_operators_immediates.specs.Kinds as kind
use Rattle.wasm_operators_immediates.specs.Immediates.{Index}
use Rattle.wasm_operators_enums.specs.Op as op
use Rattle.wasm_operators_enums.specs.declared.bulk.BulkOperator.TheVariants as bulk
use Rattle.wasm_operators_enums.specs.declared.memory.MemoryOperator.TheVariants as memory
use Rattle.wasm_operators_frequent.proofs.ShortReading.{told_with}
use Rattle.wasm_operators_frequent.proofs.Carried.{index_of}
use Rattle.wasm_operators_bodies.proofs.short.index_at.Goals as goal

pub returns-in-35 : goal.returns-in-35
returns-in-35 c features =
    told_with features c.args.bytes.now 0 c.args.code 35 c.requires c.in-35.is
    (op.Memory (memory.GlobalGet c.in-Some.index)) refl refl _ refl refl refl
    (Index kind.Globals c.in-Some.index) c.in-Some.end refl (λ limits. index_of _ _ _ _ kind.Globals c.in-Some.index c.in-Some.ensures.found)

pub returns-in-210 : goal.returns-in-210
returns-in-210 c features =
    told_with features c.args.bytes.now 0 c.args.code 210 c.requires c.in-210.is
    (op.Bulk (bulk.RefFunc c.in-Some.index)) refl refl _ refl refl refl
    (Index kind.Functions c.in-Some.index) c.in-Some.end refl (λ limits. index_of _ _ _ _ kind.Functions c.in-Some.index c.in-Some.ensures.found)
