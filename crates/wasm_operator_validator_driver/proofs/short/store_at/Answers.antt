use Rattle.std.proofs.Common.{refl}
use Rattle.wasm_operators_immediates.specs.Kinds as kind
use Rattle.wasm_operators_immediates.specs.Immediates.{MemoryArgument}
use Rattle.wasm_operators_enums.specs.Op as op
use Rattle.wasm_operators_enums.specs.declared.memory.MemoryOperator.TheVariants as memory
use Rattle.wasm_operators_frequent.proofs.ShortReading.{told_with}
use Rattle.wasm_operators_frequent.proofs.Carried.{access_of}
use Rattle.wasm_operator_validator_driver.proofs.short.store_at.Goals as goal

pub returns-in-54-clause-told : goal.returns-in-54-clause-told
returns-in-54-clause-told g c = told_with c.args.features.0 c.args.bytes.now c.args.at c.args.code 54 c.requires c.in-54.is
    (op.Memory (memory.I32Store c.memarg_of-four.result)) refl refl _ (c.store.ensures.tells, c.store.ensures.lent, c.store.ensures.resources) refl refl
    (MemoryArgument kind.Plain 2 c.memarg_of-four.result) c.in-Some.end refl (λ limits. access_of _ _ _ _ 2 c.memarg_of-four.result (rw c.memarg_of-four.ensures at (c.in-Some.ensures 2)))

pub returns-in-55-clause-told : goal.returns-in-55-clause-told
returns-in-55-clause-told g c = told_with c.args.features.0 c.args.bytes.now c.args.at c.args.code 55 c.requires c.in-55.is
    (op.Memory (memory.I64Store c.memarg_of-eight.result)) refl refl _ (c.store-in-55.ensures.tells, c.store-in-55.ensures.lent, c.store-in-55.ensures.resources) refl refl
    (MemoryArgument kind.Plain 3 c.memarg_of-eight.result) c.in-Some.end refl (λ limits. access_of _ _ _ _ 3 c.memarg_of-eight.result (rw c.memarg_of-eight.ensures at (c.in-Some.ensures 3)))

pub returns-in-56-clause-told : goal.returns-in-56-clause-told
returns-in-56-clause-told g c = told_with c.args.features.0 c.args.bytes.now c.args.at c.args.code 56 c.requires c.in-56.is
    (op.Memory (memory.F32Store c.memarg_of-four.result)) refl refl _ (c.store-in-56.ensures.tells, c.store-in-56.ensures.lent, c.store-in-56.ensures.resources) refl refl
    (MemoryArgument kind.Plain 2 c.memarg_of-four.result) c.in-Some.end refl (λ limits. access_of _ _ _ _ 2 c.memarg_of-four.result (rw c.memarg_of-four.ensures at (c.in-Some.ensures 2)))

pub returns-in-57-clause-told : goal.returns-in-57-clause-told
returns-in-57-clause-told g c = told_with c.args.features.0 c.args.bytes.now c.args.at c.args.code 57 c.requires c.in-57.is
    (op.Memory (memory.F64Store c.memarg_of-eight.result)) refl refl _ (c.store-in-57.ensures.tells, c.store-in-57.ensures.lent, c.store-in-57.ensures.resources) refl refl
    (MemoryArgument kind.Plain 3 c.memarg_of-eight.result) c.in-Some.end refl (λ limits. access_of _ _ _ _ 3 c.memarg_of-eight.result (rw c.memarg_of-eight.ensures at (c.in-Some.ensures 3)))

pub returns-in-58-clause-told : goal.returns-in-58-clause-told
returns-in-58-clause-told g c = told_with c.args.features.0 c.args.bytes.now c.args.at c.args.code 58 c.requires c.in-58.is
    (op.Memory (memory.I32Store8 c.memarg_of-one.result)) refl refl _ (c.store-in-58.ensures.tells, c.store-in-58.ensures.lent, c.store-in-58.ensures.resources) refl refl
    (MemoryArgument kind.Plain 0 c.memarg_of-one.result) c.in-Some.end refl (λ limits. access_of _ _ _ _ 0 c.memarg_of-one.result (rw c.memarg_of-one.ensures at (c.in-Some.ensures 0)))

pub returns-in-59-clause-told : goal.returns-in-59-clause-told
returns-in-59-clause-told g c = told_with c.args.features.0 c.args.bytes.now c.args.at c.args.code 59 c.requires c.in-59.is
    (op.Memory (memory.I32Store16 c.memarg_of-two.result)) refl refl _ (c.store-in-59.ensures.tells, c.store-in-59.ensures.lent, c.store-in-59.ensures.resources) refl refl
    (MemoryArgument kind.Plain 1 c.memarg_of-two.result) c.in-Some.end refl (λ limits. access_of _ _ _ _ 1 c.memarg_of-two.result (rw c.memarg_of-two.ensures at (c.in-Some.ensures 1)))

pub returns-in-60-clause-told : goal.returns-in-60-clause-told
returns-in-60-clause-told g c = told_with c.args.features.0 c.args.bytes.now c.args.at c.args.code 60 c.requires c.in-60.is
    (op.Memory (memory.I64Store8 c.memarg_of-one.result)) refl refl _ (c.store-in-60.ensures.tells, c.store-in-60.ensures.lent, c.store-in-60.ensures.resources) refl refl
    (MemoryArgument kind.Plain 0 c.memarg_of-one.result) c.in-Some.end refl (λ limits. access_of _ _ _ _ 0 c.memarg_of-one.result (rw c.memarg_of-one.ensures at (c.in-Some.ensures 0)))

pub returns-in-61-clause-told : goal.returns-in-61-clause-told
returns-in-61-clause-told g c = told_with c.args.features.0 c.args.bytes.now c.args.at c.args.code 61 c.requires c.in-61.is
    (op.Memory (memory.I64Store16 c.memarg_of-two.result)) refl refl _ (c.store-in-61.ensures.tells, c.store-in-61.ensures.lent, c.store-in-61.ensures.resources) refl refl
    (MemoryArgument kind.Plain 1 c.memarg_of-two.result) c.in-Some.end refl (λ limits. access_of _ _ _ _ 1 c.memarg_of-two.result (rw c.memarg_of-two.ensures at (c.in-Some.ensures 1)))

pub returns-in-62-clause-told : goal.returns-in-62-clause-told
returns-in-62-clause-told g c = told_with c.args.features.0 c.args.bytes.now c.args.at c.args.code 62 c.requires c.in-62.is
    (op.Memory (memory.I64Store32 c.memarg_of-four.result)) refl refl _ (c.store-in-62.ensures.tells, c.store-in-62.ensures.lent, c.store-in-62.ensures.resources) refl refl
    (MemoryArgument kind.Plain 2 c.memarg_of-four.result) c.in-Some.end refl (λ limits. access_of _ _ _ _ 2 c.memarg_of-four.result (rw c.memarg_of-four.ensures at (c.in-Some.ensures 2)))
