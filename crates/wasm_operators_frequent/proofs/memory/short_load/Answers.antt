use Rattle.std.proofs.Common.{refl}
use Rattle.wasm_operators_immediates.specs.Kinds as kind
use Rattle.wasm_operators_immediates.specs.Immediates.{MemoryArgument}
use Rattle.wasm_operators_enums.specs.Op as op
use Rattle.wasm_operators_enums.specs.declared.memory.MemoryOperator.TheVariants as memory
use Rattle.wasm_operators_frequent.proofs.ShortReading.{told_with}
use Rattle.wasm_operators_frequent.proofs.Carried.{access_of}
use Rattle.wasm_operators_frequent.proofs.memory.short_load.Goals as goal

pub returns-in-40-clause-told : goal.returns-in-40-clause-told
returns-in-40-clause-told g c = told_with c.args.features.0 c.args.bytes.now c.args.at c.args.code 40 c.requires c.in-40.is
    (op.Memory (memory.I32Load c.memarg_of-four.result)) refl refl _ c.visit_i32_load.ensures refl refl
    (MemoryArgument kind.Plain 2 c.memarg_of-four.result) c.in-Some.end refl (λ limits. access_of _ _ _ _ 2 c.memarg_of-four.result (rw c.memarg_of-four.ensures at (c.in-Some.ensures 2)))

pub returns-in-41-clause-told : goal.returns-in-41-clause-told
returns-in-41-clause-told g c = told_with c.args.features.0 c.args.bytes.now c.args.at c.args.code 41 c.requires c.in-41.is
    (op.Memory (memory.I64Load c.memarg_of-eight.result)) refl refl _ c.visit_i64_load.ensures refl refl
    (MemoryArgument kind.Plain 3 c.memarg_of-eight.result) c.in-Some.end refl (λ limits. access_of _ _ _ _ 3 c.memarg_of-eight.result (rw c.memarg_of-eight.ensures at (c.in-Some.ensures 3)))

pub returns-in-42-clause-told : goal.returns-in-42-clause-told
returns-in-42-clause-told g c = told_with c.args.features.0 c.args.bytes.now c.args.at c.args.code 42 c.requires c.in-42.is
    (op.Memory (memory.F32Load c.memarg_of-four.result)) refl refl _ c.visit_f32_load.ensures refl refl
    (MemoryArgument kind.Plain 2 c.memarg_of-four.result) c.in-Some.end refl (λ limits. access_of _ _ _ _ 2 c.memarg_of-four.result (rw c.memarg_of-four.ensures at (c.in-Some.ensures 2)))

pub returns-in-43-clause-told : goal.returns-in-43-clause-told
returns-in-43-clause-told g c = told_with c.args.features.0 c.args.bytes.now c.args.at c.args.code 43 c.requires c.in-43.is
    (op.Memory (memory.F64Load c.memarg_of-eight.result)) refl refl _ c.visit_f64_load.ensures refl refl
    (MemoryArgument kind.Plain 3 c.memarg_of-eight.result) c.in-Some.end refl (λ limits. access_of _ _ _ _ 3 c.memarg_of-eight.result (rw c.memarg_of-eight.ensures at (c.in-Some.ensures 3)))

pub returns-in-44-clause-told : goal.returns-in-44-clause-told
returns-in-44-clause-told g c = told_with c.args.features.0 c.args.bytes.now c.args.at c.args.code 44 c.requires c.in-44.is
    (op.Memory (memory.I32Load8S c.memarg_of-one.result)) refl refl _ c.visit_i32_load8_s.ensures refl refl
    (MemoryArgument kind.Plain 0 c.memarg_of-one.result) c.in-Some.end refl (λ limits. access_of _ _ _ _ 0 c.memarg_of-one.result (rw c.memarg_of-one.ensures at (c.in-Some.ensures 0)))

pub returns-in-45-clause-told : goal.returns-in-45-clause-told
returns-in-45-clause-told g c = told_with c.args.features.0 c.args.bytes.now c.args.at c.args.code 45 c.requires c.in-45.is
    (op.Memory (memory.I32Load8U c.memarg_of-one.result)) refl refl _ c.visit_i32_load8_u.ensures refl refl
    (MemoryArgument kind.Plain 0 c.memarg_of-one.result) c.in-Some.end refl (λ limits. access_of _ _ _ _ 0 c.memarg_of-one.result (rw c.memarg_of-one.ensures at (c.in-Some.ensures 0)))

pub returns-in-46-clause-told : goal.returns-in-46-clause-told
returns-in-46-clause-told g c = told_with c.args.features.0 c.args.bytes.now c.args.at c.args.code 46 c.requires c.in-46.is
    (op.Memory (memory.I32Load16S c.memarg_of-two.result)) refl refl _ c.visit_i32_load16_s.ensures refl refl
    (MemoryArgument kind.Plain 1 c.memarg_of-two.result) c.in-Some.end refl (λ limits. access_of _ _ _ _ 1 c.memarg_of-two.result (rw c.memarg_of-two.ensures at (c.in-Some.ensures 1)))

pub returns-in-47-clause-told : goal.returns-in-47-clause-told
returns-in-47-clause-told g c = told_with c.args.features.0 c.args.bytes.now c.args.at c.args.code 47 c.requires c.in-47.is
    (op.Memory (memory.I32Load16U c.memarg_of-two.result)) refl refl _ c.visit_i32_load16_u.ensures refl refl
    (MemoryArgument kind.Plain 1 c.memarg_of-two.result) c.in-Some.end refl (λ limits. access_of _ _ _ _ 1 c.memarg_of-two.result (rw c.memarg_of-two.ensures at (c.in-Some.ensures 1)))

pub returns-in-48-clause-told : goal.returns-in-48-clause-told
returns-in-48-clause-told g c = told_with c.args.features.0 c.args.bytes.now c.args.at c.args.code 48 c.requires c.in-48.is
    (op.Memory (memory.I64Load8S c.memarg_of-one.result)) refl refl _ c.visit_i64_load8_s.ensures refl refl
    (MemoryArgument kind.Plain 0 c.memarg_of-one.result) c.in-Some.end refl (λ limits. access_of _ _ _ _ 0 c.memarg_of-one.result (rw c.memarg_of-one.ensures at (c.in-Some.ensures 0)))

pub returns-in-49-clause-told : goal.returns-in-49-clause-told
returns-in-49-clause-told g c = told_with c.args.features.0 c.args.bytes.now c.args.at c.args.code 49 c.requires c.in-49.is
    (op.Memory (memory.I64Load8U c.memarg_of-one.result)) refl refl _ c.visit_i64_load8_u.ensures refl refl
    (MemoryArgument kind.Plain 0 c.memarg_of-one.result) c.in-Some.end refl (λ limits. access_of _ _ _ _ 0 c.memarg_of-one.result (rw c.memarg_of-one.ensures at (c.in-Some.ensures 0)))

pub returns-in-50-clause-told : goal.returns-in-50-clause-told
returns-in-50-clause-told g c = told_with c.args.features.0 c.args.bytes.now c.args.at c.args.code 50 c.requires c.in-50.is
    (op.Memory (memory.I64Load16S c.memarg_of-two.result)) refl refl _ c.visit_i64_load16_s.ensures refl refl
    (MemoryArgument kind.Plain 1 c.memarg_of-two.result) c.in-Some.end refl (λ limits. access_of _ _ _ _ 1 c.memarg_of-two.result (rw c.memarg_of-two.ensures at (c.in-Some.ensures 1)))

pub returns-in-51-clause-told : goal.returns-in-51-clause-told
returns-in-51-clause-told g c = told_with c.args.features.0 c.args.bytes.now c.args.at c.args.code 51 c.requires c.in-51.is
    (op.Memory (memory.I64Load16U c.memarg_of-two.result)) refl refl _ c.visit_i64_load16_u.ensures refl refl
    (MemoryArgument kind.Plain 1 c.memarg_of-two.result) c.in-Some.end refl (λ limits. access_of _ _ _ _ 1 c.memarg_of-two.result (rw c.memarg_of-two.ensures at (c.in-Some.ensures 1)))

pub returns-in-52-clause-told : goal.returns-in-52-clause-told
returns-in-52-clause-told g c = told_with c.args.features.0 c.args.bytes.now c.args.at c.args.code 52 c.requires c.in-52.is
    (op.Memory (memory.I64Load32S c.memarg_of-four.result)) refl refl _ c.visit_i64_load32_s.ensures refl refl
    (MemoryArgument kind.Plain 2 c.memarg_of-four.result) c.in-Some.end refl (λ limits. access_of _ _ _ _ 2 c.memarg_of-four.result (rw c.memarg_of-four.ensures at (c.in-Some.ensures 2)))

pub returns-in-53-clause-told : goal.returns-in-53-clause-told
returns-in-53-clause-told g c = told_with c.args.features.0 c.args.bytes.now c.args.at c.args.code 53 c.requires c.in-53.is
    (op.Memory (memory.I64Load32U c.memarg_of-four.result)) refl refl _ c.visit_i64_load32_u.ensures refl refl
    (MemoryArgument kind.Plain 2 c.memarg_of-four.result) c.in-Some.end refl (λ limits. access_of _ _ _ _ 2 c.memarg_of-four.result (rw c.memarg_of-four.ensures at (c.in-Some.ensures 2)))
