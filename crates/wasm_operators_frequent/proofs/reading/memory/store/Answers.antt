use Rattle.std.proofs.Common.{refl, sym, ap}
use Rattle.wasm_operators_immediates.specs.Kinds as kind
use Rattle.wasm_operators_immediates.specs.Immediates.{MemoryArgument}
use Rattle.wasm_operators_enums.specs.Op as op
use Rattle.wasm_operators_enums.specs.declared.memory.MemoryOperator.{MemoryOperator}
use Rattle.wasm_operators_enums.specs.declared.memory.MemoryOperator.TheVariants as memory
use Rattle.wasm_operators_frequent.proofs.ShortReading.{told_with}
use Rattle.wasm_operators_frequent.proofs.Carried.{access_of}
use Rattle.wasm_operators_frequent.proofs.reading.memory.store.Goals as goal
use Rattle.wasm_operators_frequent.proofs.reading.memory.store.Goals.{in-54, in-55, in-56, in-57, in-58, in-59, in-60, in-61, in-62}

pub returns : goal.returns
returns c = elim c.match-code.branch [
  | in-54 w ↦ told_with c.args.features.0 c.args.bytes.now c.args.at c.args.code 54 c.requires w.in-54.is
      (op.Memory (memory.I32Store c.memarg_of-four.result)) refl refl _ (ap (λ (m : MemoryOperator). op.Memory m) (sym w.op-is)) refl refl
      (MemoryArgument kind.Plain 2 c.memarg_of-four.result) c.in-Some.end refl (λ limits. access_of _ _ _ _ 2 c.memarg_of-four.result (rw c.memarg_of-four.ensures at (c.in-Some.ensures 2)))
  | in-55 w ↦ told_with c.args.features.0 c.args.bytes.now c.args.at c.args.code 55 c.requires w.in-55.is
      (op.Memory (memory.I64Store c.memarg_of-eight.result)) refl refl _ (ap (λ (m : MemoryOperator). op.Memory m) (sym w.op-is)) refl refl
      (MemoryArgument kind.Plain 3 c.memarg_of-eight.result) c.in-Some.end refl (λ limits. access_of _ _ _ _ 3 c.memarg_of-eight.result (rw c.memarg_of-eight.ensures at (c.in-Some.ensures 3)))
  | in-56 w ↦ told_with c.args.features.0 c.args.bytes.now c.args.at c.args.code 56 c.requires w.in-56.is
      (op.Memory (memory.F32Store c.memarg_of-four.result)) refl refl _ (ap (λ (m : MemoryOperator). op.Memory m) (sym w.op-is)) refl refl
      (MemoryArgument kind.Plain 2 c.memarg_of-four.result) c.in-Some.end refl (λ limits. access_of _ _ _ _ 2 c.memarg_of-four.result (rw c.memarg_of-four.ensures at (c.in-Some.ensures 2)))
  | in-57 w ↦ told_with c.args.features.0 c.args.bytes.now c.args.at c.args.code 57 c.requires w.in-57.is
      (op.Memory (memory.F64Store c.memarg_of-eight.result)) refl refl _ (ap (λ (m : MemoryOperator). op.Memory m) (sym w.op-is)) refl refl
      (MemoryArgument kind.Plain 3 c.memarg_of-eight.result) c.in-Some.end refl (λ limits. access_of _ _ _ _ 3 c.memarg_of-eight.result (rw c.memarg_of-eight.ensures at (c.in-Some.ensures 3)))
  | in-58 w ↦ told_with c.args.features.0 c.args.bytes.now c.args.at c.args.code 58 c.requires w.in-58.is
      (op.Memory (memory.I32Store8 c.memarg_of-one.result)) refl refl _ (ap (λ (m : MemoryOperator). op.Memory m) (sym w.op-is)) refl refl
      (MemoryArgument kind.Plain 0 c.memarg_of-one.result) c.in-Some.end refl (λ limits. access_of _ _ _ _ 0 c.memarg_of-one.result (rw c.memarg_of-one.ensures at (c.in-Some.ensures 0)))
  | in-59 w ↦ told_with c.args.features.0 c.args.bytes.now c.args.at c.args.code 59 c.requires w.in-59.is
      (op.Memory (memory.I32Store16 c.memarg_of-two.result)) refl refl _ (ap (λ (m : MemoryOperator). op.Memory m) (sym w.op-is)) refl refl
      (MemoryArgument kind.Plain 1 c.memarg_of-two.result) c.in-Some.end refl (λ limits. access_of _ _ _ _ 1 c.memarg_of-two.result (rw c.memarg_of-two.ensures at (c.in-Some.ensures 1)))
  | in-60 w ↦ told_with c.args.features.0 c.args.bytes.now c.args.at c.args.code 60 c.requires w.in-60.is
      (op.Memory (memory.I64Store8 c.memarg_of-one.result)) refl refl _ (ap (λ (m : MemoryOperator). op.Memory m) (sym w.op-is)) refl refl
      (MemoryArgument kind.Plain 0 c.memarg_of-one.result) c.in-Some.end refl (λ limits. access_of _ _ _ _ 0 c.memarg_of-one.result (rw c.memarg_of-one.ensures at (c.in-Some.ensures 0)))
  | in-61 w ↦ told_with c.args.features.0 c.args.bytes.now c.args.at c.args.code 61 c.requires w.in-61.is
      (op.Memory (memory.I64Store16 c.memarg_of-two.result)) refl refl _ (ap (λ (m : MemoryOperator). op.Memory m) (sym w.op-is)) refl refl
      (MemoryArgument kind.Plain 1 c.memarg_of-two.result) c.in-Some.end refl (λ limits. access_of _ _ _ _ 1 c.memarg_of-two.result (rw c.memarg_of-two.ensures at (c.in-Some.ensures 1)))
  | in-62 w ↦ told_with c.args.features.0 c.args.bytes.now c.args.at c.args.code 62 c.requires w.in-62.is
      (op.Memory (memory.I64Store32 c.memarg_of-four.result)) refl refl _ (ap (λ (m : MemoryOperator). op.Memory m) (sym w.op-is)) refl refl
      (MemoryArgument kind.Plain 2 c.memarg_of-four.result) c.in-Some.end refl (λ limits. access_of _ _ _ _ 2 c.memarg_of-four.result (rw c.memarg_of-four.ensures at (c.in-Some.ensures 2)))
]
