use Rattle.std.proofs.Common.{refl, sym, ap}
use Rattle.wasm_operators_immediates.specs.Kinds as kind
use Rattle.wasm_operators_immediates.specs.Immediates.{MemoryArgument}
use Rattle.wasm_operators_enums.specs.Op as op
use Rattle.wasm_operators_enums.specs.declared.memory.MemoryOperator.{MemoryOperator}
use Rattle.wasm_operators_enums.specs.declared.memory.MemoryOperator.TheVariants as memory
use Rattle.wasm_operators_frequent.proofs.ShortReading.{told_with}
use Rattle.wasm_operators_frequent.proofs.Carried.{access_of}
use Rattle.wasm_operators_frequent.proofs.reading.memory.load.Goals as goal
use Rattle.wasm_operators_frequent.proofs.reading.memory.load.Goals.{in-40, in-41, in-42, in-43, in-44, in-45, in-46, in-47, in-48, in-49, in-50, in-51, in-52, in-53}

pub returns : goal.returns
returns c = elim c.match-code.branch [
  | in-40 w ↦ told_with c.args.features.0 c.args.bytes.now c.args.at c.args.code 40 c.requires w.in-40.is
      (op.Memory (memory.I32Load c.memarg_of-four.result)) refl refl _ (ap (λ (m : MemoryOperator). op.Memory m) (sym w.op-is)) refl refl
      (MemoryArgument kind.Plain 2 c.memarg_of-four.result) c.in-Some.end refl (λ limits. access_of _ _ _ _ 2 c.memarg_of-four.result (rw c.memarg_of-four.ensures at (c.in-Some.ensures 2)))
  | in-41 w ↦ told_with c.args.features.0 c.args.bytes.now c.args.at c.args.code 41 c.requires w.in-41.is
      (op.Memory (memory.I64Load c.memarg_of-eight.result)) refl refl _ (ap (λ (m : MemoryOperator). op.Memory m) (sym w.op-is)) refl refl
      (MemoryArgument kind.Plain 3 c.memarg_of-eight.result) c.in-Some.end refl (λ limits. access_of _ _ _ _ 3 c.memarg_of-eight.result (rw c.memarg_of-eight.ensures at (c.in-Some.ensures 3)))
  | in-42 w ↦ told_with c.args.features.0 c.args.bytes.now c.args.at c.args.code 42 c.requires w.in-42.is
      (op.Memory (memory.F32Load c.memarg_of-four.result)) refl refl _ (ap (λ (m : MemoryOperator). op.Memory m) (sym w.op-is)) refl refl
      (MemoryArgument kind.Plain 2 c.memarg_of-four.result) c.in-Some.end refl (λ limits. access_of _ _ _ _ 2 c.memarg_of-four.result (rw c.memarg_of-four.ensures at (c.in-Some.ensures 2)))
  | in-43 w ↦ told_with c.args.features.0 c.args.bytes.now c.args.at c.args.code 43 c.requires w.in-43.is
      (op.Memory (memory.F64Load c.memarg_of-eight.result)) refl refl _ (ap (λ (m : MemoryOperator). op.Memory m) (sym w.op-is)) refl refl
      (MemoryArgument kind.Plain 3 c.memarg_of-eight.result) c.in-Some.end refl (λ limits. access_of _ _ _ _ 3 c.memarg_of-eight.result (rw c.memarg_of-eight.ensures at (c.in-Some.ensures 3)))
  | in-44 w ↦ told_with c.args.features.0 c.args.bytes.now c.args.at c.args.code 44 c.requires w.in-44.is
      (op.Memory (memory.I32Load8S c.memarg_of-one.result)) refl refl _ (ap (λ (m : MemoryOperator). op.Memory m) (sym w.op-is)) refl refl
      (MemoryArgument kind.Plain 0 c.memarg_of-one.result) c.in-Some.end refl (λ limits. access_of _ _ _ _ 0 c.memarg_of-one.result (rw c.memarg_of-one.ensures at (c.in-Some.ensures 0)))
  | in-45 w ↦ told_with c.args.features.0 c.args.bytes.now c.args.at c.args.code 45 c.requires w.in-45.is
      (op.Memory (memory.I32Load8U c.memarg_of-one.result)) refl refl _ (ap (λ (m : MemoryOperator). op.Memory m) (sym w.op-is)) refl refl
      (MemoryArgument kind.Plain 0 c.memarg_of-one.result) c.in-Some.end refl (λ limits. access_of _ _ _ _ 0 c.memarg_of-one.result (rw c.memarg_of-one.ensures at (c.in-Some.ensures 0)))
  | in-46 w ↦ told_with c.args.features.0 c.args.bytes.now c.args.at c.args.code 46 c.requires w.in-46.is
      (op.Memory (memory.I32Load16S c.memarg_of-two.result)) refl refl _ (ap (λ (m : MemoryOperator). op.Memory m) (sym w.op-is)) refl refl
      (MemoryArgument kind.Plain 1 c.memarg_of-two.result) c.in-Some.end refl (λ limits. access_of _ _ _ _ 1 c.memarg_of-two.result (rw c.memarg_of-two.ensures at (c.in-Some.ensures 1)))
  | in-47 w ↦ told_with c.args.features.0 c.args.bytes.now c.args.at c.args.code 47 c.requires w.in-47.is
      (op.Memory (memory.I32Load16U c.memarg_of-two.result)) refl refl _ (ap (λ (m : MemoryOperator). op.Memory m) (sym w.op-is)) refl refl
      (MemoryArgument kind.Plain 1 c.memarg_of-two.result) c.in-Some.end refl (λ limits. access_of _ _ _ _ 1 c.memarg_of-two.result (rw c.memarg_of-two.ensures at (c.in-Some.ensures 1)))
  | in-48 w ↦ told_with c.args.features.0 c.args.bytes.now c.args.at c.args.code 48 c.requires w.in-48.is
      (op.Memory (memory.I64Load8S c.memarg_of-one.result)) refl refl _ (ap (λ (m : MemoryOperator). op.Memory m) (sym w.op-is)) refl refl
      (MemoryArgument kind.Plain 0 c.memarg_of-one.result) c.in-Some.end refl (λ limits. access_of _ _ _ _ 0 c.memarg_of-one.result (rw c.memarg_of-one.ensures at (c.in-Some.ensures 0)))
  | in-49 w ↦ told_with c.args.features.0 c.args.bytes.now c.args.at c.args.code 49 c.requires w.in-49.is
      (op.Memory (memory.I64Load8U c.memarg_of-one.result)) refl refl _ (ap (λ (m : MemoryOperator). op.Memory m) (sym w.op-is)) refl refl
      (MemoryArgument kind.Plain 0 c.memarg_of-one.result) c.in-Some.end refl (λ limits. access_of _ _ _ _ 0 c.memarg_of-one.result (rw c.memarg_of-one.ensures at (c.in-Some.ensures 0)))
  | in-50 w ↦ told_with c.args.features.0 c.args.bytes.now c.args.at c.args.code 50 c.requires w.in-50.is
      (op.Memory (memory.I64Load16S c.memarg_of-two.result)) refl refl _ (ap (λ (m : MemoryOperator). op.Memory m) (sym w.op-is)) refl refl
      (MemoryArgument kind.Plain 1 c.memarg_of-two.result) c.in-Some.end refl (λ limits. access_of _ _ _ _ 1 c.memarg_of-two.result (rw c.memarg_of-two.ensures at (c.in-Some.ensures 1)))
  | in-51 w ↦ told_with c.args.features.0 c.args.bytes.now c.args.at c.args.code 51 c.requires w.in-51.is
      (op.Memory (memory.I64Load16U c.memarg_of-two.result)) refl refl _ (ap (λ (m : MemoryOperator). op.Memory m) (sym w.op-is)) refl refl
      (MemoryArgument kind.Plain 1 c.memarg_of-two.result) c.in-Some.end refl (λ limits. access_of _ _ _ _ 1 c.memarg_of-two.result (rw c.memarg_of-two.ensures at (c.in-Some.ensures 1)))
  | in-52 w ↦ told_with c.args.features.0 c.args.bytes.now c.args.at c.args.code 52 c.requires w.in-52.is
      (op.Memory (memory.I64Load32S c.memarg_of-four.result)) refl refl _ (ap (λ (m : MemoryOperator). op.Memory m) (sym w.op-is)) refl refl
      (MemoryArgument kind.Plain 2 c.memarg_of-four.result) c.in-Some.end refl (λ limits. access_of _ _ _ _ 2 c.memarg_of-four.result (rw c.memarg_of-four.ensures at (c.in-Some.ensures 2)))
  | in-53 w ↦ told_with c.args.features.0 c.args.bytes.now c.args.at c.args.code 53 c.requires w.in-53.is
      (op.Memory (memory.I64Load32U c.memarg_of-four.result)) refl refl _ (ap (λ (m : MemoryOperator). op.Memory m) (sym w.op-is)) refl refl
      (MemoryArgument kind.Plain 2 c.memarg_of-four.result) c.in-Some.end refl (λ limits. access_of _ _ _ _ 2 c.memarg_of-four.result (rw c.memarg_of-four.ensures at (c.in-Some.ensures 2)))
]
