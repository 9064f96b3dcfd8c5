use Rattle.std.proofs.Common.{refl}
use Rattle.wasm_operators_immediates.specs.Immediates.{Block}
use Rattle.wasm_operators_enums.specs.Op as op
use Rattle.wasm_operators_enums.specs.declared.control.ControlOperator.TheVariants as control
use Rattle.wasm_operators_enums.specs.Op.{Drop, Select}
use Rattle.wasm_operators_frequent.proofs.ShortReading.{told_with}
use Rattle.wasm_operators_frequent.proofs.Carried.{block_of}
use Rattle.wasm_operators_frequent.proofs.reading.control.control_block.Goals as goal

pub returns-in-2 : goal.returns-in-2
returns-in-2 c = told_with c.args.features.0 c.args.bytes.now c.args.at c.args.code 2 c.requires c.in-2.is
    (op.Control (control.Block c.in-Some.ty)) refl refl _ refl refl refl (Block c.in-Some.ty) c.in-Some.end refl
    (λ limits. block_of _ _ _ _ _ c.in-Some.ensures)

pub returns-in-3 : goal.returns-in-3
returns-in-3 c = told_with c.args.features.0 c.args.bytes.now c.args.at c.args.code 3 c.requires c.in-3.is
    (op.Control (control.Loop c.in-Some.ty)) refl refl _ refl refl refl (Block c.in-Some.ty) c.in-Some.end refl (λ limits. block_of _ _ _ _ _ c.in-Some.ensures)

pub returns-in-4 : goal.returns-in-4
returns-in-4 c = told_with c.args.features.0 c.args.bytes.now c.args.at c.args.code 4 c.requires c.in-4.is
    (op.Control (control.If c.in-Some.ty)) refl refl _ refl refl refl (Block c.in-Some.ty) c.in-Some.end refl (λ limits. block_of _ _ _ _ _ c.in-Some.ensures)
