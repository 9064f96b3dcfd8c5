use Rattle.std.proofs.Common.{refl}
use Rattle.wasm_operators_immediates.specs.Immediates.{Block}
use Rattle.wasm_operators_enums.specs.Op as op
use Rattle.wasm_operators_enums.specs.declared.control.ControlOperator.TheVariants as control
use Rattle.wasm_operators_enums.specs.Op.{Drop, Select}
use Rattle.wasm_operators_frequent.proofs.ShortReading.{told_with}
use Rattle.wasm_operators_frequent.proofs.Carried.{block_of}
use Rattle.wasm_operators_frequent.proofs.control.short_block.Goals as goal

pub returns-in-2-clause-told : goal.returns-in-2-clause-told
returns-in-2-clause-told g c = told_with c.args.features.0 c.args.bytes.now c.args.at c.args.code 2 c.requires c.in-2.is
    (op.Control (control.Block c.in-Some.ty)) refl refl _ c.visit_block.ensures refl refl (Block c.in-Some.ty) c.in-Some.end refl
    (λ limits. block_of _ _ _ _ _ c.in-Some.ensures)

pub returns-in-3-clause-told : goal.returns-in-3-clause-told
returns-in-3-clause-told g c = told_with c.args.features.0 c.args.bytes.now c.args.at c.args.code 3 c.requires c.in-3.is
    (op.Control (control.Loop c.in-Some.ty)) refl refl _ c.visit_loop.ensures refl refl (Block c.in-Some.ty) c.in-Some.end refl (λ limits. block_of _ _ _ _ _ c.in-Some.ensures)

pub returns-in-4-clause-told : goal.returns-in-4-clause-told
returns-in-4-clause-told g c = told_with c.args.features.0 c.args.bytes.now c.args.at c.args.code 4 c.requires c.in-4.is
    (op.Control (control.If c.in-Some.ty)) refl refl _ c.visit_if.ensures refl refl (Block c.in-Some.ty) c.in-Some.end refl (λ limits. block_of _ _ _ _ _ c.in-Some.ensures)
