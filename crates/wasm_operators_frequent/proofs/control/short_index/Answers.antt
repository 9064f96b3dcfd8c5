use Rattle.std.proofs.Common.{refl}
use Rattle.wasm_operators_immediates.specs.Kinds as kind
use Rattle.wasm_operators_immediates.specs.Immediates.{Index, Label}
use Rattle.wasm_operators_enums.specs.Op as op
use Rattle.wasm_operators_enums.specs.declared.control.ControlOperator.TheVariants as control
use Rattle.wasm_operators_enums.specs.Op.{Drop, Select}
use Rattle.wasm_operators_frequent.proofs.ShortReading.{told_with}
use Rattle.wasm_operators_frequent.proofs.Carried.{label_of, index_of}
use Rattle.wasm_operators_frequent.proofs.control.short_index.Goals as goal

pub returns-in-12-clause-told : goal.returns-in-12-clause-told
returns-in-12-clause-told g c = told_with c.args.features.0 c.args.bytes.now c.args.at c.args.code 12 c.requires c.in-12.is
    (op.Control (control.Br c.in-Some.index)) refl refl _ c.visit_br.ensures refl refl (Label c.in-Some.index) c.in-Some.end refl
    (λ limits. label_of _ _ _ _ c.in-Some.index c.in-Some.ensures.found)

pub returns-in-13-clause-told : goal.returns-in-13-clause-told
returns-in-13-clause-told g c = told_with c.args.features.0 c.args.bytes.now c.args.at c.args.code 13 c.requires c.in-13.is
    (op.Control (control.BrIf c.in-Some.index)) refl refl _ c.visit_br_if.ensures refl refl (Label c.in-Some.index) c.in-Some.end refl
    (λ limits. label_of _ _ _ _ c.in-Some.index c.in-Some.ensures.found)

pub returns-in-16-clause-told : goal.returns-in-16-clause-told
returns-in-16-clause-told g c = told_with c.args.features.0 c.args.bytes.now c.args.at c.args.code 16 c.requires c.in-16.is
    (op.Control (control.Call c.in-Some.index)) refl refl _ c.visit_call.ensures refl refl (Index kind.Functions c.in-Some.index) c.in-Some.end refl
    (λ limits. index_of _ _ _ _ kind.Functions c.in-Some.index c.in-Some.ensures.found)
