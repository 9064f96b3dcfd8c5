use Rattle.std.proofs.Common.{refl}
use Rattle.wasm_operators_immediates.specs.Kinds as kind
use Rattle.wasm_operators_immediates.specs.Immediates.{Index, IndexOrZero}
use Rattle.wasm_operators_enums.specs.Op as op
use Rattle.wasm_operators_enums.specs.declared.control.ControlOperator.TheVariants as control
use Rattle.wasm_operators_frequent.proofs.ShortReading.{told_with_two}
use Rattle.wasm_operators_frequent.proofs.Carried.{index_of, zero_of}
use Rattle.wasm_operators_frequent.proofs.control.short_indirect.Goals as goal

pub returns-in-17-clause-told : goal.returns-in-17-clause-told
returns-in-17-clause-told g c =
    told_with_two c.args.features.0 c.args.bytes.now c.args.at c.args.code 17 c.requires c.in-17.is
    (op.Control (control.CallIndirect c.in-Some.type_index c.in-Some-zero_at.table_index)) refl refl _ c.visit_call_indirect.ensures refl refl
    (Index kind.Types c.in-Some.type_index) (IndexOrZero kind.Tables c.in-Some-zero_at.table_index) c.in-Some.middle c.in-Some-zero_at.end refl
    (λ limits. index_of _ _ _ _ kind.Types c.in-Some.type_index c.in-Some.ensures.found)
    (λ limits. zero_of _ _ _ _ kind.Tables c.in-Some-zero_at.table_index (c.in-Some-zero_at.ensures.1 _))
