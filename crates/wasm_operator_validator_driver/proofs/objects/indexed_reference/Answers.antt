use Rattle.std.proofs.Common.{refl}
use Rattle.wasm_operators_immediates.specs.Kinds as kind
use Rattle.wasm_operators_immediates.specs.Immediates.{Index}
use Rattle.wasm_operators_enums.specs.Op as op
use Rattle.wasm_operators_enums.specs.declared.bulk.BulkOperator.TheVariants as bulk
use Rattle.wasm_operators_frequent.proofs.ShortReading.{told_with}
use Rattle.wasm_operators_frequent.proofs.Carried.{index_of}
use Rattle.wasm_operator_validator_driver.proofs.objects.indexed_reference.Goals as goal

pub returns-in-37-clause-told : goal.returns-in-37-clause-told
returns-in-37-clause-told g c = told_with c.args.features.0 c.args.bytes.now c.args.at c.args.code 37 c.requires c.in-37.is
    (op.Bulk (bulk.TableGet c.in-Some.index)) refl refl _ c.visit_table_get.ensures refl refl (Index kind.Tables c.in-Some.index) c.in-Some.end refl
    (λ limits. index_of _ _ _ _ kind.Tables c.in-Some.index c.in-Some.ensures.found)

pub returns-in-38-clause-told : goal.returns-in-38-clause-told
returns-in-38-clause-told g c = told_with c.args.features.0 c.args.bytes.now c.args.at c.args.code 38 c.requires c.in-38.is
    (op.Bulk (bulk.TableSet c.in-Some.index)) refl refl _ c.visit_table_set.ensures refl refl (Index kind.Tables c.in-Some.index) c.in-Some.end refl
    (λ limits. index_of _ _ _ _ kind.Tables c.in-Some.index c.in-Some.ensures.found)

pub returns-in-210-clause-told : goal.returns-in-210-clause-told
returns-in-210-clause-told g c = told_with c.args.features.0 c.args.bytes.now c.args.at c.args.code 210 c.requires c.in-210.is
    (op.Bulk (bulk.RefFunc c.in-Some.index)) refl refl _ c.visit_ref_func.ensures refl refl (Index kind.Functions c.in-Some.index) c.in-Some.end refl
    (λ limits. index_of _ _ _ _ kind.Functions c.in-Some.index c.in-Some.ensures.found)
