use Rattle.std.proofs.Common.{refl}
use Rattle.wasm_operators_enums.specs.Op as op
use Rattle.wasm_operators_enums.specs.declared.control.ControlOperator.TheVariants as control
use Rattle.wasm_operators_enums.specs.Op.{Drop, Select}
use Rattle.wasm_operators_frequent.proofs.ShortReading.{told_alone}
use Rattle.wasm_operators_frequent.proofs.control.short_alone.Goals as goal

pub returns-in-0-clause-told : goal.returns-in-0-clause-told
returns-in-0-clause-told g c = told_alone c.args.features.0 c.args.bytes.now c.args.at c.args.code 0 c.requires c.in-0.is
    (op.Control control.Unreachable) refl refl _ c.visit_unreachable.ensures refl refl refl

pub returns-in-1-clause-told : goal.returns-in-1-clause-told
returns-in-1-clause-told g c = told_alone c.args.features.0 c.args.bytes.now c.args.at c.args.code 1 c.requires c.in-1.is
    (op.Control control.Nop) refl refl _ c.visit_nop.ensures refl refl refl

pub returns-in-5-clause-told : goal.returns-in-5-clause-told
returns-in-5-clause-told g c = told_alone c.args.features.0 c.args.bytes.now c.args.at c.args.code 5 c.requires c.in-5.is
    (op.Control control.Else) refl refl _ c.visit_else.ensures refl refl refl

pub returns-in-11-clause-told : goal.returns-in-11-clause-told
returns-in-11-clause-told g c = told_alone c.args.features.0 c.args.bytes.now c.args.at c.args.code 11 c.requires c.in-11.is
    (op.Control control.End) refl refl _ c.visit_end.ensures refl refl refl

pub returns-in-15-clause-told : goal.returns-in-15-clause-told
returns-in-15-clause-told g c = told_alone c.args.features.0 c.args.bytes.now c.args.at c.args.code 15 c.requires c.in-15.is
    (op.Control control.Return) refl refl _ c.visit_return.ensures refl refl refl

pub returns-in-26-clause-told : goal.returns-in-26-clause-told
returns-in-26-clause-told g c = told_alone c.args.features.0 c.args.bytes.now c.args.at c.args.code 26 c.requires c.in-26.is
    (op.Parametric Drop) refl refl _ c.visit_drop.ensures refl refl refl

pub returns-in-27-clause-told : goal.returns-in-27-clause-told
returns-in-27-clause-told g c = told_alone c.args.features.0 c.args.bytes.now c.args.at c.args.code 27 c.requires c.in-27.is
    (op.Parametric Select) refl refl _ c.visit_select.ensures refl refl refl
