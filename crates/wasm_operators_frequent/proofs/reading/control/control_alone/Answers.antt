use Rattle.std.proofs.Common.{refl}
use Rattle.wasm_operators_enums.specs.Op as op
use Rattle.wasm_operators_enums.specs.declared.control.ControlOperator.TheVariants as control
use Rattle.wasm_operators_enums.specs.Op.{Drop, Select}
use Rattle.wasm_operators_frequent.proofs.ShortReading.{told_alone}
use Rattle.wasm_operators_frequent.proofs.reading.control.control_alone.Goals as goal

pub returns-in-0 : goal.returns-in-0
returns-in-0 c = told_alone c.args.features.0 c.args.bytes.now c.args.at c.args.code 0 c.requires c.in-0.is
    (op.Control control.Unreachable) refl refl _ refl refl refl refl

pub returns-in-1 : goal.returns-in-1
returns-in-1 c = told_alone c.args.features.0 c.args.bytes.now c.args.at c.args.code 1 c.requires c.in-1.is
    (op.Control control.Nop) refl refl _ refl refl refl refl

pub returns-in-5 : goal.returns-in-5
returns-in-5 c = told_alone c.args.features.0 c.args.bytes.now c.args.at c.args.code 5 c.requires c.in-5.is
    (op.Control control.Else) refl refl _ refl refl refl refl

pub returns-in-11 : goal.returns-in-11
returns-in-11 c = told_alone c.args.features.0 c.args.bytes.now c.args.at c.args.code 11 c.requires c.in-11.is
    (op.Control control.End) refl refl _ refl refl refl refl

pub returns-in-15 : goal.returns-in-15
returns-in-15 c = told_alone c.args.features.0 c.args.bytes.now c.args.at c.args.code 15 c.requires c.in-15.is
    (op.Control control.Return) refl refl _ refl refl refl refl

pub returns-in-26 : goal.returns-in-26
returns-in-26 c = told_alone c.args.features.0 c.args.bytes.now c.args.at c.args.code 26 c.requires c.in-26.is
    (op.Parametric Drop) refl refl _ refl refl refl refl

pub returns-in-27 : goal.returns-in-27
returns-in-27 c = told_alone c.args.features.0 c.args.bytes.now c.args.at c.args.code 27 c.requires c.in-27.is
    (op.Parametric Select) refl refl _ refl refl refl refl
