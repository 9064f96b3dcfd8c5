use Rattle.std.proofs.Common.{rules, length, ap, sym, arith, List}
use Rattle.wasm_types.specs.values.declared.value.ValType.{ValType}
use Rattle.wasm_operator_validator_locals.proofs.Runs.{front_kept, front_resized}
use Rattle.wasm_operator_validator_locals.proofs.locals.grow_first.Goals as goal

pub returns-then-held-defined-clause-front : goal.returns-then-held-defined-clause-front
returns-then-held-defined-clause-front c = λ all n f. front_kept _ all _ f

pub returns-clause-front : goal.returns-clause-front
returns-clause-front c = λ all n f.
    let held = ap (λ (x : List ValType). length x) c.as_slice-held.ensures.value in
    front_resized _ _ all c.args.ty.now (length c.as_slice-held.result.now) _ _ c.args.count f
    (omega (arith, n, c.if-held-defined.false)) (sym held) (sym c.as_slice-held.ensures.len)
    (search rules) c.in-Ok.ensures.items
