use Rattle.std.proofs.Common.{◌+◌, ◌<◌, ◌^◌, List, sym, subst, arith}
use Rattle.wasm_types.specs.values.declared.value.ValType.{ValType}
use Rattle.wasm_operator_validator_locals.specs.Locals.{IsFront}
use Rattle.wasm_operator_validator_locals.proofs.Runs.{run_fits, taken_back}
use Rattle.wasm_operator_validator_locals.proofs.locals.Locals.put.Goals as goal

pub invariant_of-self-else-not-grow_first : goal.invariant_of-self-else-not-grow_first
invariant_of-self-else-not-grow_first c =
    let room : c.len_locals-defined.result + c.args.count < 2 ^ 32 = omega (arith, c.may_define.ensures.0 c.if-not-may_define.false, c.len_locals-defined.ensures, c) in
    let fits = run_fits c.self.inside.params.items _ _ _ c.args.count c.args.ty.now c.self.invariant.0 c.self.view_is c.len_locals-defined.ensures room in
    let f = subst (λ (xs : List ValType). IsFront c.self.inside.first.items xs) c.self.view_is c.self.invariant.1 in
    let g = c.grow_first.ensures.front c.args.self.now (sym c.len_locals-defined.ensures) f in
    rw c.in-Ok.ensures.items (fits.0, subst (λ (xs : List ValType). IsFront c.grow_first.new.first.items xs) (sym fits.1) g, c.grow_first.ensures.within)

pub returns-clause-put : goal.returns-clause-put
returns-clause-put c = λ _.
    let within = c.may_define.ensures.0 c.if-not-may_define.false in
    let room : c.len_locals-defined.result + c.args.count < 2 ^ 32 = omega (arith, within, c.len_locals-defined.ensures, c) in
    let e = (run_fits c.self.inside.params.items _ _ _ c.args.count c.args.ty.now c.self.invariant.0 c.self.view_is c.len_locals-defined.ensures room).1 in
    rw c.in-Ok.ensures.items (e, within)

pub invariant_of-self-then-not-grow_first : goal.invariant_of-self-then-not-grow_first
invariant_of-self-then-not-grow_first c =
    rw (taken_back _ _ _ _ _ c.as_slice-held.ensures.value c.in-Ok.ensures.items c.truncate.ensures.items, c.grow_first.ensures.refused c.if-not-grow_first.true) c.self.invariant

pub returns-then-not-grow_first-clause-stays : goal.returns-then-not-grow_first-clause-stays
returns-then-not-grow_first-clause-stays c = λ _. rw (taken_back _ _ _ _ _ c.as_slice-held.ensures.value c.in-Ok.ensures.items c.truncate.ensures.items) c.self.view_is
