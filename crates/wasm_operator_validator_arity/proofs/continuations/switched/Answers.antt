use Rattle.std.proofs.Common.{◌≡◌, ◌∙◌, List, length, slice_get, ap}
use Rattle.wasm_types.specs.values.declared.value.ValType.{ValType}
use Rattle.wasm_operator_validator_rules.specs.arity.Arity.{in_u32}
use Rattle.wasm_operator_validator_arity.proofs.Switching.{switch_to_none, switch_without_last, switch_counted}
use Rattle.wasm_operator_validator_arity.proofs.continuations.switched.Goals as goal

pub returns-in_default-function_resumed : goal.returns-in_default-function_resumed
returns-in_default-function_resumed g c =
    let m = g.M.ModuleArity.meaning c.args.known.now in
    switch_to_none m c.in-Some.ty.now (slice_get m.«module».types c.args.type_index) c.in-Some.ensures c.in_default-function_resumed.ensures

pub returns-in_default-taken_by_last : goal.returns-in_default-taken_by_last
returns-in_default-taken_by_last g c =
    let m = g.M.ModuleArity.meaning c.args.known.now in
    let f = c.in-Some-function_resumed.function.now in
    switch_without_last m c.in-Some.ty.now (slice_get m.«module».types c.args.type_index) f c.in-Some.ensures c.in-Some-function_resumed.ensures
    (rw c.params.ensures at c.in_default-taken_by_last.ensures)

pub returns : goal.returns
returns g c =
    let m = g.M.ModuleArity.meaning c.args.known.now in
    let f = c.in-Some-function_resumed.function.now in
    let taken : c.in_u32.result ≡ in_u32 (length f.params) = c.in_u32.ensures ∙ ap (λ (ts : List ValType). in_u32 (length ts)) c.params-2.ensures in
    rw (taken, c.in_u32-2.ensures) (switch_counted m c.in-Some.ty.now (slice_get m.«module».types c.args.type_index) f c.in-Some-taken_by_last.given
    c.in-Some.ensures c.in-Some-function_resumed.ensures (rw c.params.ensures at c.in-Some-taken_by_last.ensures))
