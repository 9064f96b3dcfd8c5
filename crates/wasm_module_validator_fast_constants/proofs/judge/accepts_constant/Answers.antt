use Rattle.std.proofs.Common.{◌≡◌, ◌∙◌, ◌<◌, ◌∷◌, [], List, suc, refl, sym, ap, subst, length, get_or, arith, rules}
use Rattle.wasm_operator_validator_state.specs.resources.Meaning.{type_in}
use Rattle.wasm_operator_validator_rules.specs.Operands.{ValueType}
use Rattle.wasm_module_validator_fast_constants.specs.Steps.{tops, Goes}
use Rattle.wasm_module_validator_fast_constants.proofs.Passing.{next_inside}
use Rattle.wasm_module_validator_fast_constants.proofs.Ending.{accepted}
use Rattle.wasm_module_validator_fast_constants.proofs.judge.accepts_constant.Goals as goal

pub loop-at-init : goal.loop-at-init
loop-at-init g c =
    let m = g.R.WasmModuleResources.meaning c.args.resources.now in
    (omega arith, c.requires, 0, (refl, ap (tops m) c.clear.ensures.items))

pub loop-at-preserved : goal.loop-at-preserved
loop-at-preserved g c =
    let m = g.R.WasmModuleResources.meaning c.args.resources.now in
    let (behind_start, inside, n, goes) = c.loop-at.invariant in
    let step = c.in-Some.ensures in
    let forward = step.forward in
    (omega (arith, behind_start, forward), next_inside step, suc n, (c.loop-at.at, tops m c.loop-at.stack.items, goes, step))

pub returns-then-bytes-at-eq11 : goal.returns-then-bytes-at-eq11
returns-then-bytes-at-eq11 g c =
    let m = g.R.WasmModuleResources.meaning c.args.resources.now in
    let text = c.args.bytes.now in
    let at = c.loop-at.at in
    let (behind_start, inside, n, goes) = c.loop-at.invariant in
    let (x, is, below) = c.is_of.ensures c.if-not-is_of.false in
    let one : Goes c.args.features.now.0 m.«module» text n c.args.start at (type_in m x ∷ [])
    = subst (λ (s : List ValueType). Goes c.args.features.now.0 m.«module» text n c.args.start at s) (ap (tops m) (sym c.as_slice.ensures.value ∙ is)) goes in
    let there : at < length text = search rules in
    let last : get_or text at 0 ≡ 0x0b = search rules in
    accepted c.args.features.now.0 m.«module» text c.args.start (type_in m c.args.ty.now) (type_in m x) n at one behind_start there last below
