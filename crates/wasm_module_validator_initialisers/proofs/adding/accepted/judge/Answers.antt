use Rattle.std.proofs.Common.{ℕ, [], subst}
use Rattle.wasm_operator_validator_state.specs.resources.Meaning.{type_in}
use Rattle.wasm_module_validator_fast_constants.specs.Steps.{IsShortConstant}
use Rattle.wasm_module_validator_initialisers.proofs.adding.accepted.judge.Goals as goal

pub returns : goal.returns
returns g c =
    let m = g.R.WasmModuleResources.meaning c.args.resources.now in
    record {
      valid = c.in-Ok.ensures.answer;
      same = c.in-Ok.ensures.named;
      value =
          subst (λ (f : ℕ). IsShortConstant f m.«module» (type_in m c.check_global_type.new.ty.content_type) c.args.bytes.now c.args.at c.in-Some.end []) c.features-features.ensures c.in-Some.ensures;
    }
