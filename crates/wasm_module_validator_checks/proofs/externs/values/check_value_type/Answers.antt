use Rattle.std.proofs.Common.{ℕ, subst}
use Rattle.wasm_types.specs.trees.Gates.{ValueIsAllowed}
use Rattle.wasm_types.specs.values.Values.{value_of}
use Rattle.wasm_module_validator_checks.proofs.Naming.{named, plain, plain_named}
use Rattle.wasm_module_validator_checks.proofs.externs.values.check_value_type.Goals as goal

pub returns-in-Ref-clause-named : goal.returns-in-Ref-clause-named
returns-in-Ref-clause-named g c =
    rw c.in-Ref.is (named c.check_ref_type.result (g.R.WasmModuleResources.meaning c.args.resources.now) c.in-Ref.reference c.check_ref_type.new.ty c.check_ref_type.ensures.named)

pub returns : goal.returns
returns g c =
    let m = g.R.WasmModuleResources.meaning c.args.resources.now in
    record {
      answer = plain m c.args.settings.now.features c.args.ty.now c.in_default.not-Ref
          (subst (λ (bits : ℕ). ValueIsAllowed bits (value_of c.args.ty.now)) c.features.ensures c.in_ok-check_value_type_features.ensures.answer);
      named = plain_named m c.args.ty.now c.in_default.not-Ref;
      kept = tt;
      refused = tt;
      at = tt;
    }
