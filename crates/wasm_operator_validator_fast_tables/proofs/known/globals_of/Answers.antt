use Rattle.std.proofs.Common.{refl, sym}
use Rattle.wasm_operator_validator_state.specs.resources.Meaning.{global_in}
use Rattle.wasm_operator_validator_fast_tables.specs.Tables.{IsGlobalIn}
use Rattle.wasm_operator_validator_fast_tables.proofs.Knowing.{each_more}
use Rattle.wasm_operator_validator_fast_tables.proofs.known.globals_of.Goals as goal

pub loop-at-preserved : goal.loop-at-preserved
loop-at-preserved g c =
    let m = g.R.WasmModuleResources.meaning c.args.resources.now in
    each_more (IsGlobalIn m.ids m.«module») c.loop-at.globals.items c.push.new.self.items (record { ty = c.code_of.result; mutable = c.in-Some.global.mutable }) c.loop-at.at c.in-Ok.ensures.items c.loop-at.invariant
    (λ lt. (global_in m c.in-Some.global, sym c.in-Some.ensures, c.code_of.ensures lt m, refl))
