use Rattle.std.proofs.Common.{refl, ap, length}
use Rattle.wasm_operator_validator_fast_tables.proofs.Knowing.{signed}
use Rattle.wasm_operator_validator_fast_tables.proofs.known.sig_of.Goals as goal

pub returns-clause-sig : goal.returns-clause-sig
returns-clause-sig g c =
    let m = g.R.WasmModuleResources.meaning c.args.resources.now in
    let (ps, e, p) = c.if-not-put_codes.ensures.codes refl in
    let (rs, f, r) = c.if-not-put_codes-2.ensures.codes refl in
    signed m c.args.at _ c.args.flat.now.items ps rs c.params-params.result.now c.results-results.result.now c.put_codes.new.flat.items c.put_codes-2.new.flat.items e f (p m) (r m)
    (ap length c.as_slice-from.ensures.value) refl (ap length c.as_slice-middle.ensures.value) refl (rw (← c.params-params.ensures, ← c.results-results.ensures) at c.in-Some.ensures)
