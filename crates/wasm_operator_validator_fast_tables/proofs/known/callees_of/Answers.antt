use Rattle.std.proofs.Common.{◌≡◌, ℕ, Some, slice_get, get_or}
use Rattle.std.proofs.lemmas.Option.{slice_get-get_or}
use Rattle.wasm_operator_validator_fast_tables.specs.declared.tables.Sig.{Sig}
use Rattle.wasm_operator_validator_fast_tables.proofs.Knowing.{each_more}
use Rattle.wasm_operator_validator_fast_tables.proofs.known.callees_of.Goals as goal

pub loop-x-preserved : goal.loop-x-preserved
loop-x-preserved c =
    let x = c.loop-x.x in
    let fs = c.args.functions.now in
    let ss = c.args.types.now in
    let y = get_or fs x 0 in
    let s : Sig = get_or ss y (record { params = 0; param_count = 0; results = 0; result_count = 0 }) in
    each_more (λ (k : ℕ) (h : Sig). (n : ℕ) × (slice_get fs k ≡ Some n) × (slice_get ss n ≡ Some h)) c.loop-x.callees.items c.push.new.self.items s x
    c.in-Ok.ensures.items c.loop-x.invariant
    (y, slice_get-get_or fs x 0 c.loop-x-test.true, slice_get-get_or ss y (record { params = 0; param_count = 0; results = 0; result_count = 0 }) c.if-ty-types.false)
