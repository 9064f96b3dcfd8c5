use Rattle.std.proofs.Common.{arith, refl}
use Rattle.std.proofs.lemmas.Option.{slice_get_read}
use Rattle.wasm_operator_validator_fast_tables.proofs.Knowing.{codes_more}
use Rattle.wasm_operator_validator_fast_tables.proofs.known.put_codes.Goals as goal

pub loop-ty-preserved : goal.loop-ty-preserved
loop-ty-preserved c =
    codes_more c.args.written.now c.loop-ty.ty-index _ c.ty-item.result c.code_of-code.result c.args.flat.now.items c.loop-ty.flat.items c.push.new.self.items
    (slice_get_read c.args.written.now _ c.loop-ty.ty-index c.ty-item.result refl c.loop-ty-test.true c.ty-item.is) refl
    (c.code_of-code.ensures (omega arith)) c.in-Ok.ensures.items c.loop-ty.invariant
