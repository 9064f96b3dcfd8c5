-- By the laws of each and all.
use Rattle.std.proofs.Common.{length, refl}
use Rattle.std.proofs.lemmas.Option.{slice_get_read}
use Rattle.wasm_types.specs.decoding.DenialLaws.{denies_from}
use Rattle.wasm_module_validator_section_order.specs.items.Bodies.{IsReadBy}
use Rattle.wasm_module_validator_function_bodies.specs.code.Code.{IsFunctionOf}
use Rattle.wasm_module_validator_function_bodies.specs.code.CodeLaws.{each_at, each_next, each_none}
use Rattle.wasm_module_validator_section_order.specs.declared.items.bodies.Body.{Body}
use Rattle.wasm_module_validator_function_bodies.proofs.code.bodies.judge_bodies.Goals as goal

pub returns-in-Err : goal.returns-in-Err
returns-in-Err g c =
    let at = slice_get_read c.args.bodies.now (length c.args.bodies.now) c.loop-i.i c.index-bodies-i.result refl c.loop-i-test.true c.index-bodies-i.is in
    λ z held read. denies_from c.in-Err.error.kind _ _
    (each_at (λ (b : Body). IsFunctionOf z (g.R.WasmModuleResources.meaning c.args.resources.now).«module» b.type_index b.body.rest) c.args.bodies.now c.loop-i.i c.index-bodies-i.result at)
    (c.in-Err.ensures.told z held (each_at (λ (b : Body). IsReadBy z c.args.features.0 b.body) c.args.bodies.now c.loop-i.i c.index-bodies-i.result at read))

pub loop-i-preserved : goal.loop-i-preserved
loop-i-preserved g c =
    let m = g.R.WasmModuleResources.meaning c.args.resources.now in
    let b = c.index-bodies-i.result in
    let at = slice_get_read c.args.bodies.now (length c.args.bodies.now) c.loop-i.i b refl c.loop-i-test.true c.index-bodies-i.is in (
      c.judge_function.ensures.stays,
      λ z held read rest. c.loop-i.invariant.1 z held read
          (each_next (λ (b : Body). IsFunctionOf z m.«module» b.type_index b.body.rest) c.args.bodies.now c.loop-i.i b at
          (c.in-Ok.ensures.told z held (each_at (λ (b : Body). IsReadBy z c.args.features.0 b.body) c.args.bodies.now c.loop-i.i b at read)) rest),
    )

pub returns : goal.returns
returns g c = λ z held read. c.loop-i.invariant.1 z held read
    (each_none (λ (b : Body). IsFunctionOf z (g.R.WasmModuleResources.meaning c.args.resources.now).«module» b.type_index b.body.rest) c.args.bodies.now c.loop-i.i c.loop-i-test.false)
