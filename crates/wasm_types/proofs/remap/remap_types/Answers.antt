-- One more is replaced; one is refused; all are replaced.
use Rattle.std.proofs.Common.{◌∙◌, arith}
use Rattle.std.proofs.lemmas.List.{length-set}
use Rattle.std.proofs.lemmas.Result.{err_from_is_err_and}
use Rattle.wasm_types.specs.Entries.{declared_of}
use Rattle.wasm_types.specs.Remap.{declared_shape, declared_indices}
use Rattle.wasm_types_fields.proofs.Remapping.{step, cut, whole}
use Rattle.wasm_types.proofs.remap.remap_types.Goals as goal

pub loop-place-preserved : goal.loop-place-preserved
loop-place-preserved g c = record {
  len = length-set _ _ _ ∙ c.loop-place.invariant.len;
  so_far = step declared_of declared_shape declared_indices _ c.args.types.now c.loop-place.types c.loop-place.place c.remap_indices.new.self c.index-types-place.result
      (omega (arith, c.loop-place-test.true, c.loop-place.invariant.len)) c.loop-place.invariant.so_far c.in_ok-remap_indices.ensures.remapped;
}

pub returns-in_err-remap_indices : goal.returns-in_err-remap_indices
returns-in_err-remap_indices g c =
    let p = err_from_is_err_and c.from_residual.result c.from_residual.ensures.1 in
    record {
      remapped = rw (p.1, p.2) (cut declared_of declared_shape declared_indices _ c.in_err-remap_indices.field-0.0 c.args.types.now c.loop-place.types
          c.loop-place.place c.remap_indices.new.self c.index-types-place.result
          (omega (arith, c.loop-place-test.true, c.loop-place.invariant.len)) c.loop-place.invariant.so_far c.in_err-remap_indices.ensures.remapped);
    }

pub returns : goal.returns
returns g c = record {
  remapped = whole declared_of declared_shape declared_indices _ c.args.types.now c.loop-place.types c.loop-place.place
      (omega (arith, c.loop-place-test.false, c.loop-place.invariant.len)) c.loop-place.invariant.so_far;
}
