-- One more is replaced; one is refused; all are replaced.
use Rattle.std.proofs.Common.{◌∙◌, refl, subst, [], ◌∷◌, arith}
use Rattle.std.specs.Prelude.{Ok, Err}
use Rattle.std.proofs.lemmas.List.{length-set}
use Rattle.std.proofs.lemmas.Result.{err_from_is_err_and}
use Rattle.wasm_types_trees.specs.declared.index.UnpackedIndex.{UnpackedIndex}
use Rattle.wasm_types_fields.proofs.Remapping.{step, whole}
use Rattle.wasm_types.proofs.Remapping.{as_indices, cut_alone}
use Rattle.wasm_types.proofs.remap.remap_list.Given as given
use Rattle.wasm_types.proofs.remap.remap_list.Goals as goal

pub loop-place-preserved : goal.loop-place-preserved
loop-place-preserved g c = record {
  len = length-set _ _ _ ∙ c.loop-place.invariant.len;
  so_far = step (λ i. i) (λ i. tt {0}) (λ i. i ∷ []) _ c.args.indices.now c.loop-place.indices c.loop-place.place c.in_ok-indices.field-0 c.index-indices-place.result
      (omega (arith, c.loop-place-test.true, c.loop-place.invariant.len)) c.loop-place.invariant.so_far
      (record {
        same = refl;
        walked = (
          subst (λ (i : UnpackedIndex). given.F-post g c.args.f.now i (Ok c.in_ok-indices.field-0))
              c.index-indices-place.is c.in_ok-indices.ensures,
          tt,
        );
      });
}

pub returns-in_err-indices : goal.returns-in_err-indices
returns-in_err-indices g c =
    let p = err_from_is_err_and c.from_residual.result c.from_residual.ensures.1 in
    record {
      remapped = rw (p.1, p.2) (as_indices _ (Err c.in_err-indices.field-0.0) c.args.indices.now c.loop-place.indices
          (cut_alone (given.F-post g c.args.f.now) c.in_err-indices.field-0.0 c.args.indices.now c.loop-place.indices c.loop-place.place
          c.index-indices-place.result (omega (arith, c.loop-place-test.true, c.loop-place.invariant.len)) c.loop-place.invariant.so_far
          (subst (λ (i : UnpackedIndex). given.F-post g c.args.f.now i (Err c.in_err-indices.field-0.0)) c.index-indices-place.is c.in_err-indices.ensures)));
    }

pub returns : goal.returns
returns g c = record {
  remapped = as_indices _ (Ok (tt {0})) c.args.indices.now c.loop-place.indices
      (whole (λ i. i) (λ i. tt {0}) (λ i. i ∷ []) _ c.args.indices.now c.loop-place.indices c.loop-place.place
      (omega (arith, c.loop-place-test.false, c.loop-place.invariant.len)) c.loop-place.invariant.so_far);
}
