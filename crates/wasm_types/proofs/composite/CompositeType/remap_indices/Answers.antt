-- The last index is refused; all are replaced.
use Rattle.std.proofs.lemmas.Result.{err_from_is_err_and}
use Rattle.wasm_types.proofs.Remapping.{cut_describes, whole_entry}
use Rattle.wasm_types.proofs.composite.CompositeType.remap_indices.Goals as goal

pub returns-in_err-self-2 : goal.returns-in_err-self-2
returns-in_err-self-2 g c =
    let p = err_from_is_err_and c.from_residual-in_err-self-2.result c.from_residual-in_err-self-2.ensures.1 in
    let refused = c.in_err-self-2.ensures.remapped in
    record {
      remapped = rw (p.1, p.2) (cut_describes _ c.args.self.now.shared _ _ _ _ c.in_err-self-2.field-0.0 refused.0 c.in_ok-self.field-0
          c.in_ok-remap_indices.ensures.remapped c.in_ok-self.ensures.remapped refused.1 refused.2);
    }

pub returns : goal.returns
returns g c = record {
  remapped = whole_entry _ c.args.self.now.shared _ _ _ _ c.in_ok-self.field-0 c.in_ok-self-2.field-0 c.in_ok-remap_indices.ensures.remapped
      c.in_ok-self.ensures.remapped c.in_ok-self-2.ensures.remapped;
}
