-- The one list is remapped, and so are the parameters and the results in it.
use Rattle.wasm_types_fields.proofs.Remapping.{remapped_function}
use Rattle.wasm_types_fields.proofs.func.FuncType.remap_indices.Goals as goal

pub returns : goal.returns
returns g c = record {
  remapped = rw (← c.self.view_is) (remapped_function _ c.remap_values.result c.self.inside.len_params c.self.inside.params_results
      c.as_mut_slice.result.now c.remap_values.new.types c.as_mut_slice.ensures.value c.remap_values.ensures.remapped);
}
