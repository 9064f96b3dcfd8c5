-- One of the supertypes is refused; they are replaced, and then the composite type.
use Rattle.std.proofs.lemmas.Result.{err_from_is_err_and}
use Rattle.wasm_types_values.specs.RemapLaws.{walked_next, cut_before}
use Rattle.wasm_types.specs.Entries.{composite_of}
use Rattle.wasm_types.specs.Remap.{entry_indices}
use Rattle.wasm_types.proofs.remap.remap_declared.Given as given
use Rattle.wasm_types.proofs.remap.remap_declared.Goals as goal

pub returns-in_err-remap_list-clause-walked : goal.returns-in_err-remap_list-clause-walked
returns-in_err-remap_list-clause-walked g c =
    let p = err_from_is_err_and c.from_residual.result c.from_residual.ensures.1 in
    rw (p.1, p.2) (cut_before _ c.in_err-remap_list.field-0.0 _ _ _ c.in_err-remap_list.ensures.remapped.walked)

pub returns-clause-walked : goal.returns-clause-walked
returns-clause-walked g c =
    walked_next (given.F-post g c.args.f.now) c.remap_indices.result c.args.supertypes.now c.remap_list.new.indices
    (entry_indices (composite_of c.args.composite.now)) (entry_indices (composite_of c.remap_indices.new.self))
    c.in_ok-remap_list.ensures.remapped.walked c.remap_indices.ensures.remapped.walked
