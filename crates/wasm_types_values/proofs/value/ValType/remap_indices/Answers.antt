-- The index that is refused is the type's own.
use Rattle.std.proofs.Common.{sym}
use Rattle.std.proofs.lemmas.Result.{err_from_is_err_and}
use Rattle.wasm_types_values.proofs.Remapping.{refused_value}
use Rattle.wasm_types_values.proofs.value.ValType.remap_indices.Goals as goal

pub returns-in_err-index-clause-remapped : goal.returns-in_err-index-clause-remapped
returns-in_err-index-clause-remapped g c =
    let p = err_from_is_err_and c.from_residual.result c.from_residual.ensures.1 in
    rw (p.1, p.2) (refused_value _ c.args.self.now c.in-Some.ty c.in-Some-type_index.index _ (sym c.in-Some.ensures) (sym c.in-Some-type_index.ensures) c.in_err-index.ensures)
