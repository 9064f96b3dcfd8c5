use Rattle.std.proofs.Common.{rules}
-- The index is refused.
use Rattle.std.proofs.Common.{refl}
use Rattle.std.proofs.lemmas.Result.{err_from_is_err_and}
use Rattle.wasm_types_values.specs.RemapLaws.{refused_alone}
use Rattle.wasm_types_fields.proofs.cont.ContType.remap_indices.Goals as goal

pub returns-in_err-self-clause-remapped : goal.returns-in_err-self-clause-remapped
returns-in_err-self-clause-remapped g c =
    let p = err_from_is_err_and c.from_residual.result c.from_residual.ensures.1 in
    rw (p.1, p.2) (record { same = refl; walked = refused_alone _ c.in_err-self.field-0.0 _ c.in_err-self.ensures })

pub returns-clause-remapped : goal.returns-clause-remapped
returns-clause-remapped c = search rules
