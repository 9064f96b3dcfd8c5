use Rattle.std.proofs.Common.{rules}
use Rattle.wasm_types_settings.specs.Features.{has}
use Rattle.wasm_types_trees.specs.worked.Gates.{Gated}

pub gated : Gated
unfolding has
gated = search rules
