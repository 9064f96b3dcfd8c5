use Rattle.std.proofs.Common.{◌≡◌, length}
use Rattle.wasm_module_validator_index_spaces.specs.view.Entities.{placed_entities}
use Rattle.wasm_module_validator_index_spaces.proofs.view.named.CoreImportsIterator.next.Given as goal

-- what is left stays, and grows shorter
abbrev pub invariant-loop-module : goal.invariant-loop-module
invariant-loop-module l =
    placed_entities l.initial.self-inside.«module».now l.initial.self-inside.places ≡ placed_entities l.self-inside.«module».now l.self-inside.places

abbrev pub decreases-loop-module : goal.decreases-loop-module
decreases-loop-module l = length l.self-inside.places
