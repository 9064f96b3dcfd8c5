use Rattle.std.proofs.Common.{◌≡◌, length}
use Rattle.wasm_module_validator_index_spaces.specs.view.Entities.{export_entities}
use Rattle.wasm_module_validator_index_spaces.proofs.view.named.CoreExportsIterator.next.Given as goal

-- what is left stays, and grows shorter
abbrev pub invariant-loop-export : goal.invariant-loop-export
invariant-loop-export l =
    export_entities l.initial.self-inside.«module».now l.initial.self-inside.exports
    ≡ export_entities l.self-inside.«module».now l.self-inside.exports

abbrev pub decreases-loop-export : goal.decreases-loop-export
decreases-loop-export l = length l.self-inside.exports
