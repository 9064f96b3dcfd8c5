use Rattle.std.proofs.Common.{◌≡◌, ◌-◌, drop, length}
use Rattle.wasm_module_validator_index_spaces.specs.view.Entities.{places_behind}
use Rattle.wasm_module_validator_index_spaces.proofs.view.named.NamedPlacesIterator.next.Given as goal

-- what is left stays, and grows shorter
abbrev pub invariant-loop-named : goal.invariant-loop-named
invariant-loop-named l =
    places_behind l.initial.self-inside.given (drop l.initial.self-inside.past l.initial.self-inside.imports.now)
    ≡ places_behind l.self-inside.given (drop l.self-inside.past l.self-inside.imports.now)

abbrev pub decreases-loop-named : goal.decreases-loop-named
decreases-loop-named l = length l.self-inside.imports.now - l.self-inside.past
