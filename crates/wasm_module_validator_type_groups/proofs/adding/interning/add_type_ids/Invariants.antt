use Rattle.std.proofs.Common.{◌≡◌, ◌+◌, ◌-◌, ◌<◌, ◌≤◌, ◌^◌, ◌++◌, length}
use Rattle.wasm_module_validator_type_groups.specs.adding.Interned.{ids_from}
use Rattle.wasm_module_validator_type_groups.proofs.adding.interning.add_type_ids.Given as goal

abbrev pub invariant-loop-number : goal.invariant-loop-number
invariant-loop-number g l =
    (g.M.InternRecGroup.ids l.fn.target ++ ids_from l.start (l.end - l.start) ≡ g.M.InternRecGroup.ids l.target ++ ids_from l.number (l.end - l.number))
    × (l.end - l.number ≤ g.M.InternRecGroup.room l.target)
    × (length (g.M.InternRecGroup.ids l.target) + (l.end - l.number) < 2 ^ 32)
    × (g.M.InternRecGroup.settings l.target ≡ g.M.InternRecGroup.settings l.fn.target)
