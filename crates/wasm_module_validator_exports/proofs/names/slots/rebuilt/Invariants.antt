use Rattle.std.proofs.Common.{take}
use Rattle.wasm_module_validator_exports.specs.names.Exports.{Holds, exports_of, names_of}
use Rattle.wasm_module_validator_exports.proofs.names.slots.rebuilt.Given as goal

-- the names so far are found
abbrev pub invariant-loop-i : goal.invariant-loop-i
invariant-loop-i l = Holds l.slots.items l.others (names_of (exports_of l.names (take l.i l.exports)))
