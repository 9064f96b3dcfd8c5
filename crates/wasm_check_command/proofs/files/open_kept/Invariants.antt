use Rattle.std.proofs.Common.{◌≡◌, map, take}
use Rattle.wasm_check_command.specs.Files.{texts}
use Rattle.wasm_check_command.proofs.files.open_kept.Given as goal

-- the inputs so far have the names so far
abbrev pub invariant-loop-name : goal.invariant-loop-name
invariant-loop-name g l = map (λ i. i.name.now) l.inputs.items ≡ texts (take l.name-index l.names)
