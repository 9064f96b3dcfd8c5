use Rattle.std.proofs.Common.{◌≡◌, ℕ, map, take, get_or, if◌then◌else◌}
use Rattle.wasm_operator_validator_locals.specs.inits.Inits.{is_among}
use Rattle.wasm_operator_validator_locals.specs.inits.Marks.{is_first, is_set}
use Rattle.wasm_operator_validator_locals.specs.declared.inits.Mark.TheVariants.{Unset}
use Rattle.wasm_operator_validator_locals.proofs.inits.mark_each.Given as goal

abbrev pub invariant-loop-local_index : goal.invariant-loop-local_index
invariant-loop-local_index l =
    (map is_first l.marks.items ≡ map is_first l.fn.marks.items)
    × ((k : ℕ) → is_set (get_or l.marks.items k Unset) ≡ (if is_among (take l.local_index-index l.locals) k then is_set l.mark else is_set (get_or l.fn.marks.items k Unset)))
