use Rattle.std.proofs.Common.{◌≡◌, ◌==◌}
use Rattle.std.specs.Cmp.Lexicographic.{pointwise}
use Rattle.wasm_operators_immediates.proofs.br_table.are_same.Given as goal

-- what is left decides as all did
abbrev pub invariant-loop-target : goal.invariant-loop-target
invariant-loop-target l =
    record {
      callable : (goal.iterator-loop-target).can_next l.targets;
      finite : (goal.iterator-loop-target).is_finite l.targets;
      same : pointwise ◌==◌ l.targets l.others ≡ pointwise ◌==◌ l.fn.targets l.fn.others;
    }
