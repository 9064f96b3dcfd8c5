-- Tables of labels and of clauses, as plain trees.
use Rattle.std.specs.Prelude.{ℕ, List, Bool, ◌==◌}
use Rattle.std.specs.Cmp.Lexicographic.{pointwise}
use Rattle.std.specs.Ordering.{eq_of_both, on}
use Rattle.wasm_operators_immediates.specs.declared.block.BlockType.{BlockType}
use Rattle.wasm_operators_immediates.specs.declared.handlers.Catch.{Catch}
use Rattle.wasm_operators_immediates.specs.declared.handlers.TryTable.{TryTable}

-- the labels of br_table (WebAssembly 3.0, structure, control instructions)
pub record Labels : Type 0 where
  pub targets : List ℕ
  pub default : ℕ

-- the type and the clauses of try_table (WebAssembly 3.0, structure, control instructions)
pub record CatchTable : Type 0 where
  pub ty : BlockType
  pub catches : List Catch

-- the same default, and the same targets in order
abbrev pub same_labels : Labels → Labels → Bool
same_labels = eq_of_both (on (λ t. t.default) ◌==◌) (on (λ t. t.targets) (pointwise ◌==◌))

-- the tree of a table of clauses that the code holds
abbrev pub catch_table_of : TryTable → CatchTable
catch_table_of t = record { ty = t.ty; catches = t.catches.items }
