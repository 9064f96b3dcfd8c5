-- Branches on casts, as they are spelled (WebAssembly 3.0, binary format, control instructions).
use Rattle.std.specs.Prelude.{◌≡◌, ℕ, IsTrue, List, Some}
use Rattle.wasm_types.specs.decoding.Numbers.{GivesAt}
use Rattle.wasm_types.specs.settings.Settings.{Settings}
use Rattle.wasm_types.specs.trees.Types.{HeapOf, ref}
use Rattle.wasm_types.specs.trees.Trees.{TypeTree}
use Rattle.wasm_types.specs.values.Reference.{Reference}
use Rattle.wasm_operators_encoding.specs.immediates.Casts.{branch, cast_branch}
use Rattle.wasm_operator_validator_rules.specs.Context.{Context}
use Rattle.wasm_operator_validator_rules.specs.Aggregates.{heap_named, is_castable}
use Rattle.wasm_operator_validator_rules.specs.Objects.{difference}
use Rattle.wasm_operator_validator_fast_tables.specs.declared.tables.Tables.{Tables}
use Rattle.wasm_operator_validator_fast_tables.specs.Values.{type_of}
use Rattle.wasm_operator_validator_fast_tables.specs.Tables.{Fits}
use Rattle.wasm_operator_validator_fast_objects.specs.declared.casts.Cast.{Cast}

-- the types that a branch names, and the codes of references to them: what is cast, to what, and what is left if the cast fails
pub record IsCastIn (ids : List TypeTree) (g : Context) (before after : Reference) (c : Cast) : Type 0 where
  pub from_heap : HeapOf TypeTree
  pub to_heap : HeapOf TypeTree
  pub from_named : heap_named g before.heap ≡ Some from_heap
  pub to_named : heap_named g after.heap ≡ Some to_heap
  pub from_castable : IsTrue (is_castable from_heap)
  pub to_castable : IsTrue (is_castable to_heap)
  pub from_is : type_of ids c.from ≡ ref before.nullable from_heap
  pub to_is : type_of ids c.to ≡ ref after.nullable to_heap
  pub rest_is : type_of ids c.rest ≡ difference before after from_heap

-- the immediates of a branch on a cast stand from an offset on
pub record IsBranchAt (text : List ℕ) (t : Tables) (i : ℕ) (c : Cast) : Type 0 where
  pub before : Reference
  pub after : Reference
  pub read : GivesAt cast_branch text i (branch c.depth before after) c.end
  pub means : (ids : List TypeTree) (z : Settings) (g : Context) → Fits ids z text t g → IsCastIn ids g before after c
