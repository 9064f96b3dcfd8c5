-- What a module that is being read means: the module of the rules, over the types that its ids stand for in a list of types
-- (WebAssembly 3.0, validation, conventions, contexts).
use Rattle.std.proofs.Common.{suc}
use Rattle.std.specs.Prelude.{ℕ, Bool, List, [], ◌∷◌, ◌++◌, length, map, None, if◌then◌else◌}
use Rattle.wasm_types.specs.trees.declared.index.CoreTypeId.{CoreTypeId}
use Rattle.wasm_types.specs.trees.Trees.{TypeTree}
use Rattle.wasm_types.specs.trees.ValidGroup.{type_at, types_from}
use Rattle.wasm_operator_validator_rules.specs.Context.{Module}
use Rattle.wasm_operator_validator_resources.specs.Meaning.{Meaning, table_in, global_in, reference_in}
use Rattle.wasm_module_validator_type_storage.specs.trees.Groups.{Group, tree_behind}
use Rattle.wasm_module_validator_type_groups.specs.adding.Interned.{space_of}
use Rattle.wasm_module_validator_index_spaces.specs.declared.module.Function.{Function}
use Rattle.wasm_module_validator_index_spaces.specs.Spaces.{Spaces}

-- the types of a list, in the order of their ids
unfoldable pub types_by_id : List Group → List TypeTree
types_by_id [] = []
types_by_id (g ∷ earlier) = types_by_id earlier ++ types_from (tree_behind earlier g) 0 (length g.types)

-- a module of which the types alone are known
abbrev pub with_types : List TypeTree → Module
with_types ts = record {
  types = ts;
  functions = [];
  tables = [];
  memories = [];
  globals = [];
  tags = [];
  elements = [];
  data_count = None;
  referenced = [];
  exact_functions = [];
}

-- what names of types mean in a module whose types have these ids
abbrev pub names_in : List Group → List CoreTypeId → Meaning
names_in groups ids = record { «module» = with_types (space_of groups ids); ids = types_by_id groups }

-- the places of the functions that are so, counted from this one on
abbrev pub places : (Function → Bool) → ℕ → List Function → List ℕ
places p i [] = []
places p i (f ∷ fs) = if p f then i ∷ places p (suc i) fs else places p (suc i) fs

-- the context that code is validated in: each index space over whole types
abbrev pub context_of : List Group → Spaces → Module
context_of groups m = record {
  types = space_of groups m.types;
  functions = map (λ (f : Function). type_at (space_of groups m.types) f.type_index) m.functions;
  tables = map (table_in (names_in groups m.types)) m.tables;
  memories = m.memories;
  globals = map (global_in (names_in groups m.types)) m.globals;
  tags = space_of groups m.tags;
  elements = map (reference_in (names_in groups m.types)) m.elements;
  data_count = m.data_count;
  referenced = places (λ (f : Function). f.is_referenced) 0 m.functions;
  exact_functions = places (λ (f : Function). f.is_exact) 0 m.functions;
}

-- what look-ups in the module mean
abbrev pub meaning_of : List Group → Spaces → Meaning
meaning_of groups m = record { «module» = context_of groups m; ids = types_by_id groups }
