-- The parts of which proofs of valid modules are made.
use Rattle.std.specs.Prelude.{ℤ}
use Rattle.std.specs.Int.RustNames.{bit_and}
use Rattle.std.proofs.Common.{◌≡◌, ℕ, ◌+◌, ◌-◌, ◌^◌, ◌≤◌, Bool, true, List, [], ◌∷◌, length, Option, Some, false, refl, rules, slice_get, inl, inr}
use Rattle.wasm_types.specs.settings.Settings.{Settings}
use Rattle.wasm_types.specs.settings.Features.{BulkMemory, Gc, has}
use Rattle.wasm_types.specs.trees.Gates.{Has}
use Rattle.wasm_types.specs.trees.Types.{i32, i64, number, ref, abstract, concrete, func}
use Rattle.wasm_types.specs.trees.Trees.{TypeTree, opened}
use Rattle.wasm_types.specs.trees.AbstractOrder.{same}
use Rattle.wasm_types.specs.trees.Below.{Below, IsBelowAbstract, itself}
use Rattle.wasm_types.specs.trees.ValidGroup.{Written, AreValidGroups, types_from, done, next}
use Rattle.wasm_types.specs.values.declared.heap.AbstractHeapType.TheVariants as heap
use Rattle.wasm_types.specs.values.declared.heap.HeapType.TheVariants.{Abstract}
use Rattle.wasm_types.specs.values.declared.value.ValType.TheVariants as value
use Rattle.wasm_types.specs.externs.declared.memory.MemoryType.{MemoryType}
use Rattle.wasm_types.specs.externs.declared.tag.TagType.{TagType}
use Rattle.wasm_operators_immediates.specs.declared.frames.FrameKind.TheVariants.{Block}
use Rattle.wasm_operators_enums.specs.Op.{Op}
use Rattle.wasm_operators_encoding.specs.expressions.Code.{Code, plain}
use Rattle.wasm_operators_enums.specs.Roles.{role_of, effect}
use Rattle.wasm_operators_enums.specs.declared.role.Effect.TheVariants.{Stays}
use Rattle.wasm_operators_encoding.specs.Locals.{LocalGroup, total}
use Rattle.wasm_sections_items.specs.imports.Spells.{ImportTree, ExportTree}
use Rattle.wasm_sections_items.specs.segments.Spells.{GlobalTree, DataTree}
use Rattle.wasm_sections_items.specs.segments.Tables.{TableTree}
use Rattle.wasm_sections_items.specs.elements.Spells.{ElementTree}
use Rattle.wasm_operator_validator_rules.specs.Operands.{ValueType, known}
use Rattle.wasm_operator_validator_rules.specs.Context.{Module, Global, Context, Signature, Initialised, IsFunctionType, inside}
use Rattle.wasm_operator_validator_rules.specs.InstructionTypes.{◌⟶◌}
use Rattle.wasm_operator_validator_rules.specs.Row.{Row, IsOneOf, of_type}
use Rattle.wasm_operator_validator_rules.specs.Typed.{IsBody}
use Rattle.wasm_operator_validator_rules.specs.constants.Constants.{constant_context, IsConstant}
use Rattle.wasm_module_validator_rules.specs.Syntax.{Function, ModuleTree}
use Rattle.wasm_module_validator_rules.specs.Spaces.{types_behind, imported_globals, module_of}
use Rattle.wasm_module_validator_rules.specs.Valid.{Each, IfThere, HaveOwnNames, IsValidExport, IsValidData, body_context, IsValidValueType, IsFunctionIndex, IsValidGlobalType, IsValidTableType, IsValidMemoryType, IsValidTagType}
use Rattle.wasm_module_validator_rules.specs.Valid.{IsValidImport, IsValidTable, AreValidGlobals, IsValidElement, IsValidFunction, HasValidBody, IsWithinLimits, IsValid}
use Rattle.wasm_module_validator_rules.specs.worked.Trees.{everything, constant, long, sum, only, global_get, function_at, null_of, refers_to, constant_of, variable_of, table_with, some_function, funcref, externref}
use Rattle.wasm_module_validator_rules.specs.worked.Trees.{empty, end, procedure, null_table, does, of_types, of_memories, of_tags}
use Rattle.wasm_module_validator_rules.specs.worked.Modules.{exporting, with_globals}

-- ---- modules with items of one kind

pub types_hold : {z : Settings} {ws : List Written} → AreValidGroups z [] ws (types_behind [] ws) → IsWithinLimits z (module_of (of_types ws)) (of_types ws) → IsValid z (of_types ws)
types_hold types limits = record {
  types = types;
  imports = tt;
  functions = tt;
  tables = tt;
  memories = tt;
  tags = tt;
  globals = tt;
  exports = tt;
  names = tt;
  start = tt;
  element_segments = tt;
  data_count = tt;
  code = tt;
  data_segments = tt;
  limits = limits;
}

pub tables_hold : {z : Settings} {ts : List (TableTree Code)} → let m = record empty { tables = ts } in let g = module_of m in
    Each (IsValidTable z g 0) ts → IsWithinLimits z g m → IsValid z m
tables_hold tables limits = record {
  types = done;
  imports = tt;
  functions = tt;
  tables = tables;
  memories = tt;
  tags = tt;
  globals = tt;
  exports = tt;
  names = tt;
  start = tt;
  element_segments = tt;
  data_count = tt;
  code = tt;
  data_segments = tt;
  limits = limits;
}

pub memories_hold : {z : Settings} {ms : List MemoryType} → Each (IsValidMemoryType z) ms → IsWithinLimits z (module_of (of_memories ms)) (of_memories ms) → IsValid z (of_memories ms)
memories_hold memories limits = record {
  types = done;
  imports = tt;
  functions = tt;
  tables = tt;
  memories = memories;
  tags = tt;
  globals = tt;
  exports = tt;
  names = tt;
  start = tt;
  element_segments = tt;
  data_count = tt;
  code = tt;
  data_segments = tt;
  limits = limits;
}

pub tags_hold : {z : Settings} {ws : List Written} {ts : List TagType} → AreValidGroups z [] ws (types_behind [] ws)
    → Each (IsValidTagType z (module_of (of_tags ws ts))) ts → IsWithinLimits z (module_of (of_tags ws ts)) (of_tags ws ts) → IsValid z (of_tags ws ts)
tags_hold types tags limits = record {
  types = types;
  imports = tt;
  functions = tt;
  tables = tt;
  memories = tt;
  tags = tags;
  globals = tt;
  exports = tt;
  names = tt;
  start = tt;
  element_segments = tt;
  data_count = tt;
  code = tt;
  data_segments = tt;
  limits = limits;
}

pub imports_hold : {z : Settings} {ws : List Written} {is : List ImportTree} → let m = record empty { types = ws; imports = is } in let g = module_of m in
    AreValidGroups z [] ws (types_behind [] ws) → Each (λ (i : ImportTree). IsValidImport z g i.ty) is → IsWithinLimits z g m → IsValid z m
imports_hold types imported limits = record {
  types = types;
  imports = imported;
  functions = tt;
  tables = tt;
  memories = tt;
  tags = tt;
  globals = tt;
  exports = tt;
  names = tt;
  start = tt;
  element_segments = tt;
  data_count = tt;
  code = tt;
  data_segments = tt;
  limits = limits;
}

pub globals_hold : {z : Settings} {xs : List (GlobalTree Code)} → AreValidGlobals z (module_of (with_globals xs)) 0 0 xs
    → IsWithinLimits z (module_of (with_globals xs)) (with_globals xs) → IsValid z (with_globals xs)
globals_hold globals limits = record {
  types = done;
  imports = tt;
  functions = tt;
  tables = tt;
  memories = tt;
  tags = tt;
  globals = globals;
  exports = tt;
  names = tt;
  start = tt;
  element_segments = tt;
  data_count = tt;
  code = tt;
  data_segments = tt;
  limits = limits;
}

-- ---- modules without functions

abbrev items : List Written → List ImportTree → List (TableTree Code) → List MemoryType → List TagType → List (GlobalTree Code) → List ExportTree → ModuleTree
items ws is ts ms tags xs es = record empty { types = ws; imports = is; tables = ts; memories = ms; tags = tags; globals = xs; exports = es }

pub items_hold : {z : Settings} {ws : List Written} {is : List ImportTree} {ts : List (TableTree Code)} {ms : List MemoryType} {tags : List TagType} {xs : List (GlobalTree Code)}
    {es : List ExportTree} → let m = items ws is ts ms tags xs es in let g = module_of m in let n = imported_globals m in
    AreValidGroups z [] ws (types_behind [] ws) → Each (λ (i : ImportTree). IsValidImport z g i.ty) is → Each (IsValidTable z g n) ts → Each (IsValidMemoryType z) ms
    → Each (IsValidTagType z g) tags → AreValidGlobals z g n n xs → Each (λ (e : ExportTree). IsValidExport z g e.kind e.index) es → HaveOwnNames es
    → IsWithinLimits z g m → IsValid z m
items_hold types imports tables memories tags globals exports names limits = record {
  types = types;
  imports = imports;
  functions = tt;
  tables = tables;
  memories = memories;
  tags = tags;
  globals = globals;
  exports = exports;
  names = names;
  start = tt;
  element_segments = tt;
  data_count = tt;
  code = tt;
  data_segments = tt;
  limits = limits;
}

-- memories, and data segments that may be counted
abbrev pub data_in : List MemoryType → Option ℕ → List (DataTree Code) → ModuleTree
data_in ms n ds = record empty { memories = ms; data_count = n; data_segments = ds }

pub data_holds : {z : Settings} {ms : List MemoryType} {n : Option ℕ} {ds : List (DataTree Code)} → let m = data_in ms n ds in let g = module_of m in
    Each (IsValidMemoryType z) ms → IfThere (λ n. Has z.features BulkMemory) n → Each (λ (x : DataTree Code). IsValidData z g 0 x.mode) ds → IsWithinLimits z g m → IsValid z m
data_holds memories count segments limits = record {
  types = done;
  imports = tt;
  functions = tt;
  tables = tt;
  memories = memories;
  tags = tt;
  globals = tt;
  exports = tt;
  names = tt;
  start = tt;
  element_segments = tt;
  data_count = count;
  code = tt;
  data_segments = segments;
  limits = limits;
}

-- ---- modules with one function, of the first type

abbrev pub tree : List Written → List (TableTree Code) → List MemoryType → List (ElementTree Code) → Function → ModuleTree
tree ws ts ms es f = record empty { types = ws; functions = 0 ∷ []; tables = ts; memories = ms; element_segments = es; code = f ∷ [] }

pub tree_holds : {z : Settings} {ws : List Written} {ts : List (TableTree Code)} {ms : List MemoryType} {es : List (ElementTree Code)} {f : Function}
    → let m = tree ws ts ms es f in let g = module_of m in
    AreValidGroups z [] ws (types_behind [] ws) → IsFunctionIndex g 0 → Each (IsValidTable z g 0) ts → Each (IsValidMemoryType z) ms → Each (IsValidElement z g 0) es
    → HasValidBody z g 0 f → IsWithinLimits z g m → IsValid z m
tree_holds types function tables memories elements body limits = record {
  types = types;
  imports = tt;
  functions = (function, tt);
  tables = tables;
  memories = memories;
  tags = tt;
  globals = tt;
  exports = tt;
  names = tt;
  start = tt;
  element_segments = elements;
  data_count = tt;
  code = (body, tt);
  data_segments = tt;
  limits = limits;
}

pub function_is : {z : Settings} {g : Module} {t : TypeTree} {gs : List LocalGroup} {c : Code} {b : Signature} → IsFunctionType t b
    → Each (λ (l : LocalGroup). IsValidValueType z g l.type) gs → length b.params + total gs ≤ z.limits.locals → IsBody (body_context z g t b gs) (length b.params) c
    → IsValidFunction z g t (does gs c)
function_is {b = b} function locals within body = record { signature = b; function = function; locals = locals; within = within; body = body }

-- a procedure that does nothing, beside other items
pub procedure_with : {z : Settings} {ts : List (TableTree Code)} {ms : List MemoryType} {es : List (ElementTree Code)} → let m = tree (procedure ∷ []) ts ms es (does [] end) in
    let g = module_of m in Each (IsValidTable z g 0) ts → Each (IsValidMemoryType z) ms → Each (IsValidElement z g 0) es → IsWithinLimits z g m → IsValid z m
unfolding has opened types_from
procedure_with tables memories elements limits = tree_holds (next (search rules) done) (_, _, refl, refl) tables memories elements
    (_, refl, function_is refl tt (search rules) (record { expression = refl; typed = (tt, tt, tt) })) limits

-- the same, and exported
pub exporting_holds : {z : Settings} {es : List ExportTree} → Each (λ (e : ExportTree). IsValidExport z (module_of (exporting es)) e.kind e.index) es → HaveOwnNames es
    → IsWithinLimits z (module_of (exporting es)) (exporting es) → IsValid z (exporting es)
unfolding has opened types_from
exporting_holds exports names limits = record {
  types = next (search rules) done;
  imports = tt;
  functions = ((_, _, refl, refl), tt);
  tables = tt;
  memories = tt;
  tags = tt;
  globals = tt;
  exports = exports;
  names = names;
  start = tt;
  element_segments = tt;
  data_count = tt;
  code = ((_, refl, function_is refl tt (search rules) (record { expression = refl; typed = (tt, tt, tt) })), tt);
  data_segments = tt;
  limits = limits;
}

-- ---- types

-- tables that are null at first: of functions, whatever the features, and of external references
pub null_functions : (z : Settings) (g : Module) (n : ℕ) → n ≤ 2 ^ 32 - 1 → IsValidTable z g 0 (null_table (table_with funcref n))
null_functions z g n least = (record { element = inl refl; limits = record { least_within = least; most_within = tt; ordered = tt }; wide = search rules; shared = search rules }, refl)

pub externals : (g : Module) (n : ℕ) → n ≤ 2 ^ 32 - 1 → IsValidTableType everything g (table_with externref n)
unfolding has
externals g n least = record {
  element = inr (_, record { allowed = search rules; known = tt; is = refl });
  limits = record { least_within = least; most_within = tt; ordered = tt };
  wide = search rules;
  shared = search rules;
}

-- globals that need no feature, and a shared one
pub number_global : (z : Settings) (g : Module) → IsValidGlobalType z g (constant_of value.I32)
number_global z g = record { content = (_, record { allowed = tt; known = tt; is = refl }); shared = search rules }

pub long_global : (z : Settings) (g : Module) → IsValidGlobalType z g (constant_of value.I64)
long_global z g = record { content = (_, record { allowed = tt; known = tt; is = refl }); shared = search rules }

pub variable_global : (z : Settings) (g : Module) → IsValidGlobalType z g (variable_of value.I32)
variable_global z g = record { content = (_, record { allowed = tt; known = tt; is = refl }); shared = search rules }

pub shared_global : (g : Module) → IsValidGlobalType everything g (record (constant_of value.I32) { shared = true })
unfolding has
shared_global g = record { content = (_, record { allowed = tt; known = tt; is = refl }); shared = λ s. (refl, refl) }

pub some_functions : (g : Module) → IsValidTableType everything g (table_with some_function 0)
unfolding has
some_functions g = record {
  element = inr (_, record { allowed = search rules; known = tt; is = refl });
  limits = search rules;
  wide = search rules;
  shared = search rules;
}

-- ---- code

-- one operator that gives what the result is taken from
module _ (bits : ℕ) (g : Module) (t u : ValueType) (o : Op) where
  abbrev here : Context
  here = inside Block (t ∷ []) (constant_context bits g t)

  pub gives : effect (role_of o) Block ≡ Some Stays → ((set : Initialised) → Row here set o [] (known u ∷ [])) → Below u t → IsBody (constant_context bits g t) 0 (only o)
  gives stays row below = record {
    expression = (stays, refl);
    typed = (known u ∷ [], ([], known u ∷ [], [], row _, tt, refl), ((below, tt), tt, tt));
  }

pub gives_constant : (g : Module) (x : ℤ) → IsBody (constant_context 0xfff_ffff g (number i32)) 0 (only (constant x))
unfolding has
gives_constant g x = gives 0xfff_ffff g (number i32) (number i32) (constant x) refl (λ set. (search rules, (([] ⟶ number i32 ∷ []), refl, (refl, refl)))) refl

pub is_constant : (g : Module) (count : ℕ) (x : ℤ) → IsConstant 0xfff_ffff g count (number i32) (only (constant x))
is_constant g count x = record { operators = (tt, (tt, tt)); typed = gives_constant g x }

-- the same by any features, which is said of each set by computing
pub is_constant_by : (bits : ℕ) → bit_and bits 0 ≡ 0 → (g : Module) (count : ℕ) (x : ℤ) → IsConstant bits g count (number i32) (only (constant x))
is_constant_by bits no_more g count x = record {
  operators = (tt, (tt, tt));
  typed = gives bits g (number i32) (number i32) (constant x) refl (λ set. (record { proposal = no_more; floats = search rules }, (([] ⟶ number i32 ∷ []), refl, (refl, refl)))) refl;
}

pub is_long : (g : Module) (count : ℕ) (x : ℤ) → IsConstant 0xfff_ffff g count (number i64) (only (long x))
unfolding has
is_long g count x = record {
  operators = (tt, (tt, tt));
  typed = gives 0xfff_ffff g (number i64) (number i64) (long x) refl (λ set. (search rules, (([] ⟶ number i64 ∷ []), refl, (refl, refl)))) refl;
}

-- the first global, which is of 32 bits and never written
module _ (g : Module) (vs : List Global) where
  abbrev with_first : Module
  with_first = record g { globals = record { content = number i32; mutable = false; shared = false } ∷ vs }

  pub reads_first_by : (bits : ℕ) → bit_and bits 0 ≡ 0 → (count : ℕ) → (count ≤ 0 → Has bits Gc) → IsConstant bits with_first count (number i32) (only (global_get 0))
  reads_first_by bits no_more count own = record {
    operators = ((_, refl, refl, own), (tt, tt));
    typed = gives bits with_first (number i32) (number i32) (global_get 0) refl (λ set. (record { proposal = no_more; floats = search rules }, (([] ⟶ number i32 ∷ []), refl, (refl, refl)))) refl;
  }

  pub reads_first : (count : ℕ) → IsConstant 0xfff_ffff with_first count (number i32) (only (global_get 0))
  unfolding has
  reads_first count = reads_first_by 0xfff_ffff refl count (λ c. refl)

-- null references: to functions, shared or not, and to external values
module _ (g : Module) (count : ℕ) where
  pub is_no_function : IsConstant 0xfff_ffff g count (ref true (abstract false func)) (only (null_of (Abstract false heap.Func)))
  unfolding has
  is_no_function = record {
    operators = (tt, (tt, tt));
    typed = gives 0xfff_ffff g _ (ref true (abstract false func)) _ refl (λ set. (search rules, (_, record { allowed = search rules; known = tt; is = refl }, search rules, (refl, refl)))) (tt, (refl, same));
  }

  pub is_no_shared_function : IsConstant 0xfff_ffff g count (ref true (abstract true func)) (only (null_of (Abstract true heap.Func)))
  unfolding has
  is_no_shared_function = record {
    operators = (tt, (tt, tt));
    typed = gives 0xfff_ffff g _ (ref true (abstract true func)) _ refl (λ set. (search rules, (_, record { allowed = search rules; known = tt; is = refl }, search rules, (refl, refl)))) (tt, (refl, same));
  }

-- a sum of two constants
pub is_sum : (g : Module) (count : ℕ) (x : ℤ) → IsConstant 0xfff_ffff g count (number i32) (plain (constant x) (plain (constant x) (only sum)))
unfolding has
is_sum g count x = record {
  operators = (tt, (tt, (refl, (tt, tt))));
  typed = record {
    expression = (refl, (refl, (refl, refl)));
    typed = (
      known (number i32) ∷ [],
      ([], known (number i32) ∷ [], [], (search rules, (([] ⟶ number i32 ∷ []), refl, (refl, refl))), tt, refl),
      (
        known (number i32) ∷ known (number i32) ∷ [],
        ([], known (number i32) ∷ [], known (number i32) ∷ [], (search rules, (([] ⟶ number i32 ∷ []), refl, (refl, refl))), (refl, tt), refl),
        (
          known (number i32) ∷ [],
          (known (number i32) ∷ known (number i32) ∷ [], known (number i32) ∷ [], [], (search rules, (_, refl, (refl, refl))), (refl, (refl, tt)), refl),
          ((refl, tt), tt, tt),
        ),
      ),
    );
  };
}

-- ---- references to the first function

module _ (g : Module) (t : TypeTree) (first : slice_get g.functions 0 ≡ Some t) (named : IsOneOf 0 g.referenced) where
  pub refers : IsBody (body_context everything g t (record { params = []; results = [] }) []) 0 (refers_to 0)
  unfolding has
  refers = record {
    expression = (refl, (refl, refl));
    typed = (
      known (ref false (concrete t)) ∷ [],
      ([], known (ref false (concrete t)) ∷ [], [], (search rules, (t, concrete t, first, named, (λ s. s), of_type, (refl, refl))), tt, refl),
      ([], (known (ref false (concrete t)) ∷ [], [], [], (search rules, (_, refl, refl)), ((tt, itself), tt), refl), (tt, tt, tt)),
    );
  }

  -- as a reference that may be null or not
  pub is_function : (n : Bool) (count : ℕ) → IsBelowAbstract t false func → IsConstant 0xfff_ffff g count (ref n (abstract false func)) (only (function_at 0))
  unfolding has
  is_function n count below = record {
    operators = (tt, (tt, tt));
    typed = gives 0xfff_ffff g (ref n (abstract false func)) (ref false (concrete t)) (function_at 0) refl
        (λ set. (search rules, (t, concrete t, first, named, search rules, of_type, (refl, refl)))) (tt, below);
  }
