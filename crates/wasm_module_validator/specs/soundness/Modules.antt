-- A module as a program that runs (WebAssembly 3.0, execution, modules, instantiation): its own functions, and those that the host gives
-- for its imports.
use Rattle.std.specs.Prelude.{ℕ, List, [], ◌∷◌, ◌++◌, map, None, Some}
use Rattle.std.specs.List.{AllZip}
use Rattle.wasm_types.specs.settings.Settings.{Settings}
use Rattle.wasm_types.specs.trees.Trees.{TypeTree}
use Rattle.wasm_types.specs.trees.Below.{DeclaredBelow}
use Rattle.wasm_types.specs.trees.ValidGroup.{type_at}
use Rattle.wasm_module_validator_rules.specs.Syntax.{Function as Code, ModuleTree}
use Rattle.wasm_module_validator_rules.specs.Spaces.{FunctionEntry, function_of, imported, types_behind, module_of}
use Rattle.wasm_module_validator_rules.specs.Valid.{locals_in}
use Rattle.wasm_operator_validator_soundness.specs.runs.Values.{Function, Program, IsStandardType}

-- the types of the module, whole
abbrev pub types_in : ModuleTree → List TypeTree
types_in m = types_behind [] m.types

-- a function that the host gives, made with this type
abbrev pub host_function : TypeTree → Function
host_function t = record { type = t; body = None }

-- one of the module itself, by the index of its type
abbrev pub own_function : ModuleTree → ℕ → Code → Function
own_function m x f = record {
  type = type_at (types_in m) x;
  body = Some (record { locals = locals_in (types_in m) f.locals; code = f.body });
}

-- the module with the functions that the host gives for its imports, by the types that these were made with
abbrev pub own_functions : ModuleTree → List ℕ → List Code → List Function
own_functions m (x ∷ xs) (f ∷ fs) = own_function m x f ∷ own_functions m xs fs
own_functions m _ _ = []

abbrev pub program_of : Settings → ModuleTree → List TypeTree → Program
program_of z m hosts = record {
  bits = z.features;
  «module» = module_of m;
  functions = map host_function hosts ++ own_functions m m.functions m.code;
}

-- what the host gives for an import is of a standard type, that or below that by which it is imported
abbrev pub MayBeImported : ModuleTree → TypeTree → FunctionEntry → Type 0
MayBeImported m t f = IsStandardType t × DeclaredBelow t (type_at (types_in m) f.type)

-- a host for each function that is imported, by its type
abbrev pub AreHosts : ModuleTree → List TypeTree → Type 0
AreHosts m hosts = AllZip (MayBeImported m) hosts (imported function_of m)
