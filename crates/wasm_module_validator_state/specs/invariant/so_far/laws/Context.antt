-- The context of a module as far as it was read is that of the tree, but for the functions that code may refer to.
use Rattle.std.proofs.Common.{◌≡◌, ◌∙◌, ℕ, suc, List, [], ◌∷◌, map, ap, refl, if◌then◌else◌}
use Rattle.wasm_types.specs.trees.Trees.{TypeTree}
use Rattle.wasm_types.specs.trees.ValidGroup.{type_at}
use Rattle.wasm_module_validator_checks.specs.rules.Syntax.{ModuleTree}
use Rattle.wasm_module_validator_checks.specs.rules.Spaces.{FunctionEntry, exact_from, types_behind, module_of}
use Rattle.wasm_module_validator_type_storage.specs.trees.Groups.{Group}
use Rattle.wasm_module_validator_resources.specs.index_spaces.declared.module.Function.{Function}
use Rattle.wasm_module_validator_resources.specs.index_spaces.Spaces.{Spaces}
use Rattle.wasm_module_validator_resources.specs.Reading.{places, context_of}
use Rattle.wasm_module_validator_state.specs.invariant.so_far.SoFar.{entry_of, IsReadAs}

types_by_entries : (ts : List TypeTree) (fs : List Function) → map (λ (f : Function). type_at ts f.type_index) fs ≡ map (λ (e : FunctionEntry). type_at ts e.type) (map entry_of fs)
types_by_entries ts [] = refl
types_by_entries ts (f ∷ fs) = ap (λ us. type_at ts f.type_index ∷ us) (types_by_entries ts fs)

exact_by_entries : (n : ℕ) (fs : List Function) → places (λ (f : Function). f.is_exact) n fs ≡ exact_from n (map entry_of fs)
exact_by_entries n [] = refl
exact_by_entries n (f ∷ fs) = ap (λ xs. if f.is_exact then n ∷ xs else xs) (exact_by_entries (suc n) fs)

pub context_is : (groups : List Group) (s : Spaces) (m : ModuleTree) → IsReadAs groups s m
    → context_of groups s ≡ record (module_of m) { referenced = places (λ (f : Function). f.is_referenced) 0 s.functions }
context_is groups s m r =
    let functions : (context_of groups s).functions ≡ (module_of m).functions =
    ap (λ ts. map (λ (f : Function). type_at ts f.type_index) s.functions) r.types
    ∙ (types_by_entries (types_behind [] m.types) s.functions ∙ ap (map (λ (e : FunctionEntry). type_at (types_behind [] m.types) e.type)) r.functions) in
    let exact : (context_of groups s).exact_functions ≡ (module_of m).exact_functions = exact_by_entries 0 s.functions ∙ ap (exact_from 0) r.functions in
    λ i. record {
      types = r.types i;
      functions = functions i;
      tables = r.tables i;
      memories = r.memories i;
      globals = r.globals i;
      tags = r.tags i;
      elements = r.elements i;
      data_count = r.data_count i;
      referenced = places (λ (f : Function). f.is_referenced) 0 s.functions;
      exact_functions = exact i;
    }
