-- How much a module has, as far as it was read; and sums of sizes over one section and the next.
use Rattle.std.proofs.Common.{◌≡◌, ◌∙◌, ◌↔◌, ◌+◌, ℕ, List, [], ◌∷◌, ◌++◌, length, sym, ap}
use Rattle.std.proofs.lemmas.List.{length-map}
use Rattle.std.specs.Prelude.{slice_get}
use Rattle.wasm_types.specs.trees.declared.index.CoreTypeId.{CoreTypeId}
use Rattle.wasm_sections_items.specs.declared.imports.kind.ExternalKind.{ExternalKind}
use Rattle.wasm_sections_items.specs.declared.imports.kind.ExternalKind.TheVariants as kind
use Rattle.wasm_sections_items.specs.declared.imports.type_ref.TypeRef.{TypeRef}
use Rattle.wasm_sections_items.specs.declared.imports.type_ref.TypeRef.TheVariants as import
use Rattle.wasm_operator_validator_rules.specs.Context.{Module}
use Rattle.wasm_module_validator_checks.specs.rules.Syntax.{ModuleTree}
use Rattle.wasm_module_validator_checks.specs.rules.Spaces.{module_of}
use Rattle.wasm_module_validator_checks.specs.rules.Valid.{SumsBelow, size_at, import_size, export_size}
use Rattle.wasm_module_validator_resources.specs.rules_in_order.contexts.Agreement.{AgreeOnTypes, AgreeForExports}
use Rattle.wasm_module_validator_type_storage.specs.trees.Groups.{Group, tree_of}
use Rattle.wasm_module_validator_resources.specs.index_spaces.Spaces.{Spaces}
use Rattle.wasm_module_validator_resources.specs.Reading.{context_of}
use Rattle.wasm_module_validator_state.specs.invariant.so_far.SoFar.{IsReadAs}
use Rattle.wasm_module_validator_state.specs.invariant.so_far.Counts.{AreCounted, sum_with}
use Rattle.wasm_module_validator_state.specs.invariant.so_far.laws.Context.{context_is}

-- ---- counts

counted_so_far : (groups : List Group) (s : Spaces) → AreCounted (context_of groups s) s
counted_so_far groups s = record {
  types = length-map s.types (λ (i : CoreTypeId). tree_of groups i.0);
  functions = length-map s.functions _;
  tables = length-map s.tables _;
  memories = λ i. length s.memories;
  globals = length-map s.globals _;
  tags = length-map s.tags (λ (i : CoreTypeId). tree_of groups i.0);
  elements = length-map s.elements _;
}

pub counts_are : (groups : List Group) (s : Spaces) (m : ModuleTree) → IsReadAs groups s m → AreCounted (module_of m) s
counts_are groups s m r =
    let c = counted_so_far groups s in
    let e = context_is groups s m r in
    record {
      types = ap (λ (g : Module). length g.types) (sym e) ∙ c.types;
      functions = ap (λ (g : Module). length g.functions) (sym e) ∙ c.functions;
      tables = ap (λ (g : Module). length g.tables) (sym e) ∙ c.tables;
      memories = ap (λ (g : Module). length g.memories) (sym e) ∙ c.memories;
      globals = ap (λ (g : Module). length g.globals) (sym e) ∙ c.globals;
      tags = ap (λ (g : Module). length g.tags) (sym e) ∙ c.tags;
      elements = ap (λ (g : Module). length g.elements) (sym e) ∙ c.elements;
    }

-- ---- sums

pub sums_are_split : (limit sum : ℕ) (ns more : List ℕ) → SumsBelow limit sum (ns ++ more) ↔ (SumsBelow limit sum ns × SumsBelow limit (sum_with sum ns) more)
sums_are_split limit sum [] more = (λ h. (tt, h), λ h. h.1)
sums_are_split limit sum (n ∷ ns) more =
    let rest = sums_are_split limit (sum + n) ns more in
    (λ h. ((h.0, (rest.0 h.1).0), (rest.0 h.1).1), λ h. (h.0.0, rest.1 (h.0.1, h.1)))

-- ---- sizes

pub import_size_is : (g h : Module) → AgreeOnTypes g h → (t : TypeRef) → import_size g t ≡ import_size h t
import_size_is g h e (import.Func x) = ap (λ ts. size_at (slice_get ts x)) e.types
import_size_is g h e (import.FuncExact x) = ap (λ ts. size_at (slice_get ts x)) e.types
import_size_is g h e (import.Tag t) = ap (λ ts. size_at (slice_get ts t.func_type_idx)) e.types
import_size_is g h e (import.Table t) = λ i. 1
import_size_is g h e (import.Memory t) = λ i. 1
import_size_is g h e (import.Global t) = λ i. 1

pub export_size_is : (g h : Module) → AgreeForExports g h → (k : ExternalKind) (x : ℕ) → export_size g k x ≡ export_size h k x
export_size_is g h e kind.Func x = ap (λ ts. size_at (slice_get ts x)) e.functions
export_size_is g h e kind.FuncExact x = ap (λ ts. size_at (slice_get ts x)) e.functions
export_size_is g h e kind.Tag x = ap (λ ts. size_at (slice_get ts x)) e.tags
export_size_is g h e kind.Table x = λ i. 1
export_size_is g h e kind.Memory x = λ i. 1
export_size_is g h e kind.Global x = λ i. 1
