-- A heap type that the module writes, named by an id.
use Rattle.std.proofs.Common.{◌≡◌, ◌∙◌, List, ap, sym, arith}
use Rattle.wasm_types.specs.trees.declared.index.CoreTypeId.{CoreTypeId}
use Rattle.wasm_types.specs.trees.declared.index.UnpackedIndex.{UnpackedIndex}
use Rattle.wasm_types.specs.trees.declared.index.UnpackedIndex.TheVariants.{Id}
use Rattle.wasm_types.specs.trees.Types.{concrete, exact, heap_map}
use Rattle.wasm_types.specs.values.declared.heap.HeapType.{HeapType}
use Rattle.wasm_types.specs.values.declared.heap.HeapType.TheVariants.{Concrete, Exact}
use Rattle.wasm_types.specs.values.Trees.{heap_of}
use Rattle.wasm_operator_validator_rules.specs.Context.{written_type}
use Rattle.wasm_operator_validator_resources.specs.Answers.{IsNamed}
use Rattle.wasm_module_validator_type_storage.specs.trees.Groups.{Group}
use Rattle.wasm_module_validator_index_spaces.specs.Spaces.{Spaces}
use Rattle.wasm_module_validator_resources.specs.Reading.{context_of, meaning_of}
use Rattle.wasm_module_validator_resources.specs.Named.{IsIdOf}
use Rattle.wasm_module_validator_resources.specs.laws.Trees.{types_counted}

pub named_concrete : (groups : List Group) (m : Spaces) (h : HeapType) (i : UnpackedIndex) (id : CoreTypeId) → h ≡ Concrete i → IsIdOf groups m i id
    → IsNamed (meaning_of groups m) h (Concrete (Id id))
named_concrete groups m h i id e w =
    let long = types_counted groups in
    let known = w.known in
    record {
      same = ap concrete w.means ∙ ap (λ (x : HeapType). heap_map (written_type (context_of groups m)) (heap_of x)) (sym e);
      known = omega arith;
      fits = w.fits;
    }

pub named_exact : (groups : List Group) (m : Spaces) (h : HeapType) (i : UnpackedIndex) (id : CoreTypeId) → h ≡ Exact i → IsIdOf groups m i id
    → IsNamed (meaning_of groups m) h (Exact (Id id))
named_exact groups m h i id e w =
    let long = types_counted groups in
    let known = w.known in
    record {
      same = ap exact w.means ∙ ap (λ (x : HeapType). heap_map (written_type (context_of groups m)) (heap_of x)) (sym e);
      known = omega arith;
      fits = w.fits;
    }
