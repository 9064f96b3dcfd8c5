-- Types that the bytes of a body spell, as codes and as the places of these codes (WebAssembly 3.0, binary format, types).
use Rattle.std.specs.Prelude.{◌≡◌, ◌+◌, ◌<◌, ℕ, Bool, true, false, IsTrue, List, [], ◌∷◌, Some}
use Rattle.wasm_types.specs.decoding.Numbers.{GivesAt}
use Rattle.wasm_types.specs.trees.Types.{Abstract, HeapOf, InnerOf, abstract, ref}
use Rattle.wasm_types.specs.trees.Trees.{TypeTree}
use Rattle.wasm_types.specs.trees.AbstractOrder.{top_of}
use Rattle.wasm_types.specs.trees.Below.{abstract_above, heap_is_shared}
use Rattle.wasm_types.specs.values.Decode.{heap_type}
use Rattle.wasm_types.specs.values.DecodeValues.{value_type}
use Rattle.wasm_types.specs.values.Trees.{abstract_of}
use Rattle.wasm_types.specs.values.Spelled.{Spelled}
use Rattle.wasm_types.specs.values.declared.heap.AbstractHeapType.{AbstractHeapType}
use Rattle.wasm_types.specs.values.declared.heap.HeapType.{HeapType}
use Rattle.wasm_types.specs.values.declared.heap.HeapType.TheVariants as heap
use Rattle.wasm_types.specs.values.declared.value.ValType.{ValType}
use Rattle.wasm_types.specs.values.declared.value.ValType.TheVariants as value
use Rattle.wasm_types.specs.settings.Settings.{Settings}
use Rattle.wasm_operators_immediates.specs.Blocks.{block_type}
use Rattle.wasm_operators_immediates.specs.declared.block.BlockType.{BlockType}
use Rattle.wasm_operator_validator_rules.specs.Context.{Context, Module, IsType, IsBlockType}
use Rattle.wasm_operator_validator_rules.specs.Aggregates.{heap_named, is_castable, is_cont, top_heap}
use Rattle.wasm_operator_validator_fast_tables.specs.declared.tables.Field.{Field}
use Rattle.wasm_operator_validator_fast_tables.specs.declared.tables.Defined.{Defined}
use Rattle.wasm_operator_validator_fast_tables.specs.declared.tables.Sig.{Sig}
use Rattle.wasm_operator_validator_fast_tables.specs.declared.tables.Tables.{Tables}
use Rattle.wasm_operator_validator_fast_tables.specs.Stacks.{part}
use Rattle.wasm_operator_validator_fast_tables.specs.Values.{type_of}
use Rattle.wasm_operator_validator_fast_tables.specs.Tables.{no_code, Allows, AllowsReferences, AllowsVectors, Fits, IsDefined, Knows, signature_in}

-- ---- heap types

-- this code stands for references to a heap type that may be null, the next one for the others, and the last for references to the top of
-- its hierarchy that may be null
pub record HasCodes (ids : List TypeTree) (heap : HeapOf TypeTree) (code top : ℕ) : Type 0 where
  pub nullable : type_of ids code ≡ ref true heap
  pub never_null : type_of ids (code + 1) ≡ ref false heap
  pub above : type_of ids top ≡ ref true (top_heap heap)

-- what a heap type means that a function writes that is not shared, and the codes of references to it
pub record IsHeap (ids : List TypeTree) (g : Context) (written : HeapType) (code top : ℕ) : Type 0 where
  pub heap : HeapOf TypeTree
  pub named : heap_named g written ≡ Some heap
  pub type : (n : Bool) → IsType g.bits g.«module» (value.Ref (record { nullable = n; heap = written })) (ref n heap)
  pub nullable : type_of ids code ≡ ref true heap
  pub never_null : type_of ids (code + 1) ≡ ref false heap
  pub castable : IsTrue (is_castable heap)
  pub unshared : heap_is_shared heap ≡ false
  pub above : type_of ids top ≡ ref true (top_heap heap)

-- a heap type stands from one offset to another
pub record IsHeapAt (text : List ℕ) (t : Tables) (i code top j : ℕ) : Type 0 where
  pub written : HeapType
  pub read : GivesAt heap_type text i written j
  pub means : (ids : List TypeTree) (z : Settings) (g : Context) → Fits ids z text t g → IsHeap ids g written code top

-- the same of any function of a module that tables know, by features that references ask
pub record MeansHeap (ids : List TypeTree) (bits : ℕ) (m : Module) (written : HeapType) (code top : ℕ) : Type 0 where
  pub heap : HeapOf TypeTree
  pub named : (g : Context) → g.«module» ≡ m → g.shared ≡ false → heap_named g written ≡ Some heap
  pub type : (n : Bool) → IsType bits m (value.Ref (record { nullable = n; heap = written })) (ref n heap)
  pub codes : HasCodes ids heap code top
  pub castable : IsTrue (is_castable heap)
  pub unshared : heap_is_shared heap ≡ false

-- both codes stand among the others, from this place on
pub record ArePlacedAt (flat : List ℕ) (place code : ℕ) : Type 0 where
  pub first : part place 1 flat ≡ code ∷ []
  pub second : part (place + 1) 1 flat ≡ (code + 1) ∷ []

-- a heap type stands from one offset to another, and its codes stand at this place
pub record IsPlacedHeapAt (text : List ℕ) (t : Tables) (i code top place j : ℕ) : Type 0 where
  pub written : HeapType
  pub read : GivesAt heap_type text i written j
  pub means : (ids : List TypeTree) (bits : ℕ) (m : Module) → Knows ids m t.known → AllowsReferences bits → MeansHeap ids bits m written code top
  pub placed : (ids : List TypeTree) (m : Module) → Knows ids m t.known → ArePlacedAt t.known.flat.items place code
  pub allowed : t.references ≡ true
  pub few : code < no_code
  pub near : place < no_code

-- a byte spells an abstract heap type with these codes, which stand for themselves
pub record IsAbstractByte (byte code top : ℕ) : Type 0 where
  pub type : AbstractHeapType
  pub spelled : Spelled (heap.Abstract false type) (byte ∷ [])
  pub low : code < 39
  pub codes : (ids : List TypeTree) → HasCodes ids (abstract false (abstract_of type)) code top
  pub castable : is_cont (top_of (abstract_of type)) ≡ false

-- the top of the hierarchy of what is defined so, and the code of references to it that may be null
pub record IsTopOf (d : Defined) (top : ℕ) : Type 0 where
  pub hierarchy : Abstract
  pub reference : (ids : List TypeTree) → type_of ids top ≡ ref true (abstract false hierarchy)
  pub castable : is_cont hierarchy ≡ false
  pub is : (ids : List TypeTree) (fields : List Field) (inner : InnerOf TypeTree) → IsDefined ids fields inner d → top_of (abstract_above inner) ≡ hierarchy

-- ---- value types

-- a value type stands from one offset to another, and its code stands at this place
pub record IsValueAt (text : List ℕ) (t : Tables) (i code place j : ℕ) : Type 0 where
  pub written : ValType
  pub read : GivesAt value_type text i written j
  pub means : (ids : List TypeTree) (bits : ℕ) (m : Module) → Knows ids m t.known → Allows bits → (t.references ≡ true → AllowsReferences bits)
      → (t.vectors ≡ true → AllowsVectors bits) → IsType bits m written (type_of ids code)
  pub placed : (ids : List TypeTree) (m : Module) → Knows ids m t.known → part place 1 t.known.flat.items ≡ code ∷ []

-- ---- block types

-- a block type stands from one offset to another, and it means this signature
abbrev pub IsBlockAt : List ℕ → Tables → ℕ → Sig → ℕ → Type 0
IsBlockAt text t i s j = (written : BlockType) × GivesAt block_type text i written j
    × ((ids : List TypeTree) (z : Settings) (g : Context) → Fits ids z text t g → IsBlockType g written (signature_in ids t.known.flat.items s))
