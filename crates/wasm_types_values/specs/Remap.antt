-- Rules: types whose indices a function replaces. A type is its shape, which is all but its indices, and its indices in order.
use Rattle.std.specs.Prelude.{◌≡◌, List, [], ◌∷◌, ◌++◌, Result, Ok, Err, MatchResult}
use Rattle.std.specs.List.{AllZip}
use Rattle.wasm_types_trees.specs.Types as tree
use Rattle.wasm_types_trees.specs.Types.{HeapOf, ValueOf, StorageOf, value_map, storage_map}

-- each index stands as an answer to it
abbrev pub AreAnswered : {R E : Type 0} → (R → Result R E → Type 0) → List R → List R → Type 0
AreAnswered answers before after = AllZip (λ i j. answers i (Ok j)) before after

-- one of the indices is refused with e: those before it stand as answers to them, it and those behind it as they were
pub record IsCutShort {R E : Type 0} (answers : R → Result R E → Type 0) (e : E) (before after : List R) : Type 0 where
  pub done : List R
  pub replaced : List R
  pub refused : R
  pub rest : List R
  pub answered : AreAnswered answers done replaced
  pub refusal : answers refused (Err e)
  pub old : before ≡ done ++ refused ∷ rest
  pub new : after ≡ replaced ++ refused ∷ rest

-- all are answered, or one is refused
abbrev pub IsWalked : {R E U : Type 0} → (R → Result R E → Type 0) → Result U E → List R → List R → Type 0
IsWalked answers result before after = MatchResult result (λ u. AreAnswered answers before after) (λ e. IsCutShort answers e before after)

-- the shape stays, and the indices are answered in order, up to the first that is refused
pub record Remapped {T S R E U : Type 0} (shape : T → S) (indices : T → List R) (answers : R → Result R E → Type 0) (result : Result U E)
    (before after : T) : Type 0 where
  pub same : shape after ≡ shape before
  pub walked : IsWalked answers result (indices before) (indices after)

-- ---- the indices of types, in order

-- of a heap type: one at most
abbrev pub heap_indices : {R : Type 0} → HeapOf R → List R
heap_indices (tree.abstract s a) = []
heap_indices (tree.concrete i) = i ∷ []
heap_indices (tree.exact i) = i ∷ []

-- of a value type
abbrev pub value_indices : {R : Type 0} → ValueOf R → List R
value_indices (tree.number n) = []
value_indices (tree.ref b h) = heap_indices h

-- of a storage type
abbrev pub storage_indices : {R : Type 0} → StorageOf R → List R
storage_indices tree.i8 = []
storage_indices tree.i16 = []
storage_indices (tree.value v) = value_indices v

-- ---- their shapes

-- a value type with nothing where an index stands
abbrev pub value_shape : {R : Type 0} → ValueOf R → ValueOf (Unit {0})
value_shape = value_map (λ i. tt)

-- a storage type with nothing where an index stands
abbrev pub storage_shape : {R : Type 0} → StorageOf R → StorageOf (Unit {0})
storage_shape = storage_map (λ i. tt)
