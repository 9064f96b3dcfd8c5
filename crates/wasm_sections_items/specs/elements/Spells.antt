-- The bytes of element segments (WebAssembly 3.0, binary format, element section), whatever constant expressions are: C is their
-- trees, and g says which bytes spell one.
use Rattle.std.specs.Prelude.{◌≡◌, ℕ, zero, suc, ◌+◌, List, [], ◌∷◌, ◌++◌, Option, Some, None, true, false}
use Rattle.wasm_types.specs.decoding.Decoder.{Grammar}
use Rattle.wasm_types.specs.decoding.Leb.{IsUnsigned, IsListed}
use Rattle.wasm_types.specs.values.declared.heap.AbstractHeapType.TheVariants as heap
use Rattle.wasm_types.specs.values.declared.heap.HeapType.TheVariants.{Abstract}
use Rattle.wasm_types.specs.values.Reference.{Reference}
use Rattle.wasm_types.specs.values.Spelled.{SpelledReference}

-- How an element segment is used: by instructions alone; copied at first into a table at an offset, into table 0 where none is
-- named; or only to declare the functions that bodies refer to.
pub data ElementMode (C : Type 0) : Type 0 where
  passive : ElementMode C
  active : Option ℕ → C → ElementMode C
  declared : ElementMode C

-- its elements: references to functions, by their indices, or of a type, by constant expressions
pub data ElementItems (C : Type 0) : Type 0 where
  functions : List ℕ → ElementItems C
  expressions : Reference → List C → ElementItems C

-- an element segment
pub record ElementTree (C : Type 0) : Type 0 where
  pub mode : ElementMode C
  pub items : ElementItems C

-- funcref, the type where none is written
abbrev pub any_function : Reference
any_function = record { nullable = true; heap = Abstract false heap.Func }

-- standard: binary-elemsec: elem: the flags for its mode
-- the two low bits of a flag: bit 0 where it is not active; bit 1 where a table is named, or where it is declared
abbrev pub use_bits : {C : Type 0} → ElementMode C → ℕ
use_bits (active None x) = 0
use_bits passive = 1
use_bits (active (Some t) x) = 2
use_bits declared = 3

-- standard: binary-elemsec: elem: the flag for expressions
-- bit 2: where elements are expressions
abbrev pub kind_bits : {C : Type 0} → ElementItems C → ℕ
kind_bits (functions ys) = 0
kind_bits (expressions r xs) = 4

-- standard: part of SpelledMode
-- x:tableidx e:expr
pub record IsPlaced {C : Type 0} (g : Grammar C) (table : ℕ) (offset : C) (text : List ℕ) : Type 0 where
  pub table_text : List ℕ
  pub offset_text : List ℕ
  pub named : IsUnsigned 32 table table_text
  pub placed : g offset offset_text
  pub whole : text ≡ table_text ++ offset_text

-- standard: binary-elemsec: elem: its table and offset
-- where it goes: an offset, or a table and an offset, where it is active
abbrev pub SpelledMode : {C : Type 0} → Grammar C → ElementMode C → List ℕ → Type 0
SpelledMode g passive text = text ≡ []
SpelledMode g (active None x) text = g x text
SpelledMode g (active (Some t) x) text = IsPlaced g t x text
SpelledMode g declared text = text ≡ []

-- standard: binary-elemsec: elemkind
-- elemkind ::= 0x00, references to functions; it is not written behind flag 0
abbrev pub SpelledKind : ℕ → List ℕ → Type 0
SpelledKind zero text = text ≡ []
SpelledKind (suc n) text = text ≡ 0x00 ∷ []

-- standard: binary-elemsec: elem: its type
-- the type of the elements; it is not written behind flag 4
abbrev pub SpelledType : ℕ → Reference → List ℕ → Type 0
SpelledType zero r text = (r ≡ any_function) × (text ≡ [])
SpelledType (suc n) r text = SpelledReference r text

-- standard: binary-elemsec: elem: its items
-- the kind or the type, and the elements
abbrev pub SpelledItems : {C : Type 0} → Grammar C → ℕ → ElementItems C → List ℕ → Type 0
SpelledItems g n (functions ys) text = (kind : List ℕ) × (items : List ℕ) × SpelledKind n kind × IsListed (IsUnsigned 32) ys items
    × (text ≡ kind ++ items)
SpelledItems g n (expressions r xs) text = (type_text : List ℕ) × (items : List ℕ) × SpelledType n r type_text × IsListed g xs items
    × (text ≡ type_text ++ items)

-- standard: binary-elemsec: elem
-- elem ::= 0:u32 e:expr y*:list(funcidx)               => references to y*, active in table 0 at e
--       |  1:u32 elemkind y*:list(funcidx)             => references to y*, passive
--       |  2:u32 x:tableidx e:expr elemkind y*:list(funcidx) => references to y*, active in table x at e
--       |  3:u32 elemkind y*:list(funcidx)             => references to y*, declared
--       |  4:u32 e:expr e*:list(expr)                  => e* of type funcref, active in table 0 at e
--       |  5:u32 rt:reftype e*:list(expr)              => e* of type rt, passive
--       |  6:u32 x:tableidx e:expr rt:reftype e*:list(expr) => e* of type rt, active in table x at e
--       |  7:u32 rt:reftype e*:list(expr)              => e* of type rt, declared
pub record SpelledElement {C : Type 0} (g : Grammar C) (x : ElementTree C) (text : List ℕ) : Type 0 where
  pub flag_text : List ℕ
  pub mode_text : List ℕ
  pub items_text : List ℕ
  pub flagged : IsUnsigned 32 (use_bits x.mode + kind_bits x.items) flag_text
  pub used : SpelledMode g x.mode mode_text
  pub filled : SpelledItems g (use_bits x.mode) x.items items_text
  pub whole : text ≡ flag_text ++ (mode_text ++ items_text)

-- the bytes of a segment, if there is one
abbrev pub SpelledSegment : {C : Type 0} → Grammar C → Option (ElementTree C) → List ℕ → Type 0
SpelledSegment g (Some x) text = SpelledElement g x text
SpelledSegment g None text = ⊥
