-- The first store of a program (WebAssembly 3.0, execution, modules, allocation and instantiation): what the host gives for imports, new
-- addresses for what is the program's own, what constants come to, one after the other, and active segments of elements and of bytes, which
-- are written.
use Rattle.std.specs.Prelude.{◌≡◌, ◌≤◌, ℕ, ◌*◌, zero, suc, List, [], ◌∷◌, ◌++◌, length, map, take, drop, replicate, Option, Some, None, slice_get, slice_set}
use Rattle.wasm_types.specs.trees.Trees.{TypeTree}
use Rattle.wasm_types.specs.trees.Below.{Below}
use Rattle.wasm_types.specs.externs.declared.memory.MemoryType.{MemoryType}
use Rattle.wasm_operators_encoding.specs.expressions.Code.{Code}
use Rattle.wasm_operator_validator_rules.specs.Operands.{ValueType}
use Rattle.wasm_operator_validator_rules.specs.Context.{Table, Global}
use Rattle.wasm_operator_validator_rules.specs.Typed.{IsBody}
use Rattle.wasm_operator_validator_rules.specs.constants.Constants.{constant_context}
use Rattle.wasm_operator_validator_soundness.specs.runs.Values.{Function, Program, Value, ref_function, Fits, default_of}
use Rattle.wasm_operator_validator_soundness.specs.runs.Machine.{address}
use Rattle.wasm_operator_validator_soundness.specs.runs.Soundness.{IsValidProgram}
use Rattle.wasm_operator_validator_store.specs.Stores.{GlobalInstance, TableInstance, MemoryInstance, Store, bits_of, placed, page_of, most_pages, table_in, memory_in, segment_in, data_in, with_table, with_memory, without_segment, without_data}
use Rattle.wasm_operator_validator_store.specs.ValidStores.{Each, StoreFits}
use Rattle.wasm_operator_validator_store.specs.Soundness.{Evaluates}

-- ---- constants

-- a program as a constant sees it: with these globals, and with functions that are referred to alone
abbrev pub without_body : Function → Function
without_body f = record { type = f.type; body = None }

abbrev pub seen_with : Program → List Global → Program
seen_with p globals = record {
  bits = p.bits;
  «module» = record p.«module» { globals = globals };
  functions = map without_body p.functions;
}

-- a constant of this type, over these globals
abbrev pub IsConstant : Program → List Global → ValueType → Code → Type 0
IsConstant p globals t c = IsBody (constant_context p.bits (seen_with p globals).«module» t) 0 c

-- ---- what a program has of its own

-- what a table holds at first: so many times the value of a constant, or the default of its type
pub record Filling : Type 0 where
  pub size : ℕ
  pub constant : Option Code

-- an element of a segment: a reference to a function, or the value of a constant
pub data Item : Type 0 where
  function_item : ℕ → Item
  constant_item : Code → Item

-- What becomes of a segment at first: it is kept, or dropped, or it is written to a table from an offset on, and dropped.
pub data Use : Type 0 where
  kept : Use
  dropped : Use
  written : ℕ → Code → Use

pub record Segment : Type 0 where
  pub items : List Item
  pub first_use : Use

-- A data segment: its bytes, and what becomes of it at first, where it is written to a memory.
pub record DataSegment : Type 0 where
  pub bytes : List ℕ
  pub first_use : Use

-- The program's own globals, by their constants, its own tables, and its element segments and data segments, each in order; and how many
-- globals, tables, memories and tags are imported.
pub record Initials : Type 0 where
  pub imported_globals : ℕ
  pub imported_tables : ℕ
  pub imported_memories : ℕ
  pub imported_tags : ℕ
  pub globals : List Code
  pub tables : List Filling
  pub segments : List Segment
  pub data_segments : List DataSegment

-- ---- each of its type

module _ (p : Program) where
  -- each constant for a global sees those before it, from this index on
  abbrev pub GlobalsAreTyped : ℕ → List Code → Type 0
  GlobalsAreTyped n [] = length p.«module».globals ≡ n
  GlobalsAreTyped n (c ∷ cs) = (g : Global) × (slice_get p.«module».globals n ≡ Some g)
      × IsConstant p (take n p.«module».globals) g.content c × GlobalsAreTyped (suc n) cs

  -- a constant for a table sees so many globals, and a default fits
  abbrev pub IsFilling : ℕ → ValueType → Option Code → Type 0
  IsFilling n t None = (v : Value) × (default_of t ≡ Some v) × Fits p v t
  IsFilling n t (Some c) = IsConstant p (take n p.«module».globals) t c

  abbrev pub TablesAreTyped : ℕ → ℕ → List Filling → Type 0
  TablesAreTyped n x [] = length p.«module».tables ≡ x
  TablesAreTyped n x (f ∷ fs) = (t : Table) × (slice_get p.«module».tables x ≡ Some t) × IsFilling n t.element f.constant
      × TablesAreTyped n (suc x) fs

  abbrev pub IsItem : ValueType → Item → Type 0
  IsItem t (function_item x) = (f : Function) × (slice_get p.functions x ≡ Some f) × Fits p (ref_function (Some x) f.type) t
  IsItem t (constant_item c) = IsConstant p p.«module».globals t c

  -- elements are written to a table of their type, from an offset on that is an address of it
  abbrev pub IsUse : ValueType → Use → Type 0
  IsUse t kept = Unit {0}
  IsUse t dropped = Unit {0}
  IsUse t (written x c) = (q : Table) × (slice_get p.«module».tables x ≡ Some q) × Below t q.element
      × IsConstant p p.«module».globals (address q.table64) c

  abbrev pub SegmentsAreTyped : ℕ → List Segment → Type 0
  SegmentsAreTyped e [] = length p.«module».elements ≡ e
  SegmentsAreTyped e (x ∷ xs) = (t : ValueType) × (slice_get p.«module».elements e ≡ Some t) × Each (IsItem t) x.items
      × IsUse t x.first_use × SegmentsAreTyped (suc e) xs

  -- bytes are written to a memory, from an offset on that is an address of it
  abbrev pub IsDataUse : Use → Type 0
  IsDataUse kept = Unit {0}
  IsDataUse dropped = Unit {0}
  IsDataUse (written x c) = (q : MemoryType) × (slice_get p.«module».memories x ≡ Some q)
      × IsConstant p p.«module».globals (address q.memory64) c

  abbrev pub IsDataSegment : DataSegment → Type 0
  IsDataSegment x = IsDataUse x.first_use

  -- a memory may have as many pages as its type says at first
  abbrev pub IsSizedMemory : MemoryType → Type 0
  IsSizedMemory t = t.initial ≤ most_pages t

  -- one for each global and each table that is not imported, and for each segment
  pub record AreInitials (i : Initials) : Type 0 where
    pub globals : GlobalsAreTyped i.imported_globals i.globals
    pub tables : TablesAreTyped i.imported_globals i.imported_tables i.tables
    pub memories : Each IsSizedMemory (drop i.imported_memories p.«module».memories)
    pub segments : SegmentsAreTyped 0 i.segments
    pub data_segments : Each IsDataSegment i.data_segments

-- ---- allocation

-- so many addresses, from one on
abbrev pub addresses_from : ℕ → ℕ → List ℕ
addresses_from k zero = []
addresses_from k (suc n) = k ∷ addresses_from (suc k) n

abbrev pub empty_table : Table → TableInstance
empty_table t = record { type = t; elements = [] }

-- a memory holds zeros
abbrev pub zero_memory : MemoryType → MemoryInstance
zero_memory t = record { type = t; bytes = replicate (t.initial * page_of t) 0 }

module _ (p : Program) (i : Initials) where
  -- the program as the host sees it: with its imports alone
  abbrev pub imports_of : Program
  imports_of = record {
    bits = p.bits;
    «module» = record p.«module» {
      globals = take i.imported_globals p.«module».globals;
      tables = take i.imported_tables p.«module».tables;
      memories = take i.imported_memories p.«module».memories;
      tags = take i.imported_tags p.«module».tags;
      elements = [];
    };
    functions = map without_body p.functions;
  }

  abbrev pub own_tables : List Table
  own_tables = drop i.imported_tables p.«module».tables

  abbrev pub own_memories : List MemoryType
  own_memories = drop i.imported_memories p.«module».memories

  abbrev pub own_tags : List TypeTree
  own_tags = drop i.imported_tags p.«module».tags

  -- The program's own tags, tables and memories are made, at addresses at which there was none, and all its segments. So far tables and
  -- element segments are empty.
  abbrev pub allocated : Store → Store
  allocated s = record s {
    tables = s.tables ++ map empty_table own_tables;
    memories = s.memories ++ map zero_memory own_memories;
    segments = map (λ t. []) p.«module».elements;
    data_segments = map (λ (x : DataSegment). x.bytes) i.data_segments;
    tags = s.tags ++ own_tags;
    addresses = record s.addresses {
      tables = s.addresses.tables ++ addresses_from (length s.tables) (length own_tables);
      memories = s.addresses.memories ++ addresses_from (length s.memories) (length own_memories);
      tags = s.addresses.tags ++ addresses_from (length s.tags) (length own_tags);
    };
  }

-- another global, at a new address
abbrev pub with_new_global : Store → GlobalInstance → Store
with_new_global s g = record s {
  globals = s.globals ++ g ∷ [];
  addresses = record s.addresses { globals = s.addresses.globals ++ length s.globals ∷ [] };
}

-- the module sees the globals at these addresses
abbrev pub seeing_globals : Store → List ℕ → Store
seeing_globals s ks = record s { addresses = record s.addresses { globals = ks } }

abbrev pub with_segment : Store → ℕ → List Value → Store
with_segment s e vs = record s { segments = slice_set s.segments e vs }

module _ (p : Program) where
  -- with all its globals
  abbrev pub all_seen : Program
  all_seen = seen_with p p.«module».globals

  -- ---- globals, each of which sees those before it

  abbrev pub GlobalsBecome : ℕ → List Code → Store → Store → Type 0
  GlobalsBecome n [] s u = s ≡ u
  GlobalsBecome n (c ∷ cs) s u = (g : Global) × (v : Value) × (w : Store) × (slice_get p.«module».globals n ≡ Some g)
      × Evaluates (seen_with p (take n p.«module».globals)) g.content c s v w
      × GlobalsBecome (suc n) cs (with_new_global w (record { type = g; value = v })) u

  -- ---- tables, whose constants see so many globals

  -- The constant runs over a store in which the module sees those alone, and it sees all again afterwards.
  abbrev pub Fills : ℕ → ValueType → Option Code → Store → Value → Store → Type 0
  Fills n t None s v u = (default_of t ≡ Some v) × (s ≡ u)
  Fills n t (Some c) s v u = (w : Store)
      × Evaluates (seen_with p (take n p.«module».globals)) t c (seeing_globals s (take n s.addresses.globals)) v w
      × (seeing_globals w s.addresses.globals ≡ u)

  abbrev pub TablesBecome : ℕ → ℕ → List Filling → Store → Store → Type 0
  TablesBecome n x [] s u = s ≡ u
  TablesBecome n x (f ∷ fs) s u = (t : Table) × (v : Value) × (w : Store) × (slice_get p.«module».tables x ≡ Some t)
      × Fills n t.element f.constant s v w
      × TablesBecome n (suc x) fs (with_table w x (replicate f.size v)) u

  -- ---- element segments, whose constants see all globals

  abbrev pub ItemBecomes : ValueType → Item → Store → Value → Store → Type 0
  ItemBecomes t (function_item x) s v u = (f : Function) × (slice_get p.functions x ≡ Some f)
      × (v ≡ ref_function (Some x) f.type) × (s ≡ u)
  ItemBecomes t (constant_item c) s v u = Evaluates all_seen t c s v u

  abbrev pub ItemsBecome : ValueType → List Item → Store → List Value → Store → Type 0
  ItemsBecome t [] s vs u = (vs ≡ []) × (s ≡ u)
  ItemsBecome t (i ∷ is) s vs u = (v : Value) × (ws : List Value) × (w : Store) × ItemBecomes t i s v w
      × ItemsBecome t is w ws u × (vs ≡ v ∷ ws)

  abbrev pub SegmentsBecome : ℕ → List Segment → Store → Store → Type 0
  SegmentsBecome e [] s u = s ≡ u
  SegmentsBecome e (x ∷ xs) s u = (t : ValueType) × (vs : List Value) × (w : Store)
      × (slice_get p.«module».elements e ≡ Some t) × ItemsBecome t x.items s vs w
      × SegmentsBecome (suc e) xs (with_segment w e vs) u

  -- ---- active segments, one after the other; one that does not fit into its table traps, and then there is no first store

  abbrev pub IsUsed : ℕ → Use → Store → Store → Type 0
  IsUsed e kept s u = s ≡ u
  IsUsed e dropped s u = without_segment s e ≡ u
  IsUsed e (written x c) s u = (t : Table) × (v : Value) × (w : Store) × (vs : List Value)
      × (slice_get p.«module».tables x ≡ Some t) × Evaluates all_seen (address t.table64) c s v w
      × (placed (table_in w x) (bits_of v) (segment_in w e) ≡ Some vs) × (without_segment (with_table w x vs) e ≡ u)

  abbrev pub AreUsed : ℕ → List Segment → Store → Store → Type 0
  AreUsed e [] s u = s ≡ u
  AreUsed e (x ∷ xs) s u = (w : Store) × IsUsed e x.first_use s w × AreUsed (suc e) xs w u

  -- ---- active data segments, after these

  abbrev pub IsDataUsed : ℕ → Use → Store → Store → Type 0
  IsDataUsed d kept s u = s ≡ u
  IsDataUsed d dropped s u = without_data s d ≡ u
  IsDataUsed d (written x c) s u = (t : MemoryType) × (v : Value) × (w : Store) × (bs : List ℕ)
      × (slice_get p.«module».memories x ≡ Some t) × Evaluates all_seen (address t.memory64) c s v w
      × (placed (memory_in w x) (bits_of v) (data_in w d) ≡ Some bs) × (without_data (with_memory w x bs) d ≡ u)

  abbrev pub DataAreUsed : ℕ → List DataSegment → Store → Store → Type 0
  DataAreUsed d [] s u = s ≡ u
  DataAreUsed d (x ∷ xs) s u = (w : Store) × IsDataUsed d x.first_use s w × DataAreUsed (suc d) xs w u

  -- ---- all of them, from what the host gives: a store in which the imports have addresses

  pub record IsFirstStore (i : Initials) (host u : Store) : Type 0 where
    pub with_globals : Store
    pub with_tables : Store
    pub with_segments : Store
    pub with_elements : Store
    pub globals : GlobalsBecome i.imported_globals i.globals (allocated p i host) with_globals
    pub tables : TablesBecome i.imported_globals i.imported_tables i.tables with_globals with_tables
    pub segments : SegmentsBecome 0 i.segments with_tables with_segments
    pub used : AreUsed 0 i.segments with_segments with_elements
    pub data_used : DataAreUsed 0 i.data_segments with_elements u

-- In the first store all fits, if it does in what the host gives.
abbrev pub FirstStoresFit : Type 0
FirstStoresFit = (p : Program) (i : Initials) (host u : Store) → IsValidProgram p → AreInitials p i
    → StoreFits (imports_of p i) host → IsFirstStore p i host u → StoreFits p u
