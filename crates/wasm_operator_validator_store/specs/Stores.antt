-- What a run keeps (WebAssembly 3.0, execution, runtime structure, store), for one instance: whatever can be read again. Numbers in it have their
-- bits, references their addresses, memories and data segments their bytes.
use Rattle.std.specs.Prelude.{ℕ, ℤ, pos, negsuc, zero, suc, ◌+◌, ◌-◌, ◌*◌, ◌/◌, ◌%◌, ◌^◌, min, Bool, true, false, IsTrue, not, ◌==◌, List, [], ◌∷◌, ◌++◌, map, get_or, length, replicate, slice_get, slice_set, Option, Some, None, option_map, nat_lt, if◌then◌else◌}
use Rattle.wasm_types.specs.trees.Types.{none, Number, i32, i64, f32, f64, v128, StorageOf, FieldOf, InnerOf, array_of, struct_of}
use Rattle.wasm_types.specs.trees.Trees.{TypeTree}
use Rattle.wasm_types.specs.externs.declared.memory.MemoryType.{MemoryType}
use Rattle.wasm_operator_validator_rules.specs.Operands.{ValueType}
use Rattle.wasm_operator_validator_rules.specs.Context.{Table, Global}
use Rattle.wasm_operator_validator_soundness.specs.runs.Values.{Value, number_value, ref_null, ref_object, ref_i31, default_of}
use Rattle.wasm_operator_validator_soundness.specs.runs.Machine.{operands_of, packed_in}

-- a struct or an array: the type that it was made with, and its fields or its elements
pub record ObjectInstance : Type 0 where
  pub type : TypeTree
  pub fields : List Value

-- an exception: the address of its tag, and its values, the last first
pub record ExceptionInstance : Type 0 where
  pub tag : ℕ
  pub values : List Value

-- a global, and a table: the type that it was made with, and what it holds
pub record GlobalInstance : Type 0 where
  pub type : Global
  pub value : Value

pub record TableInstance : Type 0 where
  pub type : Table
  pub elements : List Value

-- a memory: the type that it was made with, and its bytes
pub record MemoryInstance : Type 0 where
  pub type : MemoryType
  pub bytes : List ℕ

-- The addresses of the module's globals, tables, memories and tags, by their indices. Two imports of one global have one address.
pub record Addresses : Type 0 where
  pub globals : List ℕ
  pub tables : List ℕ
  pub memories : List ℕ
  pub tags : List ℕ

-- Globals, tables, memories, objects, exceptions, the types of tags, and what external references were made of, by their addresses; the
-- module's element segments and the bytes of its data segments, which no other module sees, by their indices; and its addresses.
pub record Store : Type 0 where
  pub globals : List GlobalInstance
  pub tables : List TableInstance
  pub memories : List MemoryInstance
  pub segments : List (List Value)
  pub data_segments : List (List ℕ)
  pub objects : List ObjectInstance
  pub exceptions : List ExceptionInstance
  pub tags : List TypeTree
  pub externs : List Value
  pub addresses : Addresses

-- ---- lists

-- so many from a place on, if they are there
abbrev pub front : {A : Type 0} → ℕ → List A → Option (List A)
front zero xs = Some []
front (suc n) [] = None
front (suc n) (x ∷ xs) = option_map (λ ys. x ∷ ys) (front n xs)

abbrev pub range : {A : Type 0} → List A → ℕ → ℕ → Option (List A)
range xs zero n = front n xs
range [] (suc i) n = None
range (x ∷ xs) (suc i) n = range xs i n

-- these in the place of as many from a place on, if those are there
abbrev pub over : {A : Type 0} → List A → List A → Option (List A)
over [] xs = Some xs
over (y ∷ ys) [] = None
over (y ∷ ys) (x ∷ xs) = option_map (λ zs. y ∷ zs) (over ys xs)

abbrev pub placed : {A : Type 0} → List A → ℕ → List A → Option (List A)
placed xs zero ys = over ys xs
placed [] (suc i) ys = None
placed (x ∷ xs) (suc i) ys = option_map (λ zs. x ∷ zs) (placed xs i ys)

-- with the one at a place changed, if it is there
abbrev pub changed : {A : Type 0} → (A → A) → List A → ℕ → List A
changed f [] i = []
changed f (x ∷ xs) zero = f x ∷ xs
changed f (x ∷ xs) (suc i) = x ∷ changed f xs i

-- ---- numbers

abbrev pub nothing : Value
nothing = ref_null false none

-- how many bits a number or a vector of a type has; and a number of so many bits
abbrev pub width : Number → ℕ
width i32 = 32
width i64 = 64
width f32 = 32
width f64 = 64
width v128 = 128

abbrev pub IsWithin : Value → Type 0
IsWithin (number_value n b) = IsTrue (nat_lt b (2 ^ width n))
IsWithin v = ⊥

-- the bits of a number or of an unboxed scalar, as an unsigned number
abbrev pub bits_of : Value → ℕ
bits_of (number_value n b) = b
bits_of (ref_i31 b) = b
bits_of v = 0

abbrev pub is_true : Value → Bool
is_true v = not (bits_of v == 0)

abbrev pub truth : Bool → ℕ
truth true = 1
truth false = 0

-- the bits of an integer of so many bits
abbrev pub integer_bits : ℕ → ℤ → ℕ
integer_bits n (pos k) = k % 2 ^ n
integer_bits n (negsuc k) = 2 ^ n - suc (k % 2 ^ n)

-- so many low bits, as an i32 without a sign or with one
abbrev pub extended : Bool → ℕ → ℕ → ℕ
extended false n b = b % 2 ^ n
extended true n b = if nat_lt (b % 2 ^ n) (2 ^ (n - 1)) then b % 2 ^ n else (b % 2 ^ n) + (2 ^ 32 - 2 ^ n)

-- what a read gives of what is stored: a packed one is extended
abbrev pub unpacked_from : Option ℕ → Bool → Value → Value
unpacked_from None signed v = v
unpacked_from (Some n) signed v = number_value i32 (extended signed n (bits_of v))

abbrev pub unpacked : Bool → StorageOf TypeTree → Value → Value
unpacked signed s v = unpacked_from (packed_in s) signed v

-- a length or a failure, as an index of a table of 64 bits or of 32
abbrev pub sized : Bool → ℕ → Value
sized true n = number_value i64 n
sized false n = number_value i32 n

abbrev pub failure : Bool → Value
failure true = number_value i64 (2 ^ 64 - 1)
failure false = number_value i32 (2 ^ 32 - 1)

-- ---- sizes of memories (execution, runtime structure, memory instances; the proposal on custom page sizes)

-- the bytes of a page
abbrev pub page_size : Option ℕ → ℕ
page_size None = 2 ^ 16
page_size (Some n) = 2 ^ n

abbrev pub page_of : MemoryType → ℕ
page_of t = page_size t.page_size_log2

abbrev pub at_most : Option ℕ → ℕ → ℕ
at_most None n = n
at_most (Some m) n = min m n

-- How many pages of a size have addresses of 64 bits or of 32. Of pages of one byte a memory of 64 bits has one less, so that their count is a
-- number of 64 bits (validation, memory types).
abbrev pub addressed_pages : Bool → ℕ → ℕ
addressed_pages true page = min (2 ^ 64 / page) (2 ^ 64 - 1)
addressed_pages false page = 2 ^ 32 / page

-- the most pages of a memory: as many as its type says, and as have addresses
abbrev pub most_pages : MemoryType → ℕ
most_pages t = at_most t.maximum (addressed_pages t.memory64 (page_of t))

-- How many elements a table may grow to, and how many pages a memory: so many that their count is a number of 64 bits or of 32.
abbrev pub most_counted : Bool → ℕ
most_counted true = 2 ^ 64 - 1
most_counted false = 2 ^ 32 - 1

-- the most pages that a memory grows to
abbrev pub most_grown : MemoryType → ℕ
most_grown t = min (most_pages t) (most_counted t.memory64)

-- ---- references

-- whether two references are one (execution, reference instructions, `ref.eq`)
abbrev pub same : Value → Value → Bool
same (ref_null s h) (ref_null r k) = true
same (ref_object k t) (ref_object l u) = k == l
same (ref_i31 b) (ref_i31 c) = b == c
same v w = false

-- the fields of a new object of which none is given, if all of them have a default
abbrev pub or_nothing : Option Value → Value
or_nothing None = nothing
or_nothing (Some v) = v

abbrev pub defaults : List (FieldOf TypeTree) → List Value
defaults fs = map (λ (t : ValueType). or_nothing (default_of t)) (operands_of fs)

-- a field of a struct by its number, and any element of an array
abbrev pub field_at : InnerOf TypeTree → ℕ → Option (FieldOf TypeTree)
field_at (struct_of []) i = None
field_at (struct_of (f ∷ fs)) zero = Some f
field_at (struct_of (f ∷ fs)) (suc i) = field_at (struct_of fs) i
field_at (array_of f) i = Some f
field_at _ i = None

-- ---- what is there, and with something else in its place

abbrev pub value_held : Option GlobalInstance → Value
value_held None = nothing
value_held (Some g) = g.value

abbrev pub elements_held : Option TableInstance → List Value
elements_held None = []
elements_held (Some t) = t.elements

abbrev pub bytes_held : Option MemoryInstance → List ℕ
bytes_held None = []
bytes_held (Some m) = m.bytes

-- the size in pages
abbrev pub pages_held : Option MemoryInstance → ℕ
pages_held None = 0
pages_held (Some m) = length m.bytes / page_of m.type

-- what it holds with so many pages more, which hold zeros, if it may have as many (execution, modules, growing memories)
abbrev pub grown : Option MemoryInstance → ℕ → Option (List ℕ)
grown None n = None
grown (Some m) n = if nat_lt (most_grown m.type) (pages_held (Some m) + n) then None
    else Some (m.bytes ++ replicate (n * page_of m.type) 0)

abbrev pub with_value : Value → GlobalInstance → GlobalInstance
with_value v g = record g { value = v }

abbrev pub with_elements : List Value → TableInstance → TableInstance
with_elements vs t = record t { elements = vs }

abbrev pub with_bytes : List ℕ → MemoryInstance → MemoryInstance
with_bytes bs m = record m { bytes = bs }

module _ (s : Store) where
  -- the address of a global, of a table and of a memory of the module, or one at which there is none
  abbrev pub global_address : ℕ → ℕ
  global_address x = get_or s.addresses.globals x (length s.globals)

  abbrev pub table_address : ℕ → ℕ
  table_address x = get_or s.addresses.tables x (length s.tables)

  abbrev pub memory_address : ℕ → ℕ
  memory_address x = get_or s.addresses.memories x (length s.memories)

  abbrev pub global_in : ℕ → Value
  global_in x = value_held (slice_get s.globals (global_address x))

  abbrev pub table_in : ℕ → List Value
  table_in x = elements_held (slice_get s.tables (table_address x))

  abbrev pub memory_at : ℕ → Option MemoryInstance
  memory_at x = slice_get s.memories (memory_address x)

  abbrev pub memory_in : ℕ → List ℕ
  memory_in x = bytes_held (memory_at x)

  abbrev pub segment_in : ℕ → List Value
  segment_in e = get_or s.segments e []

  abbrev pub data_in : ℕ → List ℕ
  data_in d = get_or s.data_segments d []

  abbrev pub with_global : ℕ → Value → Store
  with_global x v = record s { globals = changed (with_value v) s.globals (global_address x) }

  abbrev pub with_table : ℕ → List Value → Store
  with_table x vs = record s { tables = changed (with_elements vs) s.tables (table_address x) }

  abbrev pub with_memory : ℕ → List ℕ → Store
  with_memory x bs = record s { memories = changed (with_bytes bs) s.memories (memory_address x) }

  abbrev pub without_data : ℕ → Store
  without_data d = record s { data_segments = slice_set s.data_segments d [] }

  abbrev pub without_segment : ℕ → Store
  without_segment e = record s { segments = slice_set s.segments e [] }

  abbrev pub with_object : ObjectInstance → Store
  with_object o = record s { objects = s.objects ++ o ∷ [] }

  abbrev pub with_fields : ℕ → ObjectInstance → List Value → Store
  with_fields k o vs = record s { objects = slice_set s.objects k (record o { fields = vs }) }

  abbrev pub with_exception : ExceptionInstance → Store
  with_exception x = record s { exceptions = s.exceptions ++ x ∷ [] }

  abbrev pub with_extern : Value → Store
  with_extern v = record s { externs = s.externs ++ v ∷ [] }
