-- How types are written, in the words of the text format.
use Rattle.std.specs.Prelude.{ℕ, List, ◌++◌, codes, Bool, true, false}
use Rattle.wasm_types_trees.specs.Text.{index_text}
use Rattle.wasm_types_values.specs.declared.heap.AbstractHeapType.{AbstractHeapType}
use Rattle.wasm_types_values.specs.declared.heap.AbstractHeapType.TheVariants as heap
use Rattle.wasm_types_values.specs.declared.heap.HeapType.{HeapType}
use Rattle.wasm_types_values.specs.declared.heap.HeapType.TheVariants.{Abstract, Concrete, Exact}
use Rattle.wasm_types_values.specs.Reference.{Reference}

-- the name of an abstract type (text format, types, heap types)
abbrev pub name_text : AbstractHeapType → List ℕ
name_text heap.Func = codes "func"
name_text heap.Extern = codes "extern"
name_text heap.Any = codes "any"
name_text heap.None = codes "none"
name_text heap.NoExtern = codes "noextern"
name_text heap.NoFunc = codes "nofunc"
name_text heap.Eq = codes "eq"
name_text heap.Struct = codes "struct"
name_text heap.Array = codes "array"
name_text heap.I31 = codes "i31"
name_text heap.Exn = codes "exn"
name_text heap.NoExn = codes "noexn"
name_text heap.Cont = codes "cont"
name_text heap.NoCont = codes "nocont"

-- the short words, of references that may be null
abbrev pub short_text : AbstractHeapType → List ℕ
short_text heap.Func = codes "funcref"
short_text heap.Extern = codes "externref"
short_text heap.Any = codes "anyref"
short_text heap.None = codes "nullref"
short_text heap.NoExtern = codes "nullexternref"
short_text heap.NoFunc = codes "nullfuncref"
short_text heap.Eq = codes "eqref"
short_text heap.Struct = codes "structref"
short_text heap.Array = codes "arrayref"
short_text heap.I31 = codes "i31ref"
short_text heap.Exn = codes "exnref"
short_text heap.NoExn = codes "nullexnref"
short_text heap.Cont = codes "contref"
short_text heap.NoCont = codes "nullcontref"

-- a reference to it that may not be null
abbrev pub non_null_text : AbstractHeapType → List ℕ
non_null_text ty = codes "(ref " ++ name_text ty ++ codes ")"

-- the same of a shared type
abbrev pub shared_text : AbstractHeapType → List ℕ
shared_text ty = codes "(ref (shared " ++ name_text ty ++ codes "))"

-- a nullable reference to a shared type
abbrev pub shared_null_text : AbstractHeapType → List ℕ
shared_null_text ty = codes "(ref null (shared " ++ name_text ty ++ codes "))"

-- nullable (true) or not, shared (true) or not
abbrev pub abstract_text : Bool → Bool → AbstractHeapType → List ℕ
abstract_text true false ty = short_text ty
abstract_text false false ty = non_null_text ty
abstract_text true true ty = shared_null_text ty
abstract_text false true ty = shared_text ty

-- a reference to this word, and exactly to it
abbrev pub to_text : Bool → List ℕ → List ℕ
to_text true word = codes "(ref null " ++ word ++ codes ")"
to_text false word = codes "(ref " ++ word ++ codes ")"

-- the same of an exact type, nullable (true) or not
abbrev pub exact_text : Bool → List ℕ → List ℕ
exact_text true word = codes "(ref null (exact " ++ word ++ codes "))"
exact_text false word = codes "(ref (exact " ++ word ++ codes "))"

-- with the same word for each index
abbrev pub wat_of : Bool → HeapType → List ℕ
wat_of nullable (Abstract shared ty) = abstract_text nullable shared ty
wat_of nullable (Concrete i) = to_text nullable (codes "$type")
wat_of nullable (Exact i) = exact_text nullable (codes "$type")

-- a reference with the same word for each index
abbrev pub wat_text : Reference → List ℕ
wat_text r = wat_of r.nullable r.heap

-- with each index
abbrev pub text_of : Bool → HeapType → List ℕ
text_of nullable (Abstract shared ty) = abstract_text nullable shared ty
text_of nullable (Concrete i) = to_text nullable (index_text i)
text_of nullable (Exact i) = exact_text nullable (index_text i)

-- a reference with its index, as `Display` writes it
abbrev pub reference_text : Reference → List ℕ
reference_text r = text_of r.nullable r.heap
