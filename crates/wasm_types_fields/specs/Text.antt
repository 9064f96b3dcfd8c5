-- How fields, functions and continuations are written, in the words of the text format.
use Rattle.std.specs.Prelude.{ℕ, List, [], ◌∷◌, ◌++◌, codes, if◌then◌else◌}
use Rattle.std.specs.List.{flat_map}
use Rattle.wasm_types_values.specs.types_trees.Text.{index_text}
use Rattle.wasm_types_values.specs.declared.value.ValType.{ValType}
use Rattle.wasm_types_values.specs.ValueText.{value_text, storage_text}
use Rattle.wasm_types_fields.specs.declared.field.FieldType.{FieldType}
use Rattle.wasm_types_fields.specs.declared.field.ArrayType.{ArrayType}
use Rattle.wasm_types_fields.specs.declared.cont.ContType.{ContType}

-- a field, mutable or not
abbrev pub field_text : FieldType → List ℕ
field_text x = if x.mutable then codes "(mut " ++ storage_text x.element_type ++ codes ")" else storage_text x.element_type

-- an array by its element
abbrev pub array_text : ArrayType → List ℕ
array_text a = codes "(array " ++ field_text a.0 ++ codes ")"

-- one field of a struct
abbrev pub member_text : FieldType → List ℕ
member_text x = codes " " ++ field_text x

-- the struct of these fields
abbrev pub struct_text : List FieldType → List ℕ
struct_text xs = codes "(struct" ++ flat_map member_text xs ++ codes ")"

-- one type behind a word
abbrev pub spaced_text : ValType → List ℕ
spaced_text v = codes " " ++ value_text v

-- a word and the types behind it; nothing where there is none
abbrev pub types_text : List ℕ → List ValType → List ℕ
types_text word [] = []
types_text word (v ∷ vs) = codes " (" ++ word ++ flat_map spaced_text (v ∷ vs) ++ codes ")"

-- the function of these parameters and results
abbrev pub func_text : List ValType → List ValType → List ℕ
func_text params results = codes "(func" ++ types_text (codes "param") params ++ types_text (codes "result") results ++ codes ")"

-- a continuation by the index of its function type
abbrev pub cont_text : ContType → List ℕ
cont_text c = codes "(cont " ++ index_text c.0 ++ codes ")"
