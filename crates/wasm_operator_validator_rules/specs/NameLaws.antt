-- What the names of operators say of the rules (WebAssembly 3.0, appendix, index of instructions).
use Rattle.std.specs.Prelude.{◌≡◌, ℕ, Bool, false, IsTrue, ◌||◌, List, [], ◌∷◌, codes, eqb, bytes_eq}
use Rattle.std.specs.List.{starts_with}
use Rattle.wasm_operators_enums.specs.Op.{Op}
use Rattle.wasm_operators_enums.specs.Table.{info_of}
use Rattle.wasm_operator_validator_rules.specs.Context.{Module}
use Rattle.wasm_operator_validator_rules.specs.Row.{names_float}
use Rattle.wasm_operator_validator_rules.specs.constants.Constants.{IsConstantOperator}

-- ---- floats

-- a name has this word in it
abbrev pub has_word : List ℕ → List ℕ → Bool
has_word word [] = false
has_word word (c ∷ cs) = starts_with eqb (c ∷ cs) word || has_word word cs

-- The rules tell by an operator's class whether it has a float in its name. The table of names says the same of each operator.
abbrev pub FloatsAreNamed : Type 0
FloatsAreNamed = (o : Op) → names_float o ≡ (has_word (codes "f32") (info_of o).name || has_word (codes "f64") (info_of o).name)

-- ---- constants

-- it is one of these names
abbrev pub is_name_in : List (List ℕ) → List ℕ → Bool
is_name_in [] name = false
is_name_in (n ∷ ns) name = bytes_eq n name || is_name_in ns name

abbrev pub constant_names : List (List ℕ)
constant_names =
    codes "i32.const" ∷ codes "i64.const" ∷ codes "f32.const" ∷ codes "f64.const" ∷ codes "v128.const" ∷ codes "ref.null" ∷ codes "ref.func"
    ∷ codes "global.get" ∷ codes "end" ∷ codes "i32.add" ∷ codes "i32.sub" ∷ codes "i32.mul" ∷ codes "i64.add" ∷ codes "i64.sub"
    ∷ codes "i64.mul" ∷ codes "struct.new" ∷ codes "struct.new_default" ∷ codes "struct.new_desc" ∷ codes "struct.new_default_desc"
    ∷ codes "array.new" ∷ codes "array.new_default" ∷ codes "array.new_fixed" ∷ codes "ref.i31" ∷ codes "any.convert_extern"
    ∷ codes "extern.convert_any" ∷ codes "ref.i31_shared" ∷ []

-- No operator of another name is constant, whatever the features and the module.
abbrev pub ConstantsAreNamed : Type 0
ConstantsAreNamed = (bits : ℕ) (g : Module) (imported : ℕ) (o : Op) → IsConstantOperator bits g imported o
    → IsTrue (is_name_in constant_names (info_of o).name)
