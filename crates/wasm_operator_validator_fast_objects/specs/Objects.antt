-- What operators on structures and arrays find in the bytes and in the tables (WebAssembly 3.0, validation, aggregate instructions).
use Rattle.std.specs.Prelude.{◌≡◌, ◌<◌, ℕ, true, List, [], ◌∷◌, map, take, drop, slice_get, Some}
use Rattle.wasm_types.specs.decoding.Leb.{u32}
use Rattle.wasm_types.specs.decoding.Numbers.{GivesAt}
use Rattle.wasm_operator_validator_fast_tables.specs.declared.tables.Field.{Field}
use Rattle.wasm_operator_validator_fast_tables.specs.declared.tables.Defined.TheVariants as defined
use Rattle.wasm_operator_validator_fast_tables.specs.declared.tables.Tables.{Tables}
use Rattle.wasm_operator_validator_fast_tables.specs.Tables.{no_code, HasDefault}

-- ---- types by their indices

-- the type at an index is a structure of these fields, and a code stands for references to it that may be null
pub record IsStructAt (t : Tables) (y code : ℕ) (fields : List Field) : Type 0 where
  pub references : t.references ≡ true
  pub coded : code < no_code
  pub from : ℕ
  pub count : ℕ
  pub at : slice_get t.known.named.items y ≡ Some (record { code = code; defined = defined.Struct from count })
  pub lie : fields ≡ take count (drop from t.known.fields.items)

-- the type at an index is an array of this element
pub record IsArrayAt (t : Tables) (y code : ℕ) (element : Field) : Type 0 where
  pub references : t.references ≡ true
  pub coded : code < no_code
  pub at : slice_get t.known.named.items y ≡ Some (record { code = code; defined = defined.Array element })

-- ---- the same, as bytes name them from one offset to another

pub record NamesStruct (text : List ℕ) (t : Tables) (i code : ℕ) (fields : List Field) (e : ℕ) : Type 0 where
  pub type : ℕ
  pub read : GivesAt u32 text i type e
  pub is : IsStructAt t type code fields

-- a structure, and one of its fields
pub record NamesField (text : List ℕ) (t : Tables) (i code : ℕ) (field : Field) (e : ℕ) : Type 0 where
  pub middle : ℕ
  pub fields : List Field
  pub struct : NamesStruct text t i code fields middle
  pub place : ℕ
  pub read : GivesAt u32 text middle place e
  pub at : slice_get fields place ≡ Some field

pub record NamesArray (text : List ℕ) (t : Tables) (i code : ℕ) (element : Field) (e : ℕ) : Type 0 where
  pub type : ℕ
  pub read : GivesAt u32 text i type e
  pub is : IsArrayAt t type code element

-- ---- fields

-- the codes of what the fields of a structure are made of
abbrev pub codes_of : List Field → List ℕ
codes_of fs = map (λ f. f.code) fs

abbrev pub HaveDefaults : List Field → Type 0
HaveDefaults [] = Unit {0}
HaveDefaults (f ∷ fs) = HasDefault f.code × HaveDefaults fs
