-- What operators on tables and element segments find in the bytes and in the tables of a module (WebAssembly 3.0, validation, table instructions).
use Rattle.std.specs.Prelude.{◌≡◌, ◌<◌, ℕ, true, List, slice_get, Some}
use Rattle.wasm_types.specs.decoding.Leb.{u32}
use Rattle.wasm_types.specs.decoding.Numbers.{GivesAt}
use Rattle.wasm_operator_validator_fast_tables.specs.declared.tables.Indexed.{Indexed}
use Rattle.wasm_operator_validator_fast_tables.specs.declared.tables.Tables.{Tables}
use Rattle.wasm_operator_validator_fast_tables.specs.Tables.{no_code}

-- the table at an index is this one, and a code stands for its references
pub record IsTableAt (t : Tables) (x : ℕ) (s : Indexed) : Type 0 where
  pub references : t.references ≡ true
  pub coded : s.ty < no_code
  pub at : slice_get t.known.tables.items x ≡ Some s

-- the element segment at an index is of references of this code
pub record IsElementAt (t : Tables) (x code : ℕ) : Type 0 where
  pub references : t.references ≡ true
  pub coded : code < no_code
  pub at : slice_get t.known.elements.items x ≡ Some code

-- ---- the same, as bytes name them from one offset to another

pub record NamesTable (text : List ℕ) (t : Tables) (i : ℕ) (s : Indexed) (e : ℕ) : Type 0 where
  pub index : ℕ
  pub read : GivesAt u32 text i index e
  pub is : IsTableAt t index s

pub record NamesElement (text : List ℕ) (t : Tables) (i code e : ℕ) : Type 0 where
  pub index : ℕ
  pub read : GivesAt u32 text i index e
  pub is : IsElementAt t index code
