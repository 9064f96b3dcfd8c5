-- The bytes of fields, signatures and indices (WebAssembly 3.0, binary format, types), as grammars over the values that contracts see.
use Rattle.std.specs.Prelude.{◌≡◌, ℕ, List, [], ◌∷◌, ◌++◌, Bool, true, false}
use Rattle.wasm_types_values.specs.decoding.Decoder.{Grammar}
use Rattle.wasm_types_values.specs.decoding.Lists.{IsListedWithin}
use Rattle.wasm_types_values.specs.settings.Settings.{Settings}
use Rattle.wasm_types_values.specs.types_trees.declared.index.UnpackedIndex.{UnpackedIndex}
use Rattle.wasm_types_values.specs.Spells.{SpellsExactIndex}
use Rattle.wasm_types_values.specs.Spelled.{SpelledValue, SpelledStorage}
use Rattle.wasm_types_fields.specs.declared.field.FieldType.{FieldType}
use Rattle.wasm_types_fields.specs.Signatures.{Signature}

-- standard: binary-mut: mut
-- whether a field may be written
abbrev pub IsMutability : Grammar Bool
IsMutability false text = text ≡ 0x00 ∷ []
IsMutability true text = text ≡ 0x01 ∷ []

-- st:storagetype mut:mut => mut st
pub record SpelledField (x : FieldType) (text : List ℕ) : Type 0 where
  pub storage : List ℕ
  pub mutability : List ℕ
  pub stored : SpelledStorage x.element_type storage
  pub writable : IsMutability x.mutable mutability
  pub whole : text ≡ storage ++ mutability

-- the fields of a struct, within their limit
abbrev pub SpelledFields : Settings → Grammar (List FieldType)
SpelledFields z = IsListedWithin z.limits.fields SpelledField

-- the parameters and the results of a function, each within their limit
pub record SpelledSignature (z : Settings) (f : Signature) (text : List ℕ) : Type 0 where
  pub params : List ℕ
  pub results : List ℕ
  pub taken : IsListedWithin z.limits.params SpelledValue f.params params
  pub given : IsListedWithin z.limits.results SpelledValue f.results results
  pub whole : text ≡ params ++ results

-- a type of the module by its index, which is below 2^20
abbrev pub SpelledIndex : Grammar UnpackedIndex
SpelledIndex = SpellsExactIndex
