-- Worked element segments, where an expression is a byte.
use Rattle.std.proofs.Common.{◌≡◌, [], ◌∷◌, refl, true, false, Some, None}
use Rattle.wasm_types.specs.decoding.declared.Refusal.TheVariants.{Other}
use Rattle.wasm_types.specs.decoding.Decoder.{Done, Short, Fault, byte, repeated}
use Rattle.wasm_types.specs.decoding.Leb.{unsigned, listed}
use Rattle.wasm_types.specs.values.declared.heap.AbstractHeapType.TheVariants as heap
use Rattle.wasm_types.specs.values.declared.heap.HeapType.TheVariants.{Abstract}
use Rattle.wasm_types.specs.values.Reference.{Reference}
use Rattle.wasm_types.specs.values.Decode.{reference, reference_after, reference_type}
use Rattle.wasm_types.specs.values.WorkedTypeLaws.{start_of, behind}
use Rattle.wasm_sections_items.specs.elements.Spells.{passive, active, declared, functions, expressions, any_function}
use Rattle.wasm_sections_items.specs.elements.Decode.{element_of, mode_by, kind_by, type_by, functions_by, expressions_by, element}

abbrev any_extern : Reference
any_extern = reference true (Abstract false heap.Extern)

-- each flag; a padded one; a flag that there is not, one of two bytes, another kind, a type that is none, elements cut short
pub record ElementRows : Type 0 where
  pub zero : element byte (start_of (0x00 ∷ 0x05 ∷ 0x02 ∷ 0x06 ∷ 0x07 ∷ [])) ≡ Done (element_of (active None 5) (functions (6 ∷ 7 ∷ []))) (behind 5)
  pub one : element byte (start_of (0x01 ∷ 0x00 ∷ 0x01 ∷ 0x06 ∷ [])) ≡ Done (element_of passive (functions (6 ∷ []))) (behind 4)
  pub two : element byte (start_of (0x02 ∷ 0x03 ∷ 0x05 ∷ 0x00 ∷ 0x00 ∷ [])) ≡ Done (element_of (active (Some 3) 5) (functions [])) (behind 5)
  pub three : element byte (start_of (0x03 ∷ 0x00 ∷ 0x01 ∷ 0x06 ∷ [])) ≡ Done (element_of declared (functions (6 ∷ []))) (behind 4)
  pub four : element byte (start_of (0x04 ∷ 0x05 ∷ 0x01 ∷ 0x08 ∷ [])) ≡ Done (element_of (active None 5) (expressions any_function (8 ∷ []))) (behind 4)
  pub five : element byte (start_of (0x05 ∷ 0x6f ∷ 0x01 ∷ 0x08 ∷ [])) ≡ Done (element_of passive (expressions any_extern (8 ∷ []))) (behind 4)
  pub six : element byte (start_of (0x06 ∷ 0x03 ∷ 0x05 ∷ 0x6f ∷ 0x01 ∷ 0x08 ∷ [])) ≡ Done (element_of (active (Some 3) 5) (expressions any_extern (8 ∷ []))) (behind 6)
  pub seven : element byte (start_of (0x07 ∷ 0x6f ∷ 0x01 ∷ 0x08 ∷ [])) ≡ Done (element_of declared (expressions any_extern (8 ∷ []))) (behind 4)
  pub padded : element byte (start_of (0x81 ∷ 0x00 ∷ 0x00 ∷ 0x00 ∷ [])) ≡ Done (element_of passive (functions [])) (behind 4)
  pub eighth_flag : element byte (start_of (0x08 ∷ 0x00 ∷ [])) ≡ Fault Other 0
  pub padded_flag : element byte (start_of (0x88 ∷ 0x00 ∷ [])) ≡ Fault Other 1
  pub another_kind : element byte (start_of (0x01 ∷ 0x01 ∷ 0x00 ∷ [])) ≡ Fault Other 1
  pub number_type : element byte (start_of (0x05 ∷ 0x7f ∷ 0x00 ∷ [])) ≡ Fault Other 1
  pub cut_short : element byte (start_of (0x03 ∷ 0x00 ∷ 0x02 ∷ 0x06 ∷ [])) ≡ Short 4 1
  pub no_offset : element byte (start_of (0x00 ∷ [])) ≡ Short 1 1

pub element_rows : ElementRows
unfolding element mode_by kind_by type_by functions_by expressions_by listed repeated unsigned reference_type reference_after
element_rows = record {
  zero = refl;
  one = refl;
  two = refl;
  three = refl;
  four = refl;
  five = refl;
  six = refl;
  seven = refl;
  padded = refl;
  eighth_flag = refl;
  padded_flag = refl;
  another_kind = refl;
  number_type = refl;
  cut_short = refl;
  no_offset = refl;
}
