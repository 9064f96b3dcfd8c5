-- Rows of operators on structs, arrays and references that hold, and rows that do not.
use Rattle.std.specs.Prelude.{◌≡◌, ℕ, Bool, true, false, List, [], ◌∷◌, ◌++◌, reverse}
use Rattle.wasm_types.specs.trees.declared.index.UnpackedIndex.TheVariants as index
use Rattle.wasm_types.specs.trees.Types.{any, eq, extern, i31, array, Abstract, ref, abstract, exact}
use Rattle.wasm_types.specs.values.declared.heap.HeapType.TheVariants as heap
use Rattle.wasm_types.specs.values.Reference.{Reference}
use Rattle.wasm_operators_enums.specs.declared.gc.GcOperator.{GcOperator}
use Rattle.wasm_operators_enums.specs.declared.gc.GcOperator.TheVariants as gc
use Rattle.wasm_operator_validator_rules.specs.Operands.{Operand, bottom, some_reference, known, AllBelow}
use Rattle.wasm_operator_validator_rules.specs.Objects.{GcRow}
use Rattle.wasm_operator_validator_rules.specs.worked.Operators.{i32_known}
use Rattle.wasm_operator_validator_rules.specs.worked.References.{null_to, to, cell, HasNo}
use Rattle.wasm_operator_validator_rules.specs.worked.Objects.{here, under, wide_cell, node, cells, wide_cells, started, misplaced}

abbrev pub to_abstract : Bool → Bool → Abstract → Operand
to_abstract n s a = known (ref n (abstract s a))

-- ---- rows

pub record GcRowsWorked : Type 0 where
  pub equal : GcRow here gc.RefEq (to_abstract true false eq ∷ to_abstract true false eq ∷ []) (i32_known ∷ [])
  pub equal_shared : GcRow here gc.RefEq (to_abstract true true eq ∷ to_abstract true true eq ∷ []) (i32_known ∷ [])
  pub equal_half_shared : GcRow here gc.RefEq (to_abstract true true eq ∷ to_abstract true false eq ∷ []) (i32_known ∷ []) → ⊥
  pub new_elem : GcRow here (gc.ArrayNewElem 6 1) (i32_known ∷ i32_known ∷ []) (known (ref false (exact cells)) ∷ [])
  pub new_elem_other : HasNo (GcRow here (gc.ArrayNewElem 7 0))
  pub new_elem_numbers : HasNo (GcRow here (gc.ArrayNewElem 4 0))
  pub new_elem_unknown : HasNo (GcRow here (gc.ArrayNewElem 6 2))
  pub length : GcRow here gc.ArrayLen (to_abstract true true array ∷ []) (i32_known ∷ [])
  pub length_of_struct : GcRow here gc.ArrayLen (known (null_to cell) ∷ []) (i32_known ∷ []) → ⊥
  pub copy : GcRow here (gc.ArrayCopy 6 7) (known (null_to cells) ∷ i32_known ∷ known (null_to wide_cells) ∷ i32_known ∷ i32_known ∷ []) []
  pub copy_up : HasNo (GcRow here (gc.ArrayCopy 12 6))
  pub copy_immutable : HasNo (GcRow here (gc.ArrayCopy 7 7))
  pub copy_packed : HasNo (GcRow here (gc.ArrayCopy 4 5))
  pub copy_bytes_as_halves : HasNo (GcRow here (gc.ArrayCopy 14 5))
  pub copy_bytes_as_words : HasNo (GcRow here (gc.ArrayCopy 15 5))
  pub init_elem : GcRow here (gc.ArrayInitElem 6 0) (known (null_to cells) ∷ i32_known ∷ i32_known ∷ i32_known ∷ []) []
  pub init_elem_other : HasNo (GcRow here (gc.ArrayInitElem 12 0))
  pub init_elem_immutable : HasNo (GcRow here (gc.ArrayInitElem 7 1))
  pub to_any : GcRow here gc.AnyConvertExtern (to_abstract false true extern ∷ []) (to_abstract false true any ∷ [])
  pub to_any_null : GcRow here gc.AnyConvertExtern (to_abstract true false extern ∷ []) (to_abstract false false any ∷ []) → ⊥
  pub to_any_shared : GcRow here gc.AnyConvertExtern (to_abstract true false extern ∷ []) (to_abstract true true any ∷ []) → ⊥
  pub to_extern : GcRow here gc.ExternConvertAny (to_abstract true false any ∷ []) (to_abstract true false extern ∷ [])
  pub to_extern_null : GcRow here gc.ExternConvertAny (to_abstract true false any ∷ []) (to_abstract false false extern ∷ []) → ⊥
  pub i31_get_unsigned : GcRow here gc.I31GetU (to_abstract true true i31 ∷ []) (i32_known ∷ [])
  pub i31_get_signed : GcRow here gc.I31GetS (to_abstract true false i31 ∷ []) (i32_known ∷ [])
  pub i31_get_unsigned_any : GcRow here gc.I31GetU (to_abstract true false any ∷ []) (i32_known ∷ []) → ⊥
  pub i31_get_any : GcRow here gc.I31GetS (to_abstract true false any ∷ []) (i32_known ∷ []) → ⊥

-- ---- operands below what a row takes

-- the operands before, the top first, may become those
abbrev pub Leads : GcOperator → List Operand → List Operand → Type 0
Leads o s m = (popped pushed rest : List Operand) × GcRow here o popped pushed × AllBelow s (reverse popped ++ rest) × (m ≡ reverse pushed ++ rest)

abbrev pub LeadsNowhere : GcOperator → List Operand → Type 0
LeadsNowhere o s = (m : List Operand) → Leads o s m → ⊥

pub record ObjectOperandsWorked : Type 0 where
  pub field_of_subtype : Leads (gc.StructGet 1 0) (known (null_to wide_cell) ∷ []) (i32_known ∷ [])
  pub field_of_other : LeadsNowhere (gc.StructGet 1 0) (known (null_to node) ∷ [])
  pub equal_hierarchies : LeadsNowhere gc.RefEq (to_abstract true false extern ∷ to_abstract true false eq ∷ [])
  pub equal_number : LeadsNowhere gc.RefEq (to_abstract true false i31 ∷ i32_known ∷ [])
  pub equal_bottom : Leads gc.RefEq (bottom ∷ to_abstract true true i31 ∷ []) (i32_known ∷ [])
  pub length_of_some : Leads gc.ArrayLen (some_reference ∷ []) (i32_known ∷ [])
  pub to_any_of_some : Leads gc.AnyConvertExtern (some_reference ∷ []) (to_abstract false true any ∷ [])
  pub set_immutable : LeadsNowhere (gc.StructSet 1 0) (bottom ∷ bottom ∷ [])

-- ---- branches on casts

abbrev pub concretely : Bool → ℕ → Reference
concretely n x = record { nullable = n; heap = heap.Concrete (index.Module x) }

pub record CastBranchesWorked : Type 0 where
  pub on_cast : GcRow (under (to wide_cell ∷ [])) (gc.BrOnCast 0 (concretely true 1) (concretely false 2)) (known (null_to cell) ∷ [])
      (known (null_to cell) ∷ [])
  pub on_cast_null : GcRow (under (null_to wide_cell ∷ [])) (gc.BrOnCast 0 (concretely true 1) (concretely true 2)) (known (null_to cell) ∷ [])
      (known (to cell) ∷ [])
  pub on_cast_null_stays : GcRow (under (null_to wide_cell ∷ [])) (gc.BrOnCast 0 (concretely true 1) (concretely true 2))
      (known (null_to cell) ∷ []) (known (null_to cell) ∷ []) → ⊥
  pub on_cast_exchanged : HasNo (GcRow (under (to cell ∷ [])) (gc.BrOnCast 0 (concretely true 2) (concretely false 1)))
  pub on_cast_carries_first : HasNo (GcRow (under (to node ∷ [])) (gc.BrOnCast 0 (concretely true 1) (concretely false 2)))
  pub on_cast_unknown : HasNo (GcRow (under (to wide_cell ∷ [])) (gc.BrOnCast 2 (concretely true 1) (concretely false 2)))
  pub on_fail : GcRow (under (null_to cell ∷ [])) (gc.BrOnCastFail 0 (concretely true 1) (concretely false 2)) (known (null_to cell) ∷ [])
      (known (to wide_cell) ∷ [])
  pub on_fail_carries_second : HasNo (GcRow (under (to wide_cell ∷ [])) (gc.BrOnCastFail 0 (concretely true 1) (concretely false 2)))
  pub on_cast_of_continuation : HasNo (GcRow (under (null_to started ∷ [])) (gc.BrOnCast 0 (concretely true 10) (concretely true 10)))
  pub on_cast_to_continuation : HasNo (GcRow (under (to misplaced ∷ [])) (gc.BrOnCast 0 (concretely true 1) (concretely false 11)))
