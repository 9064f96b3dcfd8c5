-- Worked walks over items of one byte each, and worked groups of a type section that has function types alone.
use Rattle.std.proofs.Common.{◌≡◌, ℕ, List, [], ◌∷◌, codes, refl, true, false, Option, Some, None, Ok, Err, inl, inr, arith}
use Rattle.wasm_types.specs.decoding.declared.Refusal.TheVariants as refusals
use Rattle.wasm_types.specs.decoding.Decoder.{State, Done, Short, Fault, byte, repeated}
use Rattle.wasm_types.specs.decoding.Leb.{unsigned}
use Rattle.wasm_types.specs.decoding.Lists.{size_within, listed_within}
use Rattle.wasm_types.specs.settings.Limits.{default_limits}
use Rattle.wasm_types.specs.settings.Settings.{no_features}
use Rattle.wasm_types.specs.trees.declared.index.UnpackedIndex.{UnpackedIndex}
use Rattle.wasm_types.specs.trees.declared.index.UnpackedIndex.TheVariants.{Module}
use Rattle.wasm_types.specs.values.declared.value.ValType.TheVariants.{I32}
use Rattle.wasm_types.specs.values.declared.value.StorageType.TheVariants.{Val}
use Rattle.wasm_types.specs.values.DecodeValues.{value_type, value_type_after, storage_type_after, storage_type}
use Rattle.wasm_types.specs.values.Decode.{reference_after}
use Rattle.wasm_types.specs.fields.Signatures.{Signature}
use Rattle.wasm_types.specs.fields.Decode.{mutability, field_type, fields, signature, module_index}
use Rattle.wasm_types.specs.SpellsTypes.{InnerValue, function, array_of, struct_of, continuation, CompositeValue, sub_with}
use Rattle.wasm_types.specs.DecodeTypes.{
  inner_after,
  last_after,
  descriptor_after,
  describes_after,
  composite_after,
  composite,
  supertypes,
  declared_sub,
  sub_after,
  sub_type,
  explicit_group,
  group_after,
  rec_group,
}
use Rattle.wasm_types.specs.decoding.declared.error.ErrorKind.TheVariants.{EndOfData, Other}
use Rattle.wasm_types.specs.decoding.ErrorValue.{ErrorValue}
use Rattle.wasm_sections_items.specs.limited.Walking.{Walk, plainly}
use Rattle.wasm_sections_items.specs.limited.Functions.{alone, only_function, function_alone}

-- a walk with n items left, at an offset, before these bytes
abbrev at : ℕ → ℕ → List ℕ → Walk
at n place text = record { left = n; reader = record { rest = text; place = place; settings = no_features; start = 0 }; over = false }

-- the same, with nothing to come
abbrev over : ℕ → ℕ → List ℕ → Walk
over n place text = record { left = n; reader = record { rest = text; place = place; settings = no_features; start = 0 }; over = true }

abbrev error : ErrorValue
error = record { kind = Other; offset = 1; message = codes "section size mismatch: unexpected data at the end of the section" }

abbrev ended : ErrorValue
ended = record { kind = EndOfData 1; offset = 1; message = codes "unexpected end-of-file" }

pub record WalkRows : Type 0 where
  -- an item, while one is left
  pub item : plainly byte (at 1 0 (0x05 ∷ [])) (Some (Ok 5)) (at 0 1 [])
  pub not_another : plainly byte (at 1 0 (0x05 ∷ [])) (Some (Ok 6)) (at 0 1 []) → ⊥
  pub not_uncounted : plainly byte (at 0 0 (0x05 ∷ [])) (Some (Ok 5)) (at 0 1 []) → ⊥
  -- nothing, once none is left and no byte
  pub nothing : plainly byte (at 0 1 []) None (over 0 1 [])
  pub not_nothing_yet : plainly byte (at 1 1 []) None (over 1 1 []) → ⊥
  pub not_nothing_before_a_byte : plainly byte (at 0 1 (0x05 ∷ [])) None (over 0 1 (0x05 ∷ [])) → ⊥
  -- a byte too many is refused where it stands, and one too few at the end
  pub trailing : plainly byte (at 0 1 (0x05 ∷ [])) (Some (Err error)) (over 0 1 (0x05 ∷ []))
  pub not_trailing : plainly byte (at 0 1 []) (Some (Err error)) (over 0 1 []) → ⊥
  pub short : plainly byte (at 1 1 []) (Some (Err ended)) (over 1 1 [])
  -- nothing comes behind an error
  pub after_error : plainly byte (over 1 1 []) None (over 1 1 [])
  pub not_after_error : plainly byte (over 1 0 (0x05 ∷ [])) (Some (Ok 5)) (at 0 1 []) → ⊥

pub walk_rows : WalkRows
walk_rows = record {
  item = (refl, refl, refl, refl);
  not_another = λ h. let e = h.3 in cc;
  not_uncounted = λ h. omega (arith, h.2);
  nothing = (inr (refl, refl), refl);
  not_nothing_yet = no_end;
  not_nothing_before_a_byte = no_end_before;
  trailing = (refl, refl, inl (refl, omega arith, refl, refl));
  not_trailing = no_trailing;
  short = (refl, refl, inr (omega arith, refl));
  after_error = (inl refl, refl);
  not_after_error = λ h. let e = h.0 in cc;
}
  where
    no_end : plainly byte (at 1 1 []) None (over 1 1 []) → ⊥
    no_end (inl e, f) = cc
    no_end (inr (e, g), f) = omega (arith, e)

    no_end_before : plainly byte (at 0 1 (0x05 ∷ [])) None (over 0 1 (0x05 ∷ [])) → ⊥
    no_end_before (inl e, f) = cc
    no_end_before (inr (e, g), f) = cc

    no_trailing : plainly byte (at 0 1 []) (Some (Err error)) (over 0 1 []) → ⊥
    no_trailing (o, p, inl t) = omega (arith, t.1)
    no_trailing (o, p, inr t) = omega (arith, t.0)

-- ---- function types

-- from i32 to nothing
abbrev signature_of_one : Signature
signature_of_one = record { params = I32 ∷ []; results = [] }

-- a composite type that is not the function type alone
abbrev other : Option UnpackedIndex → Option UnpackedIndex → InnerValue → CompositeValue
other descriptor describes x = record { inner = x; shared = false; descriptor = descriptor; describes = describes }

-- bytes at offset 5, and what is left behind n of them
abbrev at_five : List ℕ → State
at_five text = record { rest = text; place = 5; settings = no_features; start = 0 }

abbrev behind_five : ℕ → State
behind_five place = record { rest = []; place = place; settings = no_features; start = 0 }

-- One function type. No type and two types; one that is not final, and one below another; the other constructors; one that is shared,
-- has a descriptor or describes a type. The same of bytes, written as a group too; another group is refused where it begins.
pub record FunctionRows : Type 0 where
  pub one : only_function (sub_with true [] (alone signature_of_one) ∷ []) ≡ Some signature_of_one
  pub none : only_function [] ≡ None
  pub two : only_function (sub_with true [] (alone signature_of_one) ∷ sub_with true [] (alone signature_of_one) ∷ []) ≡ None
  pub not_final : only_function (sub_with false [] (alone signature_of_one) ∷ []) ≡ None
  pub below : only_function (sub_with true (Module 0 ∷ []) (alone signature_of_one) ∷ []) ≡ None
  pub a_struct : only_function (sub_with true [] (other None None (struct_of [])) ∷ []) ≡ None
  pub an_array : only_function (sub_with true [] (other None None (array_of (record { element_type = Val I32; mutable = true }))) ∷ []) ≡ None
  pub a_continuation : only_function (sub_with true [] (other None None (continuation (Module 0))) ∷ []) ≡ None
  pub is_shared : only_function (sub_with true [] (record { inner = function signature_of_one; shared = true; descriptor = None; describes = None }) ∷ []) ≡ None
  pub described : only_function (sub_with true [] (other (Some (Module 0)) None (function signature_of_one)) ∷ []) ≡ None
  pub describing : only_function (sub_with true [] (other None (Some (Module 0)) (function signature_of_one)) ∷ []) ≡ None
  pub bytes : function_alone no_features (at_five (0x60 ∷ 0x01 ∷ 0x7f ∷ 0x00 ∷ [])) ≡ Done signature_of_one (behind_five 9)
  pub bytes_of_group : function_alone no_features (at_five (0x4e ∷ 0x01 ∷ 0x60 ∷ 0x01 ∷ 0x7f ∷ 0x00 ∷ [])) ≡ Done signature_of_one (behind_five 11)
  pub bytes_of_struct : function_alone no_features (at_five (0x5f ∷ 0x00 ∷ [])) ≡ Fault refusals.Other 5
  pub bytes_of_open : function_alone no_features (at_five (0x50 ∷ 0x00 ∷ 0x60 ∷ 0x00 ∷ 0x00 ∷ [])) ≡ Fault refusals.Other 5
  pub bytes_cut : function_alone no_features (at_five (0x60 ∷ 0x01 ∷ [])) ≡ Short 7 1

pub function_rows : FunctionRows
unfolding function_alone default_limits rec_group group_after explicit_group sub_type sub_after declared_sub supertypes composite composite_after describes_after
    descriptor_after last_after inner_after signature field_type fields mutability module_index listed_within size_within unsigned repeated storage_type
    storage_type_after value_type_after reference_after value_type
function_rows = record {
  one = refl;
  none = refl;
  two = refl;
  not_final = refl;
  below = refl;
  a_struct = refl;
  an_array = refl;
  a_continuation = refl;
  is_shared = refl;
  described = refl;
  describing = refl;
  bytes = refl;
  bytes_of_group = refl;
  bytes_of_struct = refl;
  bytes_of_open = refl;
  bytes_cut = refl;
}
