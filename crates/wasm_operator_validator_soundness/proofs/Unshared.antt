-- Standard types are valid, and none is shared.
use Rattle.std.proofs.Common.{◌≡◌, List, [], ◌∷◌, Bool, true, false, refl, sym, ◌∙◌, true≢false}
use Rattle.std.specs.Prelude.{All}
use Rattle.std.proofs.lemmas.List.Elements.{All-nil, All-cons, All-append, All-contains}
use Rattle.wasm_types.specs.settings.Settings.{Settings}
use Rattle.wasm_types.specs.trees.Types.{any, extern, HeapOf, abstract, ref}
use Rattle.wasm_types.specs.trees.Trees.{TypeTree}
use Rattle.wasm_types.specs.trees.Below.{is_shared, heap_is_shared}
use Rattle.wasm_types.specs.trees.ValidGroup.{done, next, Written, IsValidType, AreValidTypes, AreValidGroups}
use Rattle.wasm_operator_validator_soundness.specs.runs.Values.{IsStandardType, Program, Value, number_value, ref_null, ref_function, ref_object, ref_i31, ref_host, ref_extern, ref_exn, least_type, is_null, IsMade, IsAkin, Fits}
use Rattle.wasm_operator_validator_soundness.proofs.Objects.{akin_value}

module _ (z : Settings) where
  all_valid : (ts : List TypeTree) → AreValidTypes z ts → All (IsValidType z) ts
  all_valid [] h = All-nil (IsValidType z)
  all_valid (t ∷ ts) h = All-cons (IsValidType z) t ts h.0 (all_valid ts h.1)

  groups_valid : (space after : List TypeTree) (gs : List Written) → All (IsValidType z) space → AreValidGroups z space gs after → All (IsValidType z) after
  groups_valid space after gs h done = h
  groups_valid space after gs h (next i more) = groups_valid _ after _ (All-append (IsValidType z) space _ h (all_valid _ i.types)) more

pub standard_valid : (t : TypeTree) (s : IsStandardType t) → IsValidType s.settings t
standard_valid t s = All-contains (IsValidType s.settings) s.types t (groups_valid s.settings [] s.types s.groups (All-nil (IsValidType s.settings)) s.valid) s.has_it

pub not_shared : (t : TypeTree) → IsStandardType t → is_shared t ≡ false
not_shared t s = whole (is_shared t) refl
  where
    whole : (b : Bool) → is_shared t ≡ b → is_shared t ≡ false
    whole true e = absurd (true≢false (sym ((standard_valid t s).composite.0 e) ∙ s.standard.sharing))
    whole false e = e

-- no value but null is shared
value_whole : (p : Program) (v : Value) (k : HeapOf TypeTree) → is_null v ≡ false → IsMade p v → IsAkin (least_type v) k → false ≡ heap_is_shared k
value_whole p (number_value n b) k e m i = absurd i
value_whole p (ref_null c h) k e m i = absurd (true≢false e)
value_whole p (ref_function j t) k e m i = sym (not_shared t m.0) ∙ i.0
value_whole p (ref_object l t) k e m i = sym (not_shared t m.0) ∙ i.0
value_whole p (ref_i31 b) k e m i = i.0
value_whole p (ref_host l) k e m i = i.0
value_whole p (ref_extern l) k e m i = i.0
value_whole p (ref_exn l t) k e m i = i.0

pub internal_whole : (p : Program) (v : Value) (c : Bool) → is_null v ≡ false → Fits p v (ref true (abstract c any)) → false ≡ c
internal_whole p v c e f = value_whole p v (abstract c any) e f.0 (akin_value p v (abstract c any) f)

pub external_whole : (p : Program) (v : Value) (c : Bool) → is_null v ≡ false → Fits p v (ref true (abstract c extern)) → false ≡ c
external_whole p v c e f = value_whole p v (abstract c extern) e f.0 (akin_value p v (abstract c extern) f)
