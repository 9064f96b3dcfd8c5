-- The rows of entities and of ids, one by one.
use Rattle.std.proofs.Common.{◌≡◌, ◌∙◌, ℕ, ◌+◌, ◌-◌, ◌<◌, ◌≤◌, ◌^◌, List, length, map, take, drop, min, ap, sym, Some, None, arith}
use Rattle.std.specs.Prelude.{slice_get, option_map}
use Rattle.std.proofs.lemmas.List.{length-map, length-take}
use Rattle.std.proofs.lemmas.Option.{slice_get-map}
use Rattle.wasm_sections_items.specs.declared.imports.kind.ExternalKind.{ExternalKind}
use Rattle.wasm_sections_items.specs.declared.imports.kind.ExternalKind.TheVariants as kind
use Rattle.wasm_types.specs.trees.declared.index.CoreTypeId.{CoreTypeId}
use Rattle.wasm_module_validator_index_spaces.specs.Spaces.{Spaces}
use Rattle.wasm_module_validator_index_spaces.specs.view.Entities.{own_entity, table_entity, memory_entity, global_entity, tag_entity, exported_entity}
use Rattle.wasm_module_validator_rows.specs.Entities.{told_entity, entities, entity_rows, id_rows}
use Rattle.wasm_module_validator_rows.proofs.Places.{at_past, at_drop, at_take, same_at}

-- ---- rows for the first n of a list

module _ {A B : Type 0} (f : A → B) (n : ℕ) (xs : List A) where
  taken : length (take n (map f xs)) ≡ min (length xs) n
  taken =
      let long = length-take n (map f xs) in
      let mapped = length-map xs f in
      omega arith

  row_of : (first behind i : ℕ) → i ≡ first + behind → i < n → slice_get (drop first (take n (map f xs))) behind ≡ option_map f (slice_get xs i)
  row_of first behind i e lt =
      at_drop first behind (take n (map f xs))
      ∙ same_at (take n (map f xs)) (first + behind) i (sym e)
      ∙ at_take n i (map f xs) lt
      ∙ slice_get-map f xs i

  row_past : (first behind : ℕ) → min (length xs) n ≤ first + behind → None ≡ slice_get (drop first (take n (map f xs))) behind
  row_past first behind le =
      let long = taken in
      sym (at_drop first behind (take n (map f xs)) ∙ at_past (take n (map f xs)) (first + behind) (omega arith))

  of_rows : (first behind i : ℕ) → i ≡ first + behind → i < length (take n (map f xs)) → option_map f (slice_get xs i) ≡ slice_get (drop first (take n (map f xs))) behind
  of_rows first behind i e lt = let long = taken in sym (row_of first behind i e (omega arith))

  none_of_rows : (first behind : ℕ) → length (take n (map f xs)) ≤ first + behind → None ≡ slice_get (drop first (take n (map f xs))) behind
  none_of_rows first behind le = let long = taken in row_past first behind (omega arith)

-- ---- entities

-- what is looked up is what the space has
exported : (s : Spaces) (k : ExternalKind) (i : ℕ) → exported_entity s k i ≡ slice_get (entities s k) i
exported s kind.Func i = sym (slice_get-map (own_entity s) s.functions i)
exported s kind.FuncExact i = sym (slice_get-map (own_entity s) s.functions i)
exported s kind.Table i = sym (slice_get-map table_entity s.tables i)
exported s kind.Memory i = sym (slice_get-map memory_entity s.memories i)
exported s kind.Global i = sym (slice_get-map global_entity s.globals i)
exported s kind.Tag i = sym (slice_get-map tag_entity s.tags i)

pub row_of_entity : (s : Spaces) (k : ExternalKind) (first behind i : ℕ) → i ≡ first + behind → i < length (entity_rows s k)
    → option_map told_entity (exported_entity s k i) ≡ slice_get (drop first (entity_rows s k)) behind
row_of_entity s k first behind i e lt = ap (option_map told_entity) (exported s k i) ∙ of_rows told_entity (2 ^ 32 - 1) (entities s k) first behind i e lt

pub row_past_entities : (s : Spaces) (k : ExternalKind) (first behind : ℕ) → length (entity_rows s k) ≤ first + behind
    → None ≡ slice_get (drop first (entity_rows s k)) behind
row_past_entities s k first behind le = none_of_rows told_entity (2 ^ 32 - 1) (entities s k) first behind le

-- how many rows there are for a space
capped : {A B C : Type 0} (f : B → C) (g : A → B) (n : ℕ) (xs : List A) (m : ℕ) → m ≡ min (length xs) n → m ≡ length (take n (map f (map g xs)))
capped f g n xs m e =
    let long = taken f n (map g xs) in
    let mapped = length-map xs g in
    omega arith

below : (m long n : ℕ) → m ≡ long → m ≤ n → m ≡ min long n
below m long n e le = omega arith

pub functions_counted : (s : Spaces) (m : ℕ) → m ≡ length s.functions → m ≤ 2 ^ 32 - 1 → m ≡ length (entity_rows s kind.Func)
functions_counted s m e le = capped told_entity (own_entity s) (2 ^ 32 - 1) s.functions m (below m (length s.functions) (2 ^ 32 - 1) e le)

pub tables_counted : (s : Spaces) (m : ℕ) → m ≡ min (length s.tables) (2 ^ 32 - 1) → m ≡ length (entity_rows s kind.Table)
tables_counted s m e = capped told_entity table_entity (2 ^ 32 - 1) s.tables m e

pub memories_counted : (s : Spaces) (m : ℕ) → m ≡ min (length s.memories) (2 ^ 32 - 1) → m ≡ length (entity_rows s kind.Memory)
memories_counted s m e = capped told_entity memory_entity (2 ^ 32 - 1) s.memories m e

pub globals_counted : (s : Spaces) (m : ℕ) → m ≡ min (length s.globals) (2 ^ 32 - 1) → m ≡ length (entity_rows s kind.Global)
globals_counted s m e = capped told_entity global_entity (2 ^ 32 - 1) s.globals m e

pub tags_counted : (s : Spaces) (m : ℕ) → m ≡ min (length s.tags) (2 ^ 32 - 1) → m ≡ length (entity_rows s kind.Tag)
tags_counted s m e = capped told_entity tag_entity (2 ^ 32 - 1) s.tags m e

-- ---- ids

pub ids_counted : (s : Spaces) (m : ℕ) → m ≡ min (length s.types) (2 ^ 32 - 1) → m ≡ length (id_rows s)
ids_counted s m e = let long = taken (λ (id : CoreTypeId). id.0) (2 ^ 32 - 1) s.types in e ∙ sym long

pub row_of_id : (s : Spaces) (first behind i : ℕ) (id : CoreTypeId) → i ≡ first + behind → i < length (id_rows s) → slice_get s.types i ≡ Some id
    → Some id.0 ≡ slice_get (drop first (id_rows s)) behind
row_of_id s first behind i id e lt at =
    ap (option_map (λ (id : CoreTypeId). id.0)) (sym at) ∙ of_rows (λ (id : CoreTypeId). id.0) (2 ^ 32 - 1) s.types first behind i e lt

pub row_past_ids : (s : Spaces) (first behind : ℕ) → length (id_rows s) ≤ first + behind → None ≡ slice_get (drop first (id_rows s)) behind
row_past_ids s first behind le = none_of_rows (λ (id : CoreTypeId). id.0) (2 ^ 32 - 1) s.types first behind le
