-- How many there are in the spaces of a module, with one item more.
use Rattle.std.proofs.Common.{◌≡◌, ◌+◌, ◌<◌, ◌≤◌, ℕ, List, [], ◌∷◌, ◌++◌, map, length, Option, Some, None, refl, ap, arith}
use Rattle.std.proofs.lemmas.List.{length-map, length-append, length_push}
use Rattle.std.proofs.lemmas.List.Elements.{filter_map-append}
use Rattle.std.specs.List.{filter_map, cons_option}
use Rattle.wasm_types.specs.trees.ValidGroup.{type_at}
use Rattle.wasm_types.specs.externs.declared.tag.TagType.{TagType}
use Rattle.wasm_sections_items.specs.imports.Spells.{ImportTree}
use Rattle.wasm_module_validator_rules.specs.Syntax.{ModuleTree}
use Rattle.wasm_module_validator_rules.specs.Spaces.{FunctionEntry, types_behind, function_space, table_space, global_space, tag_space, table_in, global_in, module_of}
use Rattle.wasm_module_validator_rules_in_order.specs.contexts.InOrder.{InTurn}
use Rattle.wasm_module_validator_rules_in_order.specs.Sections.{as_list}
use Rattle.wasm_module_validator_rules_in_order.specs.laws.Turns.{turn_from, total_comes}

-- ---- the context has as much as the spaces

pub functions_counted : (m : ModuleTree) → length (module_of m).functions ≡ length (function_space m)
functions_counted m = length-map (function_space m) (λ (f : FunctionEntry). type_at (types_behind [] m.types) f.type)

pub tables_counted : (m : ModuleTree) → length (module_of m).tables ≡ length (table_space m)
tables_counted m = length-map (table_space m) (table_in (types_behind [] m.types))

pub globals_counted : (m : ModuleTree) → length (module_of m).globals ≡ length (global_space m)
globals_counted m = length-map (global_space m) (global_in (types_behind [] m.types))

pub tags_counted : (m : ModuleTree) → length (module_of m).tags ≡ length (tag_space m)
tags_counted m = length-map (tag_space m) (λ (t : TagType). type_at (types_behind [] m.types) t.func_type_idx)

-- ---- what the module has itself, behind what is imported

pub own_counted : {A B : Type 0} (is : List B) (g : A → B) (xs : List A) → length (is ++ map g xs) ≡ length (is ++ []) + length xs
own_counted is g xs = omega (arith, length-append is (map g xs), length-append is [], length-map xs g)

pub own_counted_so : {A : Type 0} (is xs : List A) → length (is ++ xs) ≡ length (is ++ []) + length xs
own_counted_so is xs = omega (arith, length-append is xs, length-append is [])

-- a total of one for each item: what is within the limit in the end was below it before each item
pub counted_in_turn : {A : Type 0} (total : List A → ℕ) (base limit : ℕ) → ((l : List A) → total l ≡ base + length l) → (xs : List A) → total xs ≤ limit
    → InTurn (λ b x. total b < limit) [] xs
counted_in_turn {A} total base limit f xs k =
    let step : (l : List A) (x : A) → total (l ++ x ∷ []) ≡ total l + 1 = λ l x. omega (arith, f (l ++ x ∷ []), f l, length_push l x) in
    turn_from (λ b x. total b + 1 ≤ limit) (λ b x. total b < limit) (λ b x h. omega (arith, h)) [] xs (total_comes total (λ x. 1) step limit [] xs k)

-- ---- what is imported of one kind

as_long : {A : Type 0} (o : Option A) → length (cons_option o []) ≡ length (as_list o)
as_long None = refl
as_long (Some y) = refl

-- one of the kind is one more
pub kind_counted : {A : Type 0} (f : ImportTree → Option A) (b : List ImportTree) (x : ImportTree)
    → length (filter_map f (b ++ x ∷ []) ++ []) ≡ length (filter_map f b ++ []) + length (as_list (f x))
kind_counted f b x =
    omega (
      arith,
      length-append (filter_map f (b ++ x ∷ [])) [],
      length-append (filter_map f b) [],
      ap length (filter_map-append f b (x ∷ [])),
      length-append (filter_map f b) (filter_map f (x ∷ [])),
      as_long (f x),
    )
