-- Bytes between two offsets, items that their bytes alone tell, and an item that has no room (WebAssembly 3.0, binary format and validation,
-- modules): a yes and a no for each.
use Rattle.std.specs.Prelude.{◌≡◌, ◌+◌, ℕ, List, [], ◌∷◌, false}
use Rattle.wasm_types.specs.decoding.Decoder.{State, byte}
use Rattle.wasm_types.specs.settings.declared.Limits.{Limits}
use Rattle.wasm_types.specs.settings.Settings.{no_features}
use Rattle.wasm_types.specs.trees.Types.{SubtypeOf}
use Rattle.wasm_types.specs.trees.ValidGroup.{Written}
use Rattle.wasm_operators_bodies.specs.declared.short.ShortConstant.TheVariants as short
use Rattle.wasm_operators_bodies.specs.Short.{SpellsShort}
use Rattle.wasm_module_validator_section_order.specs.rules.Spaces.{types_behind}
use Rattle.wasm_module_validator_section_order.specs.rules_in_order.Between.{IsBetween}
use Rattle.wasm_module_validator_section_order.specs.rules_in_order.Sections as section
use Rattle.wasm_module_validator_initialisers.specs.segments.Short.{IsShortData}
use Rattle.wasm_module_validator_section_order.specs.items.Adding.{AddsShort, IsItemOf}
use Rattle.wasm_module_validator.specs.module_validator_payloads.Progress.{HasItem}

abbrev pub three : List ℕ
three = 1 ∷ 2 ∷ 3 ∷ []

-- ---- bytes between two offsets

abbrev pub IsTwo : List ℕ → Type 0
IsTwo t = t ≡ 2 ∷ []

pub record BetweenRows : Type 0 where
  pub second : IsBetween IsTwo three 1 2
  pub another_byte : IsBetween IsTwo three 0 1 → ⊥
  pub too_long : IsBetween IsTwo three 1 3 → ⊥
  pub beyond : IsBetween (λ t. Unit {0}) three 1 4 → ⊥

-- ---- items that their bytes alone tell

-- A byte is added to a sum: it takes the sum from the one number to the other, and is between these offsets of three bytes.
abbrev pub AddsByte : Limits → ℕ → ℕ → ℕ → ℕ → Type 0
AddsByte l before after i j = AddsShort {T = ℕ} {V = ℕ} {A = ℕ} {M = ℕ} {S = ℕ} (λ x. x) (λ x. x) (λ z x t. t ≡ x ∷ []) (λ m x n. n ≡ m + x)
    (λ s m. s ≡ m) before after l three i j

pub record AddsRows (l : Limits) : Type 0 where
  pub second : AddsByte l 7 9 1 2
  pub another_sum : AddsByte l 7 8 1 2 → ⊥
  pub no_bytes : AddsByte l 7 7 1 1 → ⊥

-- a data segment of one byte at `i32.const 0`, and nothing
pub record ShortDataRows : Type 0 where
  pub at_zero : SpellsShort short.I32 (0x41 ∷ 0x00 ∷ 0x0b ∷ []) → IsShortData (0x00 ∷ 0x41 ∷ 0x00 ∷ 0x0b ∷ 0x01 ∷ 0x61 ∷ []) 0 6
  pub nothing : IsShortData [] 0 0 → ⊥

-- ---- an item that has no room

-- after these a byte is one of so many items, which begin where these bytes do
abbrev pub IsByteOf : List ℕ → ℕ → List ℕ → ℕ → Type 0
IsByteOf text n front x = IsItemOf {T = ℕ} {V = ℕ} {A = ℕ} (λ y. y) (λ y. y) (λ z. byte) n
    (record { rest = text; place = 9; settings = no_features; start = 5 }) front x

-- a group of this type alone
abbrev pub alone : SubtypeOf ℕ → Written
alone t = record { is_explicit = false; types = t ∷ [] }

-- the group comes after itself
abbrev pub Twice : SubtypeOf ℕ → List Written → Written → Type 0
Twice t front x = (front ≡ alone t ∷ []) × (x ≡ alone t)

pub record RoomRows (t : SubtypeOf ℕ) : Type 0 where
  pub first : IsByteOf three 3 [] 1
  pub second : IsByteOf three 3 (1 ∷ []) 2
  pub not_first : IsByteOf three 3 [] 2 → ⊥
  pub not_of_one : IsByteOf three 1 (1 ∷ []) 2 → ⊥
  pub one_and_one : HasItem section.types (Twice t) (types_behind [] (alone t ∷ [])) 1
  pub none_before : HasItem section.types (Twice t) [] 1 → ⊥
  pub two_types : HasItem section.types (Twice t) (types_behind [] (alone t ∷ [])) 2 → ⊥
  pub function : HasItem section.functions (λ front x. Unit {0}) [] 1 → ⊥
