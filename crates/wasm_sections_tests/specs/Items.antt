-- What the code keeps of element segments, data segments and tables, as trees, where an expression is a byte, and its tree is one
-- more: readers of elements that are whole, that have a byte left, and that lack one.
use Rattle.std.specs.Prelude.{◌≡◌, ℕ, ◌+◌, List, [], ◌∷◌, Some, None}
use Rattle.std.specs.declared.ops.Range.{Range}
use Rattle.wasm_types.specs.decoding.Decoder.{State, byte}
use Rattle.wasm_types.specs.settings.Settings.{no_features}
use Rattle.wasm_types.specs.values.Reference.{Reference}
use Rattle.wasm_sections_items.specs.declared.limited.section.SectionLimited.{SectionLimited}
use Rattle.wasm_sections_items.specs.declared.elements.element.ElementKindOf.TheVariants as kinds
use Rattle.wasm_sections_items.specs.declared.elements.element.ElementItemsOf.TheVariants.{Functions, Expressions}
use Rattle.wasm_sections_items.specs.elements.Spells.{passive, active, declared, functions, expressions, any_function}
use Rattle.wasm_sections_items.specs.elements.Decode.{element_of}
use Rattle.wasm_sections_items.specs.elements.Elements.{mode_of, tree_of, HoldsItems, GivesItems}
use Rattle.wasm_sections_items.specs.declared.segments.segment.DataKindOf.TheVariants as data_kinds
use Rattle.wasm_sections_items.specs.declared.segments.table.TableInitOf.TheVariants.{RefNull, Expr}
use Rattle.wasm_sections_items.specs.segments.Segments.{mode_of as data_mode_of}
use Rattle.wasm_sections_items.specs.segments.Spells as segments
use Rattle.wasm_sections_items.specs.segments.Tables.{init_of}

-- these bytes at offset 10, of data that began at 4
abbrev pub there : List ℕ → State
there rest = record { rest = rest; place = 10; settings = no_features; start = 4 }

-- the tree of an expression
abbrev pub one_more : ℕ → ℕ
one_more n = n + 1

-- a reader of so many elements, with these bytes
pub record Reads (s : SectionLimited ℕ) (count : ℕ) (rest : List ℕ) : Type 0 where
  pub counted : s.count ≡ count
  pub reader : s.reader ≡ there rest

-- a segment of the code as its tree, if its readers have as many elements as they count, and no byte behind them
pub record ElementRows : Type 0 where
  pub whole : (s : SectionLimited ℕ) (r : Range ℕ) → Reads s 2 (0x06 ∷ 0x07 ∷ [])
      → tree_of one_more (λ z. byte) (record { kind = kinds.Passive; items = Functions s; range = r }) ≡ Some (element_of passive (functions (6 ∷ 7 ∷ [])))
  pub byte_left : (s : SectionLimited ℕ) (r : Range ℕ) → Reads s 1 (0x06 ∷ 0x07 ∷ []) → tree_of one_more (λ z. byte) (record { kind = kinds.Passive; items = Functions s; range = r }) ≡ None
  pub byte_missing : (s : SectionLimited ℕ) (r : Range ℕ) → Reads s 2 (0x06 ∷ []) → tree_of one_more (λ z. byte) (record { kind = kinds.Passive; items = Functions s; range = r }) ≡ None
  pub of_expressions : (s : SectionLimited ℕ) (r : Range ℕ) → Reads s 2 (0x86 ∷ 0x07 ∷ [])
      → tree_of one_more (λ z. byte) (record { kind = kinds.Declared; items = Expressions any_function s; range = r }) ≡ Some (element_of declared (expressions any_function (0x86 ∷ 7 ∷ [])))
  pub expression_left : (s : SectionLimited ℕ) (r : Range ℕ) → Reads s 1 (0x86 ∷ 0x07 ∷ []) → tree_of one_more (λ z. byte) (record { kind = kinds.Declared; items = Expressions any_function s; range = r }) ≡ None
  pub given_as_functions : (s : SectionLimited ℕ) → GivesItems {E = ℕ} (λ z. byte) (Functions s) (expressions any_function []) → ⊥
  pub given_as_expressions : (s : SectionLimited ℕ) → GivesItems {E = ℕ} (λ z. byte) (Expressions any_function s) (functions []) → ⊥
  pub given_of_another_type : (s : SectionLimited ℕ) (q : Reference) → GivesItems {E = ℕ} (λ z. byte) (Expressions any_function s) (expressions q []) → any_function ≡ q

-- the state behind a segment
abbrev pub behind : State
behind = record { rest = 0x0b ∷ []; place = 20; settings = no_features; start = 0 }

-- readers that hold the bytes of a list up to where its segment ends, and others
pub record HeldRows : Type 0 where
  pub held : (s : SectionLimited ℕ) → s.count ≡ 2 → s.reader ≡ record { rest = 0x06 ∷ 0x07 ∷ []; place = 18; settings = no_features; start = 17 } → HoldsItems {E = ℕ} (λ z. byte) behind (Functions s)
  pub held_expressions : (s : SectionLimited ℕ) → s.count ≡ 2 → s.reader ≡ record { rest = 0x86 ∷ 0x07 ∷ []; place = 18; settings = no_features; start = 17 }
      → HoldsItems {E = ℕ} (λ z. byte) behind (Expressions any_function s)
  pub byte_left : (s : SectionLimited ℕ) → Reads s 0 (0x06 ∷ []) → HoldsItems {E = ℕ} (λ z. byte) behind (Functions s) → ⊥
  pub byte_missing : (s : SectionLimited ℕ) → Reads s 1 [] → HoldsItems {E = ℕ} (λ z. byte) behind (Expressions any_function s) → ⊥

-- how segments are used, and what tables hold at first
pub record ModeRows : Type 0 where
  pub unused : mode_of one_more kinds.Passive ≡ passive
  pub placed : mode_of one_more (kinds.Active None 5) ≡ active None 6
  pub placed_in_a_table : mode_of one_more (kinds.Active (Some 3) 5) ≡ active (Some 3) 6
  pub declaring : mode_of one_more kinds.Declared ≡ declared
  pub unused_data : data_mode_of one_more data_kinds.Passive ≡ segments.passive
  pub placed_data : data_mode_of one_more (data_kinds.Active 3 5) ≡ segments.active 3 6
  pub nulls : init_of one_more RefNull ≡ None
  pub initialised : init_of one_more (Expr 5) ≡ Some 6
