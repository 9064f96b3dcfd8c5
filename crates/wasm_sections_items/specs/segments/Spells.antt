-- The bytes of globals and data segments (WebAssembly 3.0, binary format, modules), whatever constant expressions are: C is their
-- trees, and g says which bytes spell one.
use Rattle.std.specs.Prelude.{◌≡◌, ◌⊎◌, ℕ, List, ◌++◌}
use Rattle.wasm_types.specs.decoding.Decoder.{Grammar}
use Rattle.wasm_types.specs.decoding.Leb.{IsUnsigned}
use Rattle.wasm_types.specs.decoding.Text.{IsSized}
use Rattle.wasm_types.specs.externs.declared.global.GlobalType.{GlobalType}
use Rattle.wasm_types.specs.externs.Spells.{SpelledGlobal}
use Rattle.wasm_sections_items.specs.frames.Outer.{IsBytes}

-- ---- globals

-- a global: its type and its initial value
pub record GlobalTree (C : Type 0) : Type 0 where
  pub ty : GlobalType
  pub init : C

-- standard: binary-globalsec: global
-- global ::= gt:globaltype e:expr => (global gt e)
pub record SpelledGlobalItem {C : Type 0} (g : Grammar C) (x : GlobalTree C) (text : List ℕ) : Type 0 where
  pub type_text : List ℕ
  pub init_text : List ℕ
  pub typed : SpelledGlobal x.ty type_text
  pub initialised : g x.init init_text
  pub whole : text ≡ type_text ++ init_text

-- ---- data segments

-- how a data segment is used: copied by an instruction, or at first into a memory at an offset
pub data DataMode (C : Type 0) : Type 0 where
  passive : DataMode C
  active : ℕ → C → DataMode C

-- a data segment: how it is used, and its bytes
pub record DataTree (C : Type 0) : Type 0 where
  pub mode : DataMode C
  pub content : List ℕ

-- standard: binary-datasec: data, with flag 0
-- behind flag 0, active in memory 0: e:expr b*:list(byte)
pub record IsPlain {C : Type 0} (g : Grammar C) (x : DataTree C) (text : List ℕ) : Type 0 where
  pub offset : C
  pub offset_text : List ℕ
  pub content_text : List ℕ
  pub mode : x.mode ≡ active 0 offset
  pub placed : g offset offset_text
  pub filled : IsSized IsBytes x.content content_text
  pub whole : text ≡ offset_text ++ content_text

-- standard: binary-datasec: data, with flag 1
-- behind flag 1, passive: b*:list(byte)
pub record IsPassive {C : Type 0} (x : DataTree C) (text : List ℕ) : Type 0 where
  pub mode : x.mode ≡ passive
  pub filled : IsSized IsBytes x.content text

-- standard: binary-datasec: data, with flag 2
-- behind flag 2, active: x:memidx e:expr b*:list(byte)
pub record IsActive {C : Type 0} (g : Grammar C) (x : DataTree C) (text : List ℕ) : Type 0 where
  pub memory : ℕ
  pub offset : C
  pub memory_text : List ℕ
  pub offset_text : List ℕ
  pub content_text : List ℕ
  pub mode : x.mode ≡ active memory offset
  pub named : IsUnsigned 32 memory memory_text
  pub placed : g offset offset_text
  pub filled : IsSized IsBytes x.content content_text
  pub whole : text ≡ memory_text ++ (offset_text ++ content_text)

-- standard: part of SpelledData
-- what follows a flag, of which there are three
abbrev pub AfterFlag : {C : Type 0} → Grammar C → ℕ → Grammar (DataTree C)
AfterFlag g f x text = ((f ≡ 0) × IsPlain g x text) ⊎ (((f ≡ 1) × IsPassive x text) ⊎ ((f ≡ 2) × IsActive g x text))

-- standard: binary-datasec: data
-- data ::= a flag, and what follows it (binary format, modules, data section)
pub record SpelledData {C : Type 0} (g : Grammar C) (x : DataTree C) (text : List ℕ) : Type 0 where
  pub flag : ℕ
  pub flag_text : List ℕ
  pub behind : List ℕ
  pub flagged : IsUnsigned 32 flag flag_text
  pub spelled : AfterFlag g flag x behind
  pub whole : text ≡ flag_text ++ behind
