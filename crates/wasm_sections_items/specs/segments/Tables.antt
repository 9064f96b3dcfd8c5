-- Tables with what they hold at first (WebAssembly 3.0, binary format, modules): C are the trees of constant expressions, g says
-- which bytes spell one, and e reads them.
use Rattle.std.specs.Prelude.{◌≡◌, ℕ, ◌==◌, List, ◌∷◌, ◌++◌, Option, Some, None, if◌then◌else◌}
use Rattle.wasm_types.specs.decoding.declared.Refusal.TheVariants.{Other}
use Rattle.wasm_types.specs.decoding.Decoder.{Decoder, Grammar, ◌>>=◌, pure, refuse, byte, look}
use Rattle.wasm_types.specs.externs.declared.table.TableType.{TableType}
use Rattle.wasm_types.specs.externs.Decode.{table_type}
use Rattle.wasm_types.specs.externs.Spells.{SpelledTable}
use Rattle.wasm_sections_items.specs.declared.segments.table.TableInitOf.{TableInitOf}
use Rattle.wasm_sections_items.specs.declared.segments.table.TableInitOf.TheVariants.{RefNull, Expr}

-- ---- rules

-- a table: its type and what its elements are at first, null where nothing is said
pub record TableTree (C : Type 0) : Type 0 where
  pub ty : TableType
  pub init : Option C

-- standard: binary-tablesec: table, with an expression
-- 0x40 0x00 tt:tabletype e:expr => (table tt e)
pub record SpelledInitialised {C : Type 0} (g : Grammar C) (t : TableType) (x : C) (text : List ℕ) : Type 0 where
  pub type_text : List ℕ
  pub init_text : List ℕ
  pub typed : SpelledTable t type_text
  pub initialised : g x init_text
  pub whole : text ≡ 0x40 ∷ 0x00 ∷ (type_text ++ init_text)

-- standard: part of SpelledTableItem
-- a type alone, or a type and an expression
abbrev pub SpelledWith : {C : Type 0} → Grammar C → TableType → Option C → List ℕ → Type 0
SpelledWith g t None text = SpelledTable t text
SpelledWith g t (Some x) text = SpelledInitialised g t x text

-- standard: binary-tablesec: table
-- table ::= tt:tabletype => (table tt null) | 0x40 0x00 tt:tabletype e:expr => (table tt e) (binary format, modules, table section)
abbrev pub SpelledTableItem : {C : Type 0} → Grammar C → Grammar (TableTree C)
SpelledTableItem g x text = SpelledWith g x.ty x.init text

-- what a table of the code holds at first, where v is the tree of an expression
abbrev pub init_of : {E C : Type 0} → (E → C) → TableInitOf E → Option C
init_of v RefNull = None
init_of v (Expr x) = Some (v x)

-- ---- decoders

-- a table of its parts
abbrev pub table_of : {C : Type 0} → TableType → Option C → TableTree C
table_of t o = record { ty = t; init = o }

-- a type alone
unfoldable pub plain : {C : Type 0} → Decoder (TableTree C)
plain = table_type >>= λ t. pure (table_of t None)

-- a type and an expression, behind a byte that is zero
abbrev pub zero_after : {C : Type 0} → Decoder C → ℕ → Decoder (TableTree C)
zero_after e b = if b == 0 then (table_type >>= λ t. e >>= λ x. pure (table_of t (Some x))) else refuse Other 1

unfoldable pub behind_mark : {C : Type 0} → Decoder C → Decoder (TableTree C)
behind_mark e = byte >>= zero_after e

-- the same, behind the byte that says so
abbrev pub mark_after : {C : Type 0} → Decoder C → ℕ → Decoder (TableTree C)
mark_after e b = if b == 0x40 then behind_mark e else refuse Other 1

unfoldable pub initialised : {C : Type 0} → Decoder C → Decoder (TableTree C)
initialised e = byte >>= mark_after e

-- which of the two, by the next byte
abbrev pub table_at : {C : Type 0} → Decoder C → ℕ → Decoder (TableTree C)
table_at e b = if b == 0x40 then initialised e else plain

-- a table
unfoldable pub table : {C : Type 0} → Decoder C → Decoder (TableTree C)
table e = look (table_at e)
