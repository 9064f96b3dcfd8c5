-- A row of the list, and what it is compared with.
use Rattle.std.specs.Prelude.{◌≡◌, ℕ, ℤ, List, Option, map, true, false}
use Rattle.wasm_types.specs.reader.declared.words.Ieee32.{Ieee32}
use Rattle.wasm_types.specs.reader.declared.words.Ieee64.{Ieee64}
use Rattle.wasm_types.specs.values.declared.heap.HeapType.{HeapType}
use Rattle.wasm_types.specs.values.declared.value.ValType.{ValType}
use Rattle.wasm_types.specs.values.Reference.{Reference}
use Rattle.wasm_operators_immediates.specs.Info.{Info}
use Rattle.wasm_operators_immediates.specs.declared.proposal.Proposal.{Proposal}
use Rattle.wasm_operators_immediates.specs.declared.block.BlockType.{BlockType}
use Rattle.wasm_operators_immediates.specs.declared.handlers.Handle.{Handle}
use Rattle.wasm_operators_immediates.specs.declared.memory.MemArg.{MemArg}
use Rattle.wasm_operators_immediates.specs.declared.memory.Ordering.{Ordering}
use Rattle.wasm_operators_immediates.specs.declared.vector.V128.{V128}
use Rattle.wasm_operators_immediates.specs.Tables.{Labels, CatchTable}
use Rattle.wasm_operators_immediates.specs.Kinds.{Kind}
use Rattle.wasm_operators_immediates.specs.Immediates.{Immediate}
use Rattle.wasm_operators_enums.specs.Op.{Op}
use Rattle.wasm_operators_enums.specs.Table.{info_of}
use Rattle.wasm_operators_enums.specs.Immediates.{immediates_of, kinds_of}

-- a value for each field of an operator, by its type: the rows hold whatever it is
pub record Carried : Type 0 where
  pub number : ℕ
  pub signed : ℤ
  pub float32 : Ieee32
  pub float64 : Ieee64
  pub vector : V128
  pub lanes : List ℕ
  pub memarg : MemArg
  pub ordering : Ordering
  pub block : BlockType
  pub labels : Labels
  pub clauses : CatchTable
  pub handlers : List Handle
  pub heap : HeapType
  pub reference : Reference
  pub value : ValType
  pub values : List ValType

-- an operator, what is told of it, and the kinds of its immediates
pub record Listed : Type 0 where
  pub op : Op
  pub info : Info
  pub kinds : List Kind

abbrev pub listed : Op → Proposal → List ℕ → Option ℕ → ℕ → List Kind → Listed
listed op proposal name prefix code kinds = record { op = op; info = record { proposal = proposal; name = name; prefix = prefix; code = code }; kinds = kinds }

-- the same operator, with what the tables have of it
abbrev pub in_tables : Listed → Listed
in_tables r = record { op = r.op; info = info_of r.op; kinds = kinds_of r.op }

-- each of these rows stands in the tables
abbrev pub AreInTables : (Carried → List Listed) → Type 0
AreInTables rows = (c : Carried) → map in_tables (rows c) ≡ rows c

-- an operator, and what stands behind its opcode, in the order of the bytes
pub record Carries : Type 0 where
  pub op : Op
  pub immediates : List Immediate

abbrev pub carries : Op → List Immediate → Carries
carries op immediates = record { op = op; immediates = immediates }

-- two references that differ
abbrev pub to_non_null : Carried → Reference
to_non_null c = record { nullable = false; heap = c.heap }

abbrev pub to_null : Carried → Reference
to_null c = record { nullable = true; heap = c.heap }

-- the same operator, with what the tables have of it
abbrev pub as_carried : Carries → Carries
as_carried r = record { op = r.op; immediates = immediates_of r.op }

-- each of these rows stands in the tables
abbrev pub AreCarried : (Carried → List Carries) → Type 0
AreCarried rows = (c : Carried) → map as_carried (rows c) ≡ rows c
