-- What the constants of a module come to, each in its place (WebAssembly 3.0, validation, instructions, constant expressions; execution,
-- modules, instantiation): the value of a global, the first content of a table, the elements and the offset of a segment.
use Rattle.std.specs.Prelude.{◌≡◌, ℕ, suc, List, [], ◌∷◌, map, take, Option, Some, None, slice_get}
use Rattle.wasm_types.specs.settings.Settings.{Settings}
use Rattle.wasm_types.specs.trees.Trees.{TypeTree}
use Rattle.wasm_types.specs.values.declared.value.ValType.TheVariants as value
use Rattle.wasm_types.specs.externs.declared.memory.MemoryType.{MemoryType}
use Rattle.wasm_sections_items.specs.segments.Spells.{GlobalTree, DataTree, DataMode}
use Rattle.wasm_sections_items.specs.segments.Spells as data_mode
use Rattle.wasm_sections_items.specs.segments.Tables.{TableTree}
use Rattle.wasm_sections_items.specs.elements.Spells.{ElementTree, ElementMode, ElementItems, passive, active, declared, functions, expressions}
use Rattle.wasm_operator_validator_rules.specs.Operands.{ValueType}
use Rattle.wasm_operator_validator_rules.specs.Context.{Table, Global}
use Rattle.wasm_operators_encoding.specs.expressions.Code.{Code as Expression}
use Rattle.wasm_module_validator_rules.specs.Syntax.{ModuleTree}
use Rattle.wasm_module_validator_rules.specs.Spaces.{imported_globals, value_in, element_type, module_of}
use Rattle.wasm_module_validator_rules.specs.Valid.{Each, table_index}
use Rattle.wasm_operator_validator_soundness.specs.runs.Values.{Function, Program, Value, ref_function, Fits, default_of}
use Rattle.wasm_operator_validator_soundness.specs.runs.Machine.{address}
use Rattle.wasm_operator_validator_soundness.specs.runs.Soundness.{IsNeverStuck, StaysValid, evaluated}
use Rattle.wasm_module_validator.specs.soundness.Modules.{types_in, program_of}

-- the module as a constant sees it: with these globals, and with functions that may be referred to alone
abbrev pub without_body : Function → Function
without_body f = record { type = f.type; body = None }

abbrev pub seen_with : Program → List Global → Program
seen_with p globals = record {
  bits = p.bits;
  «module» = record p.«module» { globals = globals };
  functions = map without_body p.functions;
}

-- It is never stuck, whatever is answered; the value that it gives is of this type, and on the way each fits what the rules know of it.
abbrev pub Gives : Program → ValueType → Expression → Type 0
Gives p v c = IsNeverStuck p (v ∷ []) (evaluated v c) × StaysValid p (v ∷ []) (evaluated v c)

module _ (z : Settings) (m : ModuleTree) (hosts : List TypeTree) where
  -- with the first so many globals, and with all
  abbrev pub first_seen : ℕ → Program
  first_seen n = seen_with (program_of z m hosts) (take n (module_of m).globals)

  abbrev pub all_seen : Program
  all_seen = seen_with (program_of z m hosts) (module_of m).globals

  -- globals, the first of which sees so many: each has its declared type, and sees those before it
  abbrev pub GlobalsFit : ℕ → List (GlobalTree Expression) → Type 0
  GlobalsFit seen [] = Unit {0}
  GlobalsFit seen (x ∷ xs) = Gives (first_seen seen) (value_in (types_in m) x.ty.content_type) x.init
      × GlobalsFit (suc seen) xs

  -- what a table of elements of this type holds at first: a default, or the value of a constant, which sees what is imported
  abbrev pub ContentFits : ValueType → Option Expression → Type 0
  ContentFits t None = (v : Value) × (default_of t ≡ Some v) × Fits (program_of z m hosts) v t
  ContentFits t (Some c) = Gives (first_seen (imported_globals m)) t c

  abbrev pub TableFits : TableTree Expression → Type 0
  TableFits x = ContentFits (value_in (types_in m) (value.Ref x.ty.element_type)) x.init

  -- a reference to a function of the module is of this type
  abbrev pub FunctionFits : ValueType → ℕ → Type 0
  FunctionFits t x = (f : Function) × (slice_get (program_of z m hosts).functions x ≡ Some f)
      × Fits (program_of z m hosts) (ref_function (Some x) f.type) t

  abbrev pub ItemsFit : ValueType → ElementItems Expression → Type 0
  ItemsFit t (functions xs) = Each (FunctionFits t) xs
  ItemsFit t (expressions r cs) = Each (Gives all_seen t) cs

  -- what an active segment has: a table, in which whatever is of the segment's type fits, and an offset
  abbrev pub PlaceFits : ValueType → ElementMode Expression → Type 0
  PlaceFits t passive = Unit {0}
  PlaceFits t declared = Unit {0}
  PlaceFits t (active x c) = (u : Table) × (slice_get (module_of m).tables (table_index x) ≡ Some u)
      × ((p : Program) (v : Value) → Fits p v t → Fits p v u.element) × Gives all_seen (address u.table64) c

  abbrev pub ElementFits : ElementTree Expression → Type 0
  ElementFits x = ItemsFit (element_type (types_in m) x.items) x.items
      × PlaceFits (element_type (types_in m) x.items) x.mode

  abbrev pub DataFits : DataMode Expression → Type 0
  DataFits data_mode.passive = Unit {0}
  DataFits (data_mode.active x c) = (u : MemoryType) × (slice_get (module_of m).memories x ≡ Some u)
      × Gives all_seen (address u.memory64) c

  pub record EachConstantFits : Type 0 where
    -- what fits in the place of a constant fits in the whole module
    pub values : (seen : List Global) (v : Value) (t : ValueType) → Fits (seen_with (program_of z m hosts) seen) v t
        → Fits (program_of z m hosts) v t
    pub globals : GlobalsFit (imported_globals m) m.globals
    pub tables : Each TableFits m.tables
    pub elements : Each ElementFits m.element_segments
    pub offsets : Each (λ (x : DataTree Expression). DataFits x.mode) m.data_segments
