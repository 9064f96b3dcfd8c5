-- The beginning of a body that is judged in one loop: its locals as codes (WebAssembly 3.0, binary format, modules, code section).
use Rattle.std.specs.Prelude.{◌≡◌, ◌<◌, ◌≤◌, ◌⊎◌, ℕ, List, ◌++◌, length, drop, get_or, replicate, slice_get, Some, true}
use Rattle.wasm_types.specs.decoding.Leb.{IsListed}
use Rattle.wasm_types.specs.settings.Settings.{Settings}
use Rattle.wasm_types.specs.trees.Trees.{TypeTree}
use Rattle.wasm_operators_encoding.specs.Locals.{LocalGroup, total, SpelledGroup}
use Rattle.wasm_operator_validator_rules.specs.Context.{Module, IsType}
use Rattle.wasm_module_validator_section_order.specs.rules.Valid.{Each, IsValidValueType, locals_in}
use Rattle.wasm_operator_validator_fast_tables.specs.declared.tables.Sig.{Sig}
use Rattle.wasm_operator_validator_fast_tables.specs.declared.tables.Tables.{Tables}
use Rattle.wasm_operator_validator_fast_tables.specs.Values.{type_of, types}
use Rattle.wasm_operator_validator_fast_tables.specs.Tables.{Knows, Allows, AllowsReferences, AllowsVectors, HasDefault, params_in}
use Rattle.wasm_module_validator_function_bodies.specs.declared.plain.PlainJudge.{PlainJudge}

-- tables stand for what they name of a module, by the types behind its ids, and these features are those that they ask
pub record MayTell (ids : List TypeTree) (bits : ℕ) (m : Module) (t : Tables) : Type 0 where
  pub knows : Knows ids m t.known
  pub allows : Allows bits
  pub references : t.references ≡ true → AllowsReferences bits
  pub vectors : t.vectors ≡ true → AllowsVectors bits

-- a judge, as far as it is for use, knows this module and these features
pub record KnowsModule (m : Module) (bits : ℕ) (j : PlainJudge) : Type 0 where
  pub ids : List TypeTree
  pub tells : MayTell ids bits m j.tables
  pub features : j.tables.features.0 ≡ bits

abbrev pub IsJudgeOf : Module → ℕ → PlainJudge → Type 0
IsJudgeOf m bits j = j.usable ≡ true → KnowsModule m bits j

-- tables of the same module, by the same features
pub record AreOfSame (before after : Tables) : Type 0 where
  pub known : after.known ≡ before.known
  pub features : after.features ≡ before.features
  pub references : after.references ≡ before.references
  pub vectors : after.vectors ≡ before.vectors

-- a group of locals stands from one offset to the other, and their codes were put behind the others
pub record TakesGroup (t : Tables) (text : List ℕ) (i : ℕ) (before after : List ℕ) (j : ℕ) : Type 0 where
  pub group : LocalGroup
  pub front : List ℕ
  pub spelled : SpelledGroup group front
  pub whole : drop i text ≡ front ++ drop j text
  pub code : ℕ
  pub put : after ≡ before ++ replicate group.count code
  pub means : (ids : List TypeTree) (bits : ℕ) (m : Module) → MayTell ids bits m t → IsType bits m group.type (type_of ids code)
  pub inside : j ≤ length text

-- locals of these groups have types with these codes, which the module may write
pub record AreLocals (ids : List TypeTree) (z : Settings) (m : Module) (groups : List LocalGroup) (codes : List ℕ) : Type 0 where
  pub typed : locals_in m.types groups ≡ types ids codes
  pub valid : Each (λ (l : LocalGroup). IsValidValueType z m l.type) groups

-- so do all groups of a body, from its first byte on
pub record TakesAll (t : Tables) (text before after : List ℕ) (j : ℕ) : Type 0 where
  pub groups : List LocalGroup
  pub front : List ℕ
  pub listed : IsListed SpelledGroup groups front
  pub whole : text ≡ front ++ drop j text
  pub codes : List ℕ
  pub put : after ≡ before ++ codes
  pub many : length codes ≡ total groups
  pub means : (ids : List TypeTree) (z : Settings) (m : Module) → MayTell ids z.features m t → AreLocals ids z m groups codes
  pub inside : j ≤ length text

-- tables are those of a body of the type at an index, with at most so many locals, whose expression begins there
pub record Begins (before after : Tables) (x : ℕ) (text : List ℕ) (most start : ℕ) : Type 0 where
  pub sig : Sig
  pub at : slice_get before.known.types.items x ≡ Some sig
  pub usable : sig.param_count ≤ length before.known.flat.items
  pub results : after.results ≡ sig
  pub locals : TakesAll before text (params_in before.known.flat.items sig) after.locals.items start
  pub certain : (x : ℕ) → x < length after.locals.items → x < after.certain → (x < length (params_in before.known.flat.items sig)) ⊎ HasDefault (get_or after.locals.items x 0)
  pub within : length after.locals.items ≤ most
