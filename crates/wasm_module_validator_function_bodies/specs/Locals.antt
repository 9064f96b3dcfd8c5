-- The locals of a body: which bytes spell locals that a function may have, how a validator takes them, and why it refuses others
-- (WebAssembly 3.0, binary format, modules, code section; validation, modules, functions and locals).
use Rattle.std.specs.Prelude.{◌≡◌, ◌⊎◌, ◌+◌, ◌≤◌, ◌<◌, ℕ, List, [], ◌∷◌, ◌++◌, length, true, false, Some, is_some, Result, IfErr, OnOk}
use Rattle.wasm_types.specs.decoding.Decoder.{State as Bytes, Done}
use Rattle.wasm_types.specs.decoding.Leb.{u32}
use Rattle.wasm_types.specs.settings.Settings.{Settings}
use Rattle.wasm_types.specs.settings.declared.Limits.{Limits}
use Rattle.wasm_types.specs.decoding.Denials.{Tells, UnlessMemory}
use Rattle.wasm_types.specs.decoding.ErrorValue.{ErrorValue}
use Rattle.wasm_types.specs.decoding.declared.error.ErrorKind.{ErrorKind}
use Rattle.wasm_types.specs.decoding.declared.error.ErrorKind.TheVariants as kinds
use Rattle.wasm_types.specs.reader.Reading.{Fails}
use Rattle.wasm_types.specs.values.declared.value.ValType.{ValType}
use Rattle.wasm_operators_encoding.specs.Locals.{LocalGroup, total, SpelledLocals, locals}
-- for attributes that unfold it
unfoldable pub use Rattle.wasm_operators_encoding.specs.Locals.{group}
use Rattle.wasm_operator_validator_rules.specs.Context.{Module}
use Rattle.wasm_operator_validator_arity.specs.resources.Meaning.{Meaning}
use Rattle.wasm_operator_validator_state.specs.Refusals.{refused_by}
use Rattle.wasm_operator_validator_state.specs.State.{State}
use Rattle.wasm_operator_validator_stacks.specs.Defining.{HasRoomFor, MayWrite, DefinesLocals, RefusesLocals}
use Rattle.wasm_module_validator_section_order.specs.rules.Valid.{Each, IsValidValueType}

-- what a body is judged by: the features and the limits of its validator
abbrev pub judged_by : ℕ → Limits → Settings
judged_by bits l = record { features = bits; limits = l }

-- ---- which bytes

-- A front of the bytes spells groups of locals, of types that the module may write, which a function may have behind so many
-- parameters.
pub record SpellsLocals (z : Settings) (g : Module) (before : ℕ) (text : List ℕ) : Type 0 where
  pub groups : List LocalGroup
  pub front : List ℕ
  pub back : List ℕ
  pub spelled : SpelledLocals z groups front
  pub whole : text ≡ front ++ back
  pub types : Each (λ (l : LocalGroup). IsValidValueType z g l.type) groups
  pub within : before + total groups ≤ z.limits.locals

-- ---- how a validator takes them

-- it puts the locals of these groups at the end, group by group, of which a function has at most so many
abbrev pub DefinesAll : Meaning → ℕ → State → List LocalGroup → State → Type 0
DefinesAll m most σ [] τ = τ ≡ σ
DefinesAll m most σ (l ∷ ls) τ = (ρ : State) × DefinesLocals m most σ l.count l.type ρ × DefinesAll m most ρ ls τ

-- the groups are read one by one, from s to t
abbrev pub ReadsEach : Bytes → List LocalGroup → Bytes → Type 0
ReadsEach s [] t = t ≡ s
ReadsEach s (l ∷ ls) t = (u : Bytes) × (group s ≡ Done l u) × ReadsEach u ls t

-- locals stand at the front of s, and behind them t; a validator has put them all at the end
pub record TakesLocals (m : Meaning) (z : Settings) (s : Bytes) (σ : State) (t : Bytes) (τ : State) : Type 0 where
  pub groups : List LocalGroup
  pub read : locals z s ≡ Done groups t
  pub defined : DefinesAll m z.limits.locals σ groups τ
  pub within : length τ.given.locals ≤ z.limits.locals

-- ---- why others are refused

-- So many groups are behind the count, and of these some were read and put at the end. The reader stands at u then.
pub record TakesSome (m : Meaning) (z : Settings) (s : Bytes) (σ : State) (count n : ℕ) (u : Bytes) (ρ : State) : Type 0 where
  pub behind : Bytes
  pub counted : u32 s ≡ Done count behind
  pub groups : List LocalGroup
  pub read : ReadsEach behind groups u
  pub defined : DefinesAll m z.limits.locals σ groups ρ
  pub many : length groups ≡ n

-- the next group is not spelled, or it is refused, at its own offset: for its type, or for how many locals there are with it
abbrev pub RefusesGroup : Meaning → ℕ → Bytes → State → ErrorValue → Type 0
RefusesGroup m most u ρ e =
    Fails e (group u) ⊎ ((l : LocalGroup) × (v : Bytes) × (group u ≡ Done l v) × RefusesLocals m most ρ l.count l.type e.kind × UnlessMemory e.kind (e.offset ≡ u.place))

-- one of the groups that were counted is refused
pub record StopsAtGroup (m : Meaning) (z : Settings) (s : Bytes) (σ : State) (e : ErrorValue) : Type 0 where
  pub count : ℕ
  pub taken : ℕ
  pub at : Bytes
  pub known : State
  pub some : TakesSome m z s σ count taken at known
  pub fewer : taken < count
  pub refused : RefusesGroup m z.limits.locals at known e

-- all were taken, and with those that there were there are more locals than a function may have
pub record StopsBehind (m : Meaning) (z : Settings) (s : Bytes) (σ : State) (e : ErrorValue) : Type 0 where
  pub count : ℕ
  pub end : Bytes
  pub known : State
  pub all : TakesSome m z s σ count count end known
  pub more : z.limits.locals < length known.given.locals
  pub kind : e.kind ≡ kinds.Other
  pub offset : e.offset ≡ end.place

-- something was refused before; no count is spelled; a group is refused; or there are too many
abbrev pub StopsLocals : Meaning → Settings → Bytes → State → ErrorValue → Type 0
StopsLocals m z s σ e =
    ((σ.failed ≡ true) × (e.kind ≡ kinds.Failed) × (e.offset ≡ s.place)) ⊎ (Fails e (u32 s) ⊎ (StopsAtGroup m z s σ e ⊎ StopsBehind m z s σ e))

-- ---- what the calls promise

-- only the locals are others
abbrev pub relocated : State → List ValType → State
relocated σ ts = record σ { given = record σ.given { locals = ts } }

-- Reading the locals of a body is not refused exactly where the bytes spell locals that the function may have, out of memory aside;
-- where something was refused before it is refused for that. Refused, the reader stays, and the validator has failed.
pub record ReadsLocals (m : Meaning) (l : Limits) (s : Bytes) (σ : State) (answer : Result (Unit {0}) ErrorValue) (t : Bytes)
    (τ : State) : Type 0 where
  pub exact : σ.failed ≡ false → Tells answer (SpellsLocals (judged_by σ.given.bits l) m.«module» (length σ.given.locals) s.rest)
  pub stopped : σ.failed ≡ true → refused_by answer ≡ Some kinds.Failed
  pub taken : OnOk answer (TakesLocals m (judged_by σ.given.bits l) s σ t τ)
  pub stops : IfErr answer (StopsLocals m (judged_by σ.given.bits l) s σ)
  pub stays : IfErr answer (λ _. t ≡ s)
  pub failed : τ.failed ≡ is_some (refused_by answer)
  pub others : τ ≡ record (relocated σ τ.given.locals) { failed = τ.failed }

-- why locals of a type are refused: something was refused before, or they are
abbrev pub RefusesMore : Meaning → ℕ → State → ℕ → ValType → ErrorKind → Type 0
RefusesMore m most σ count written k = ((σ.failed ≡ true) × (k ≡ kinds.Failed))
    ⊎ ((σ.failed ≡ false) × RefusesLocals m most σ count written k)

-- Locals of a type are put at the end exactly where nothing was refused before, the module may write the type, and there is room for
-- them, out of memory aside.
pub record DefinesMore (m : Meaning) (most : ℕ) (σ : State) (count : ℕ) (written : ValType) (answer : Result (Unit {0}) ErrorValue)
    (τ : State) : Type 0 where
  pub exact : Tells answer ((σ.failed ≡ false) × MayWrite m σ written × HasRoomFor most σ count)
  pub defined : OnOk answer (DefinesLocals m most σ count written τ)
  pub refused : IfErr answer (λ e. RefusesMore m most σ count written e.kind)
