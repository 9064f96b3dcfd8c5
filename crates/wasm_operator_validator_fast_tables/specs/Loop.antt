-- What a loop over operators promises: whatever may come behind an operator may come from before it on, with it.
use Rattle.std.specs.Prelude.{◌≡◌, ℕ, ◌<◌, ◌-◌, ◌⊎◌, get_or, List, [], ◌∷◌, ◌++◌, true, length, map, drop}
use Rattle.std.specs.Int.{bit_at}
use Rattle.wasm_types.specs.settings.Settings.{Settings}
use Rattle.wasm_types.specs.trees.Trees.{TypeTree}
use Rattle.wasm_operators_immediates.specs.declared.frames.FrameKind.{FrameKind}
use Rattle.wasm_operators_immediates.specs.declared.frames.FrameKind.TheVariants as frames
use Rattle.wasm_operators_enums.specs.Op.{Op}
use Rattle.wasm_operators_encoding.specs.expressions.Spelling.{SpelledOperators}
use Rattle.wasm_operator_validator_rules.specs.Operands.{ValueType}
use Rattle.wasm_operator_validator_rules.specs.Context.{Context, Initialised, label_of, is_catch}
use Rattle.wasm_operator_validator_rules.specs.Typed.{MayClose}
use Rattle.wasm_operator_validator_state.specs.State.{InFrame}
use Rattle.wasm_operator_validator_fast_tables.specs.declared.tables.Open.{Open}
use Rattle.wasm_operator_validator_fast_tables.specs.declared.tables.Sig.{Sig}
use Rattle.wasm_operator_validator_fast_tables.specs.declared.tables.Tables.{Tables}
use Rattle.wasm_operator_validator_fast_tables.specs.Stacks.{Values, lying, with_all}
use Rattle.wasm_operator_validator_fast_tables.specs.Nested.{Nested}
use Rattle.wasm_operator_validator_fast_tables.specs.Values.{operands}
use Rattle.wasm_operator_validator_fast_tables.specs.Tables.{params_in, results_in, signature_in, Fits, HasDefault}

-- ---- which operators may come

-- the open frames, the innermost first
abbrev pub all : Nested → List Open
all o = o.inner ∷ o.outer

-- a local has a value: each of the first ones has, those of types that have defaults, and those of the others that these bits name
abbrev pub HasValue : Tables → ℕ → ℕ → Type 0
HasValue t bits x = (x < t.certain) ⊎ (HasDefault (get_or t.locals.items x 0) ⊎ (bit_at bits (x - t.certain) ≡ 1))

-- those that have values are initialised
abbrev pub Full : Tables → ℕ → Initialised → Type 0
Full t bits set = (x : ℕ) → x < length t.locals.items → HasValue t bits x → set x ≡ true

-- the locals that have values where the innermost frame begins are those of the frame around it
abbrev pub set_before : List Open → ℕ
set_before [] = 0
set_before (o ∷ outer) = o.set

abbrev pub label : List TypeTree → List ℕ → Open → List ValueType
label ids flat o = label_of o.kind (signature_in ids flat o.sig)

abbrev pub inside_all : List TypeTree → Context → List ℕ → List Open → Context
inside_all ids g flat opens = record g { labels = map (label ids flat) opens ++ g.labels; catches = map (λ o. is_catch o.kind) opens ++ g.catches }

-- the operators close all open frames from these operands, and then there are no more
abbrev pub Closes : List TypeTree → Tables → Context → List Open → Values → List Op → Type 0
Closes ids t g [] v os = os ≡ []
Closes ids t g (o ∷ outer) v os = (set before : Initialised) → Full t o.set set → Full t (set_before outer) before
    → InFrame (inside_all ids g t.known.flat.items (o ∷ outer))
    (record { kind = o.kind; block = signature_in ids t.known.flat.items o.sig; before = before }) set (operands ids v.0) os
    (λ rest. Closes ids t g outer (with_all (results_in t.known.flat.items o.sig) (lying o.base v.1)) rest)

-- the bytes from an offset on spell such operators
abbrev pub Goes : List TypeTree → Settings → List ℕ → Tables → Context → ℕ → List Open → Values → Type 0
Goes ids z text t g i opens v = (os : List Op) × SpelledOperators z os (drop i text) × Closes ids t g opens v os

-- where the bytes from the second offset on do, those from the first on do, by whatever types are behind the ids
abbrev pub Leads : List ℕ → Tables → ℕ → List Open → Values → ℕ → List Open → Values → Type 0
Leads text t i opens v j others w = (ids : List TypeTree) (z : Settings) (g : Context) → Fits ids z text t g → Goes ids z text t g j others w
    → Goes ids z text t g i opens v

-- ---- frames

-- the frame of a body
abbrev pub outermost : Sig → Open
outermost s = record { kind = frames.Block; base = 0; set = 0; sig = record { params = 0; param_count = 0; results = s.results; result_count = s.result_count } }

-- a frame of this kind and type begins, with its parameters on it
pub record Enters (flat : List ℕ) (k : FrameKind) (s : Sig) (v w : Values) (o : Open) (outer : List Open) (n : Open)
    (others : List Open) : Type 0 where
  pub kind : n.kind ≡ k
  pub sig : n.sig ≡ s
  pub set : n.set ≡ o.set
  pub frames : others ≡ o ∷ outer
  pub under : List ℕ
  pub params : v ≡ with_all (params_in flat n.sig) (lying n.base under)
  pub begun : w ≡ with_all (params_in flat n.sig) ([], under)

-- the innermost frame ends, with its results alone, which lie on the operands of the one around it then
pub record Leaves (flat : List ℕ) (o : Open) (v w : Values) : Type 0 where
  pub kind : (ids : List TypeTree) → MayClose o.kind (signature_in ids flat o.sig)
  pub under : List ℕ
  pub results : v ≡ with_all (results_in flat o.sig) ([], under)
  pub ended : w ≡ with_all (results_in flat o.sig) (lying o.base under)
