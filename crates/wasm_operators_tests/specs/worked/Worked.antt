-- What worked bytes are read as: an immediate, by its kind, or an operator. They begin at offset 0.
use Rattle.std.specs.Prelude.{◌≡◌, ℕ, List, [], length}
use Rattle.wasm_types.specs.decoding.declared.Refusal.TheVariants.{Other}
use Rattle.wasm_types.specs.decoding.Decoder.{State, Done, Short, Fault}
use Rattle.wasm_types.specs.settings.Limits.{default_limits}
use Rattle.wasm_types.specs.settings.Settings.{Settings}
use Rattle.wasm_operators_immediates.specs.Kinds.{Kind}
use Rattle.wasm_operators_immediates.specs.Immediates.{Immediate}
use Rattle.wasm_operators_enums.specs.Op.{Op}
use Rattle.wasm_operators_encoding.specs.immediates.Immediates.{immediate}
use Rattle.wasm_operators_encoding.specs.Coded.{operator}
use Rattle.wasm_operators_encoding.specs.Operators.{coded_of}

-- no feature is allowed
abbrev pub none : ℕ
none = 0

-- these features, within the limits by default
abbrev pub allowing : ℕ → Settings
allowing features = record { features = features; limits = default_limits }

-- no feature, and one at most of the targets of a table, of clauses, of handlers, and of the types of a select
abbrev pub narrow : Settings
narrow = record { features = 0; limits = record default_limits { body_bytes = 1; catches = 1; select_types = 1 } }

-- a reader behind n bytes, with these left
abbrev pub at : Settings → ℕ → List ℕ → State
at settings n rest = record { rest = rest; place = n; settings = settings; start = 0 }

-- the same, within the limits by default
abbrev pub behind : ℕ → ℕ → List ℕ → State
behind features n rest = at (allowing features) n rest

-- ---- immediates of a kind, where these features are allowed

-- the bytes, all of them, are this immediate
abbrev pub reads : ℕ → Kind → List ℕ → Immediate → Type 0
reads features k text i = immediate (allowing features) k (behind features 0 text) ≡ Done i (behind features (length text) [])

-- they are refused at this offset
abbrev pub refuses : ℕ → Kind → List ℕ → ℕ → Type 0
refuses features k text offset = immediate (allowing features) k (behind features 0 text) ≡ Fault Other offset

-- they end at this offset, where so many more are needed
abbrev pub ends : ℕ → Kind → List ℕ → ℕ → ℕ → Type 0
ends features k text offset wanted = immediate (allowing features) k (behind features 0 text) ≡ Short offset wanted

-- the same two, within narrow limits
abbrev pub refuses_narrowly : Kind → List ℕ → ℕ → Type 0
refuses_narrowly k text offset = immediate narrow k (at narrow 0 text) ≡ Fault Other offset

abbrev pub ends_narrowly : Kind → List ℕ → ℕ → ℕ → Type 0
ends_narrowly k text offset wanted = immediate narrow k (at narrow 0 text) ≡ Short offset wanted

-- ---- operators, where these features are allowed

-- the first n bytes are this operator, and these are left
abbrev pub begins : ℕ → List ℕ → Op → ℕ → List ℕ → Type 0
begins features text o n rest = operator (allowing features) (behind features 0 text) ≡ Done (coded_of o) (behind features n rest)

-- the bytes, all of them, are this operator
abbrev pub spells : ℕ → List ℕ → Op → Type 0
spells features text o = begins features text o (length text) []

-- they are refused at this offset
abbrev pub is_none : ℕ → List ℕ → ℕ → Type 0
is_none features text offset = operator (allowing features) (behind features 0 text) ≡ Fault Other offset

-- they end at this offset, where so many more are needed
abbrev pub breaks_off : ℕ → List ℕ → ℕ → ℕ → Type 0
breaks_off features text offset wanted = operator (allowing features) (behind features 0 text) ≡ Short offset wanted
