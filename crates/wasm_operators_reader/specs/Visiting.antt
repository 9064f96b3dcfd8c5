-- What a visitor is told of what is read, and what is refused because a visitor has no visit of it.
use Rattle.std.specs.Prelude.{◌≡◌, ◌⊎◌, IsTrue, true, false}
use Rattle.wasm_types.specs.decoding.Decoder.{State, Done}
use Rattle.wasm_types.specs.decoding.declared.error.ErrorKind.TheVariants.{Other}
use Rattle.wasm_types.specs.decoding.ErrorValue.{ErrorValue}
use Rattle.wasm_operators_enums.specs.Op.{Op}
use Rattle.wasm_operators_enums.specs.declared.role.Role.{Role}
use Rattle.wasm_operators_enums.specs.Roles.{role_of}
use Rattle.wasm_operators_enums.specs.Immediates.{is_canonical}
use Rattle.wasm_operators_encoding.specs.Coded.{operator}
use Rattle.wasm_operators_encoding.specs.Operators.{coded_of}
use Rattle.wasm_operators_enums.specs.Vectors.{is_simd}
use Rattle.wasm_operators_encoding.specs.expressions.Stack.{innermost}
use Rattle.wasm_operators_reader.specs.FirstByte.{ToldFirst, vector_in}
use Rattle.wasm_operators_reader.specs.Standing.{Standing, Reads, Refuses}

-- an operator is read here, and the visitor, which has this relation, is told of it
abbrev pub Visits : {V A : Type 0} → (V → Op → A → V → Type 0) → Standing → V → A → Standing → V → Type 0
Visits visits s v answer t w = (o : Op) × Reads s o t × visits v o answer w

-- the same of an operator that is not on vectors
abbrev pub VisitsPlain : {V A : Type 0} → (V → Op → A → V → Type 0) → Standing → V → A → Standing → V → Type 0
VisitsPlain visits s v answer t w = (o : Op) × Reads s o t × (is_simd o ≡ false) × visits v o answer w

-- an operator on vectors is read here, which is refused where it begins
pub record RefusesVector (s : Standing) (e : ErrorValue) : Type 0 where
  pub op : Op
  pub behind : Standing
  pub read : Reads s op behind
  pub vector : is_simd op ≡ true
  pub kind : e.kind ≡ Other
  pub offset : e.offset ≡ s.bytes.place

-- no operator is read here; if it begins as one on vectors, it is refused where it begins, whatever follows
abbrev pub RefusesUnread : Standing → ErrorValue → Type 0
RefusesUnread s e = (f : ErrorValue) × Refuses s f × ToldFirst (vector_in (innermost s.frames) s.bytes) s.bytes.place f e

-- why no operator is read, or one on vectors
abbrev pub RefusesPlain : Standing → ErrorValue → Type 0
RefusesPlain s e = RefusesUnread s e ⊎ RefusesVector s e

-- an operator of this role, which is not on vectors, is read from one state to the other, and the visitor is told of it
pub record Tells {V A : Type 0} (visits : V → Op → A → V → Type 0) (role : Role) (s : State) (v : V) (answer : A) (t : State)
    (w : V) : Type 0 where
  pub op : Op
  pub canonical : IsTrue (is_canonical op)
  pub read : operator s.settings s ≡ Done (coded_of op) t
  pub role_is : role_of op ≡ role
  pub no_vector : is_simd op ≡ false
  pub told : visits v op answer w
