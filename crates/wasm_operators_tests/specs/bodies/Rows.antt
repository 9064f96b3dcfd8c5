-- Worked bytes of locals, bodies and constants, by hand: what is read, what is refused at which offset, where the bytes end.
use Rattle.std.specs.Prelude.{◌≡◌, ℕ, List, [], ◌∷◌, length}
use Rattle.wasm_types.specs.decoding.declared.Refusal.TheVariants.{Other}
use Rattle.wasm_types.specs.decoding.Decoder.{State, Decoder, Done, Short, Fault}
use Rattle.wasm_types.specs.settings.Settings.{no_features}
use Rattle.wasm_types.specs.values.declared.value.ValType.TheVariants.{I32, I64, F64}
use Rattle.wasm_operators_encoding.specs.Locals.{group_of, locals}
use Rattle.wasm_operators_bodies.specs.Bodies.{body_bytes, OperatorsBegin}
use Rattle.wasm_operators_encoding.specs.ConstantDecoder.{constant}

-- a reader behind n bytes, with these left, where no feature is allowed
abbrev pub behind : ℕ → List ℕ → State
behind n rest = record { rest = rest; place = n; settings = no_features; start = 0 }

-- the bytes, all of them, are this value
abbrev pub reads : {A : Type 0} → Decoder A → List ℕ → A → Type 0
reads d text x = d (behind 0 text) ≡ Done x (behind (length text) [])

-- they are refused at this offset
abbrev pub refuses : {A : Type 0} → Decoder A → List ℕ → ℕ → Type 0
refuses d text offset = d (behind 0 text) ≡ Fault Other offset

-- they end at this offset, where so many more are needed
abbrev pub ends : {A : Type 0} → Decoder A → List ℕ → ℕ → ℕ → Type 0
ends d text offset wanted = d (behind 0 text) ≡ Short offset wanted

-- groups of locals: none, the most in one group, one more, two groups, too many in two, no type, a count alone
pub record LocalRows : Type 0 where
  pub none : reads (locals no_features) (0x00 ∷ []) []
  pub most : reads (locals no_features) (0x01 ∷ 0xd0 ∷ 0x86 ∷ 0x03 ∷ 0x7f ∷ []) (group_of 50000 I32 ∷ [])
  pub one_too_many : refuses (locals no_features) (0x01 ∷ 0xd1 ∷ 0x86 ∷ 0x03 ∷ 0x7f ∷ []) 1
  pub two : reads (locals no_features) (0x02 ∷ 0x01 ∷ 0x7e ∷ 0x02 ∷ 0x7c ∷ []) (group_of 1 I64 ∷ group_of 2 F64 ∷ [])
  pub too_many_in_two : refuses (locals no_features) (0x02 ∷ 0xd0 ∷ 0x86 ∷ 0x03 ∷ 0x7f ∷ 0x01 ∷ 0x7f ∷ []) 5
  pub no_type : refuses (locals no_features) (0x01 ∷ 0x01 ∷ 0x40 ∷ []) 2
  pub count_alone : ends (locals no_features) (0xff ∷ 0xff ∷ 0xff ∷ 0xff ∷ 0x0f ∷ []) 5 1

-- bodies: of two bytes, of none, and one whose bytes end too early
pub record BodyRows : Type 0 where
  pub two_bytes : reads body_bytes (0x02 ∷ 0x00 ∷ 0x0b ∷ []) (0x00 ∷ 0x0b ∷ [])
  pub no_byte : reads body_bytes (0x00 ∷ []) []
  pub cut_short : ends body_bytes (0x03 ∷ 0x00 ∷ []) 1 2

-- where the operators of a body begin: behind no locals, behind one group, and nowhere else
pub record BeginRows : Type 0 where
  pub behind_none : OperatorsBegin (behind 0 (0x00 ∷ 0x0b ∷ [])) (behind 1 (0x0b ∷ []))
  pub behind_a_group : OperatorsBegin (behind 0 (0x01 ∷ 0x02 ∷ 0x7f ∷ 0x0b ∷ [])) (behind 3 (0x0b ∷ []))
  pub not_before : OperatorsBegin (behind 0 (0x01 ∷ 0x02 ∷ 0x7f ∷ 0x0b ∷ [])) (behind 1 (0x02 ∷ 0x7f ∷ 0x0b ∷ [])) → ⊥
  pub not_further : OperatorsBegin (behind 0 (0x00 ∷ 0x0b ∷ [])) (behind 2 []) → ⊥
  pub no_locals : (t : State) → OperatorsBegin (behind 0 (0x01 ∷ 0x01 ∷ 0x40 ∷ 0x0b ∷ [])) t → ⊥

-- the first n bytes are this value, and these are left
abbrev pub begins : {A : Type 0} → Decoder A → List ℕ → A → ℕ → List ℕ → Type 0
begins d text x n rest = d (behind 0 text) ≡ Done x (behind n rest)

-- constants: an `end` alone; a number, with a byte behind; a sum; a block whose `end` comes first; `else` without `if`; no operator;
-- bytes that end before the `end`, in a number, and at once
pub record ConstantRows : Type 0 where
  pub end_alone : reads (constant no_features) (0x0b ∷ []) (0x0b ∷ [])
  pub number : begins (constant no_features) (0x41 ∷ 0x07 ∷ 0x0b ∷ 0x2a ∷ []) (0x41 ∷ 0x07 ∷ 0x0b ∷ []) 3 (0x2a ∷ [])
  pub sum : reads (constant no_features) (0x41 ∷ 0x01 ∷ 0x41 ∷ 0x02 ∷ 0x6a ∷ 0x0b ∷ []) (0x41 ∷ 0x01 ∷ 0x41 ∷ 0x02 ∷ 0x6a ∷ 0x0b ∷ [])
  pub block : refuses (constant no_features) (0x02 ∷ 0x40 ∷ 0x0b ∷ 0x0b ∷ []) 3
  pub else_alone : refuses (constant no_features) (0x41 ∷ 0x07 ∷ 0x05 ∷ 0x0b ∷ []) 3
  pub no_operator : refuses (constant no_features) (0x16 ∷ 0x0b ∷ []) 0
  pub no_end : ends (constant no_features) (0x41 ∷ 0x07 ∷ []) 2 1
  pub no_number : ends (constant no_features) (0x41 ∷ 0x80 ∷ []) 2 1
  pub nothing : ends (constant no_features) [] 0 1
