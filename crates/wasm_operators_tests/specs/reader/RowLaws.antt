-- These rows compute.
use Rattle.std.proofs.Common.{◌≡◌, ◌⊎◌, ◌∙◌, ◌-◌, ◌∷◌, [], ℕ, List, refl, sym, ap, arith, lit<, true, false, inl, inr}
use Rattle.wasm_types.specs.settings.Limits.{default_limits}
use Rattle.wasm_types.specs.settings.Settings.{no_features}
use Rattle.wasm_types.specs.decoding.Decoder.{State, Done}
use Rattle.wasm_types.specs.decoding.ExactLaws.{value_is, state_is}
use Rattle.wasm_types.specs.decoding.Leb.{unsigned}
use Rattle.wasm_types.specs.decoding.Numbers.{behind as past}
use Rattle.wasm_types_decoding.proofs.AtOnce.{unsigned_of_one}
use Rattle.wasm_operators_immediates.specs.Kinds as kind
use Rattle.wasm_operators_immediates.specs.Immediates.{Immediate, Index}
use Rattle.wasm_operators_enums.specs.Op as op
use Rattle.wasm_operators_enums.specs.Op.{Drop, Select}
use Rattle.wasm_operators_enums.specs.declared.memory.MemoryOperator.TheVariants as memory
use Rattle.wasm_operators_encoding.specs.Coded.{Coded}
use Rattle.wasm_operators_encoding.specs.Operators.{coded_of}
use Rattle.wasm_operators_frequent.specs.Short.{IsTold}
use Rattle.wasm_operators_frequent.proofs.ShortReading.{told_alone, told_with}
use Rattle.wasm_operators_frequent.proofs.Carried.{index_of}
use Rattle.wasm_operators_encoding.specs.Opcodes.{opcode}
use Rattle.wasm_operators_encoding.specs.Groups.{numeric_kinds, simd_numeric_kinds}
use Rattle.wasm_operators_encoding.specs.Coded.{operator}
use Rattle.wasm_operators_encoding.specs.immediates.Bytes.{vector}
use Rattle.wasm_operators_encoding.specs.immediates.Immediates.{immediate}
use Rattle.wasm_operators_tests.specs.reader.Rows.{constant, behind, VectorRows, get_five, choice, TellingRows, IteratorRows}

pub vector_rows : VectorRows
unfolding default_limits unsigned opcode numeric_kinds simd_numeric_kinds operator vector immediate
vector_rows = record {
  is_read = record { canonical = refl; read = refl; fits = refl };
  is_refused = record {
    op = constant;
    behind = behind 18 (0x1a ∷ 0x0b ∷ []);
    read = record { canonical = refl; read = refl; fits = refl };
    vector = refl;
    kind = refl;
    offset = refl;
  };
  not_elsewhere = λ r. let e = r.offset in absurd cc;
}

-- ---- frequent operators

-- these bytes, from the first
abbrev start : List ℕ → State
start text = record { rest = text; place = 0; settings = no_features; start = 0 }

abbrev get : ℕ → op.Op
get n = op.Memory (memory.LocalGet n)

-- what is told is read, up to there
reads_told : (text : List ℕ) (n : ℕ) (o : op.Op) → IsTold 0 text 0 n (λ p. p ≡ o)
    → operator no_features (start text) ≡ Done (coded_of o) (past (n - 0) (start text))
reads_told text n o h = rw h.told at ((h.reads default_limits).gives (start text) refl)

abbrev one : Immediate → List Immediate
one x = x ∷ []

get_read : operator no_features (start get_five) ≡ Done (coded_of (get 5)) (record { rest = 0x0b ∷ []; place = 2; settings = no_features; start = 0 })
unfolding default_limits unsigned opcode numeric_kinds simd_numeric_kinds operator immediate
get_read = refl

choice_read : operator no_features (start choice) ≡ Done (coded_of (op.Parametric Select)) (record { rest = 0x0b ∷ []; place = 1; settings = no_features; start = 0 })
unfolding default_limits unsigned opcode numeric_kinds simd_numeric_kinds operator immediate
choice_read = refl

index_is : (a b : ℕ) → one (Index kind.Locals a) ≡ one (Index kind.Locals b) → a ≡ b
index_is a b e = cc

pub telling_rows : TellingRows
telling_rows = record {
  local = told_with 0 get_five 0 0x20 0x20 (record { inside = lit< tt; code_there = refl }) refl (get 5) refl refl _ refl refl refl
      (Index kind.Locals 5) 2 refl (λ limits. index_of _ _ _ _ kind.Locals 5 (unsigned_of_one get_five 1 (lit< tt) 3 4 (lit< tt)));
  not_its_neighbour = λ h. let e = value_is _ _ _ _ (sym get_read ∙ reads_told get_five 2 _ h) in let c = ap (λ (x : Coded). x.opcode.code) e in omega (arith, c);
  not_another_local = λ h. let e = value_is _ _ _ _ (sym get_read ∙ reads_told get_five 2 _ h) in let n = index_is 5 4 (ap (λ (x : Coded). x.carried) e) in omega (arith, n);
  not_a_byte_further = λ h. let e = state_is _ _ _ _ (sym get_read ∙ reads_told get_five 3 _ h) in let p = ap (λ (u : State). u.place) e in omega (arith, p);
  selected = told_alone 0 choice 0 0x1b 0x1b (record { inside = lit< tt; code_there = refl }) refl (op.Parametric Select) refl refl _ refl refl refl refl;
  not_dropped = λ h. let e = value_is _ _ _ _ (sym choice_read ∙ reads_told choice 1 _ h) in let c = ap (λ (x : Coded). x.opcode.code) e in omega (arith, c);
}

-- ---- iterators

pub iterator_rows : IteratorRows
iterator_rows = record {
  behind_an_error = λ s. (inl refl, refl, refl);
  no_operator_behind_it = λ s t o failed h. let e = h.0 in absurd cc;
  no_error_behind_it = λ s t e failed h. let f = h.0 in absurd cc;
  an_error_is_last = λ s t e h. let f = h.1 in absurd cc;
  an_error_moves_nothing = λ s t e h. h.4;
  at_the_end = (inr refl, refl, refl);
  not_before_the_end = λ h. no_end h.0;
}
  where
    no_end : (false ≡ true) ⊎ ((behind 0 (0x0b ∷ [])).bytes.rest ≡ []) → ⊥
    no_end (inl e) = absurd cc
    no_end (inr e) = absurd cc
