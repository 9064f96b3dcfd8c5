-- How operators on vectors stand in the bytes.
use Rattle.std.proofs.Common.{◌≡◌, ◌∙◌, ◌≤◌, ◌<◌, ◌+◌, ◌%◌, ℕ, zero, suc, IsTrue, None, List, [], ◌∷◌, ◌++◌, refl, sym, ap, subst, arith, append-nil, length, take, drop, get_or}
use Rattle.std.proofs.lemmas.List.{append_assoc, drop_more, drop-drop, length-drop, length-take, take-append-drop}
use Rattle.wasm_types.specs.decoding.Decoder.{Many}
use Rattle.wasm_types.specs.settings.Settings.{Settings}
use Rattle.wasm_operators_immediates.specs.Immediates.{Immediate, Lane, Lanes, MemoryArgument, V128Constant}
use Rattle.wasm_operators_immediates.specs.Kinds.{Plain}
use Rattle.wasm_operators_immediates.specs.declared.vector.V128.{V128}
use Rattle.wasm_operators_enums.specs.Op.{Op}
use Rattle.wasm_operators_enums.specs.Immediates.{immediates_of, is_canonical}
use Rattle.wasm_operators_encoding.specs.Opcodes.{Opcode, prefixed, SpelledOpcode}
use Rattle.wasm_operators_encoding.specs.Operators.{opcode_of}
use Rattle.wasm_operators_encoding.specs.Sequences.{SpelledImmediates}
use Rattle.wasm_operators_encoding.specs.immediates.Bytes.{IsLane, IsShuffle, SpelledVector}
use Rattle.wasm_operators_encoding.specs.immediates.Immediates.{SpelledImmediate}
use Rattle.wasm_operators_encoding.specs.immediates.MemoryArguments.{argument, memory_argument, SpelledMemArg}
use Rattle.wasm_operators_encoding.specs.immediates.MemoryLaws.{decides-memory_argument}
use Rattle.wasm_operators_frequent.specs.Short.{BeginsPrefixed}
use Rattle.wasm_operator_validator_fast_steps.specs.Shapes.{IsArgumentAt}
use Rattle.wasm_operator_validator_fast_steps.proofs.Spelled.{unsigned_at}
use Rattle.wasm_operator_validator_fast_steps.proofs.Stepping.{Stands}
use Rattle.wasm_operator_validator_fast_tables.specs.declared.tables.Tables.{Tables}
use Rattle.wasm_operator_validator_fast_tables.proofs.Writing.{spelled_at}
use Rattle.wasm_operator_validator_fast_objects.specs.Vectors.{IsLaneThere, AreLanesThere}

-- ---- operators

module _ (features : ℕ) (text : List ℕ) (i n code : ℕ) (p : Op) (begins : BeginsPrefixed text i 0xfd code n) (is : opcode_of p ≡ prefixed 0xfd code)
    (canonical : IsTrue (is_canonical p)) where
  stands_by : (e : ℕ) (back : List ℕ) → ((z : Settings) → z.features ≡ features → SpelledImmediates z (immediates_of p) back) → drop n text ≡ back ++ drop e text
      → Stands features text i e p
  stands_by e back spelled behind z same within =
      let (rest, number, at) = unsigned_at text (i + 1) code n begins.code_there in
      let there = begins.prefix_there in
      let first : drop i text ≡ 0xfd ∷ drop (i + 1) text = rw there.code_there at (drop_more text i 0 there.inside) in
      let opcode : SpelledOpcode (opcode_of p) (0xfd ∷ rest) = subst (λ (c : Opcode). SpelledOpcode c (0xfd ∷ rest)) (sym is) (rest, refl, number, refl) in (
        0xfd ∷ (rest ++ back),
        record { canonical = canonical; front = 0xfd ∷ rest; back = back; opcode = opcode; carried = spelled z same; whole = refl },
        first ∙ ap (λ (r : List ℕ). 0xfd ∷ r) (at ∙ ap (λ (r : List ℕ). rest ++ r) behind ∙ sym (append_assoc rest back (drop e text))),
      )

  -- one that carries nothing
  pub stands_bare : immediates_of p ≡ [] → Stands features text i n p
  stands_bare nothing = stands_by n [] (λ z same. subst (λ (xs : List Immediate). SpelledImmediates z xs []) (sym nothing) refl) refl

  pub stands_with : (x : Immediate) (e : ℕ) (back : List ℕ) → immediates_of p ≡ x ∷ [] → ((z : Settings) → z.features ≡ features → SpelledImmediate z x back)
      → drop n text ≡ back ++ drop e text → Stands features text i e p
  stands_with x e back just spelled behind =
      stands_by e back (λ z same. subst (λ (xs : List Immediate). SpelledImmediates z xs back) (sym just) (back, [], spelled z same, refl, sym (append-nil back))) behind

  pub stands_with_two : (x y : Immediate) (m e : ℕ) (front back : List ℕ) → immediates_of p ≡ x ∷ y ∷ [] → ((z : Settings) → z.features ≡ features → SpelledImmediate z x front)
      → ((z : Settings) → SpelledImmediate z y back) → drop n text ≡ front ++ drop m text → drop m text ≡ back ++ drop e text → Stands features text i e p
  stands_with_two x y m e front back both spelled more at behind =
      stands_by e (front ++ back)
      (λ z same. subst (λ (xs : List Immediate). SpelledImmediates z xs (front ++ back)) (sym both)
      (front, back, spelled z same, (back, [], more z, refl, sym (append-nil back)), refl))
      (at ∙ ap (λ (r : List ℕ). front ++ r) behind ∙ sym (append_assoc front back (drop e text)))

-- ---- what they carry

-- the argument of an access
pub argument_spelled : (t : Tables) (text : List ℕ) (n natural address e : ℕ) (a : IsArgumentAt t text n natural address e)
    → (front : List ℕ) × SpelledMemArg t.features.0 Plain natural (argument (get_or text n 0 % 16) natural a.memory None a.offset) front
    × (drop n text ≡ front ++ drop e text)
argument_spelled t text n natural address e a =
    spelled_at (memory_argument t.features.0 Plain natural) (SpelledMemArg t.features.0 Plain natural) (decides-memory_argument t.features.0 Plain natural) text n e
    (argument (get_or text n 0 % 16) natural a.memory None a.offset) (a.read Plain)

-- a lane
pub lane_spelled : (text : List ℕ) (n lanes e : ℕ) (h : IsLaneThere text n lanes e) → IsLane lanes (get_or text n 0) (get_or text n 0 ∷ [])
lane_spelled text n lanes e h = record { below = h.below; whole = refl }

pub lane_behind : (text : List ℕ) (n lanes e : ℕ) (h : IsLaneThere text n lanes e) → drop n text ≡ (get_or text n 0 ∷ []) ++ drop e text
lane_behind text n lanes e h = drop_more text n 0 h.inside ∙ ap (λ (k : ℕ). get_or text n 0 ∷ drop k text) (sym h.behind)

-- bytes and those after them
pub parted : (text : List ℕ) (n count e : ℕ) → e ≡ n + count → drop n text ≡ take count (drop n text) ++ drop e text
parted text n count e is =
    sym (take-append-drop count (drop n text)) ∙ ap (λ (r : List ℕ). take count (drop n text) ++ r) (drop-drop count n text ∙ ap (λ (k : ℕ). drop k text) (sym is))

-- so many bytes are lanes, if each is below their number
lanes_many : (text : List ℕ) (count n : ℕ) → n + count ≤ length text → ((k : ℕ) → k < count → get_or text (n + k) 0 < 32)
    → Many (IsLane 32) count (take count (drop n text)) (take count (drop n text))
lanes_many text zero n room below = refl
lanes_many text (suc count) n room below =
    let here : n + 0 ≡ n = omega arith in
    let parts : drop n text ≡ get_or text n 0 ∷ drop (n + 1) text = drop_more text n 0 (omega (arith, room)) in
    let more = lanes_many text count (n + 1) (omega (arith, room))
    (λ k lt. let next : n + suc k ≡ n + 1 + k = omega arith in subst (λ (j : ℕ). get_or text j 0 < 32) next (below (suc k) (omega (arith, lt)))) in
    let first = subst (λ (j : ℕ). get_or text j 0 < 32) here (below 0 (omega arith)) in
    subst (λ (l : List ℕ). Many (IsLane 32) (suc count) (take (suc count) l) (take (suc count) l)) (sym parts)
    (get_or text n 0 ∷ [], take count (drop (n + 1) text), record { below = first; whole = refl }, more, refl)

pub lanes_spelled : (text : List ℕ) (n e : ℕ) → AreLanesThere text n e → IsShuffle (take 16 (drop n text)) (take 16 (drop n text))
lanes_spelled text n e h = lanes_many text 16 n h.inside h.below

-- a vector of 16 bytes
pub vector_spelled : (text : List ℕ) (n : ℕ) → n + 16 ≤ length text → SpelledVector (record { 0 = take 16 (drop n text) }) (take 16 (drop n text))
vector_spelled text n room = record {
  count = (let long = length-drop n text in let few = length-take 16 (drop n text) in omega (arith, long, few, room));
  whole = refl;
}
