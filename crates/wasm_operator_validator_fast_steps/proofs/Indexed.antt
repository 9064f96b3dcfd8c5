-- Indices, arguments of accesses and constants, at an offset in the bytes.
use Rattle.std.proofs.Common.{◌≡◌, ◌∙◌, ℕ, ℤ, suc, pos, ◌+◌, ◌-◌, ◌*◌, ◌/◌, ◌%◌, ◌+ℤ◌, ◌-ℤ◌, ◌*ℤ◌, ◌<◌, ◌≤◌, List, Bool, true, false, None, length, drop, get_or, refl, sym, arith}
use Rattle.std.specs.Prelude.{◌&&◌}
use Rattle.std.proofs.lemmas.Bool.{lt-ltb, le-ltb}
use Rattle.std.proofs.lemmas.List.{get_or-drop, length-drop}
use Rattle.wasm_types.specs.decoding.Decoder.{State, Done, Decoder, ◌>>=◌, pure, byte}
use Rattle.wasm_types.specs.decoding.Leb.{unsigned, signed, last_bits, seven_bits, u32}
use Rattle.wasm_types.specs.decoding.Numbers.{behind, GivesAt}
use Rattle.wasm_types.specs.settings.Features.{has, Memory64, MultiMemory}
use Rattle.wasm_types_decoding.proofs.AtOnce.{unsigned_of_one, unsigned_of_two}
use Rattle.wasm_types_decoding.proofs.LebGroups.{byte_here, behind_none}
use Rattle.wasm_operators_encoding.specs.immediates.Bytes.{index_or_zero}
use Rattle.wasm_operators_immediates.specs.Kinds.{AccessOrdering}
use Rattle.wasm_operators_immediates.specs.declared.memory.MemArg.{MemArg}
use Rattle.wasm_operators_encoding.specs.immediates.MemoryArguments.{may_order, flags_in, flags_from, flags, named_memory, named_ordering, offset}
use Rattle.wasm_operators_encoding.specs.immediates.MemoryArguments.{argument, after_flags, memory_argument}
use Rattle.wasm_operators_frequent.proofs.ShortReading.{gives_then}
use Rattle.wasm_operator_validator_fast_tables.specs.declared.tables.Tables.{Tables}
use Rattle.wasm_operator_validator_fast_tables.specs.Values.{address_of}
use Rattle.wasm_operator_validator_fast_tables.specs.Tables.{no_code, Reaches}
use Rattle.wasm_operator_validator_fast_steps.specs.Shapes.{IsArgumentAt, NamesMemory}

-- ---- indices of tables

allowed_index : (allowed : Bool) (text : List ℕ) (i n e : ℕ) → allowed ≡ true → GivesAt u32 text i n e → GivesAt (index_or_zero allowed) text i n e
unfolding index_or_zero
allowed_index true text i n e is g = g
allowed_index false text i n e is g = absurd cc

-- an index is read if indices may be
pub long_index : (allowed asked : Bool) (text : List ℕ) (i n e : ℕ) → asked ≡ allowed → asked ≡ true → GivesAt u32 text i n e
    → GivesAt (index_or_zero allowed) text i n e
long_index allowed asked text i n e same is g = allowed_index allowed text i n e (sym same ∙ is) g

-- ---- five bytes

byte_at : (text : List ℕ) (i n : ℕ) (s : State) → s.rest ≡ drop i text → i + n < length text → byte (behind n s) ≡ Done (get_or text (i + n) 0) (behind (n + 1) s)
byte_at text i n s same lt =
    rw (get_or-drop i text n 0) at (byte_here s (drop i text) n (sym same) (omega (arith, lt, length-drop i text)))

first_at : (text : List ℕ) (i : ℕ) (s : State) → s.rest ≡ drop i text → i < length text → byte s ≡ Done (get_or text i 0) (behind 1 s)
first_at text i s same lt =
    let z : i + 0 ≡ i = omega arith in
    rw (behind_none s, z) at (byte_at text i 0 s same (omega arith))

-- one byte, which may be the last
pub index_of_one : (text : List ℕ) (i : ℕ) → i < length text → get_or text i 0 < 128 → GivesAt u32 text i (get_or text i 0) (i + 1)
unfolding unsigned
index_of_one text i lt low = record {
  forward = omega arith;
  inside = omega (arith, lt);
  gives = λ s same. let whole : i + 1 - i ≡ 1 = omega arith in rw (whole, first_at text i s same lt, lt-ltb (get_or text i 0) 128 low) refl;
}

pub unsigned_of_five : (text : List ℕ) (i n : ℕ) → i + 5 ≤ length text → 128 ≤ get_or text i 0 → 128 ≤ get_or text (i + 1) 0 → 128 ≤ get_or text (i + 2) 0
    → 128 ≤ get_or text (i + 3) 0 → get_or text (i + 4) 0 < 16
    → n ≡ 128 * (128 * (128 * (128 * get_or text (i + 4) 0 + (get_or text (i + 3) 0 - 128)) + (get_or text (i + 2) 0 - 128)) + (get_or text (i + 1) 0 - 128)) + (get_or text i 0 - 128)
    → GivesAt u32 text i n (i + 5)
unfolding unsigned
unsigned_of_five text i n inside a b c d e is = record {
  forward = omega arith;
  inside = inside;
  gives = λ s same.
      let whole : i + 5 - i ≡ 5 = omega arith in
      rw (
        whole,
        is,
        first_at text i s same (omega (arith, inside)),
        le-ltb (get_or text i 0) 128 a,
        byte_at text i 1 s same (omega (arith, inside)),
        le-ltb (get_or text (i + 1) 0) 128 b,
        byte_at text i 2 s same (omega (arith, inside)),
        le-ltb (get_or text (i + 2) 0) 128 c,
        byte_at text i 3 s same (omega (arith, inside)),
        le-ltb (get_or text (i + 3) 0) 128 d,
        byte_at text i 4 s same (omega (arith, inside)),
        lt-ltb (get_or text (i + 4) 0) 16 e,
      ) refl;
}

-- ---- constants

-- a signed number ends there
abbrev pub Ends : ℕ → ℕ → List ℕ → ℕ → ℕ → Type 0
Ends k r text i e = (x : ℤ) × GivesAt (signed k r) text i x e

-- a number behind a byte that says that it follows
abbrev joined : ℤ → ℕ → ℤ
joined m b = pos 128 *ℤ m +ℤ pos (b - 128)

module _ (k r : ℕ) (text : List ℕ) (i : ℕ) where
  pub ends_at_one : i + 1 ≤ length text → get_or text i 0 < 128 → Ends (suc k) r text i (i + 1)
  unfolding signed
  ends_at_one inside low = (
    seven_bits (get_or text i 0),
    record {
      forward = omega arith;
      inside = inside;
      gives = λ s same. let whole : i + 1 - i ≡ 1 = omega arith in rw (whole, first_at text i s same (omega (arith, inside)), lt-ltb (get_or text i 0) 128 low) refl;
    },
  )

  pub ends_at_two : i + 2 ≤ length text → 128 ≤ get_or text i 0 → get_or text (i + 1) 0 < 128 → Ends (suc (suc k)) r text i (i + 2)
  unfolding signed
  ends_at_two inside a low = (
    joined (seven_bits (get_or text (i + 1) 0)) (get_or text i 0),
    record {
      forward = omega arith;
      inside = inside;
      gives = λ s same.
          let whole : i + 2 - i ≡ 2 = omega arith in
          rw (
            whole,
            first_at text i s same (omega (arith, inside)),
            le-ltb (get_or text i 0) 128 a,
            byte_at text i 1 s same (omega (arith, inside)),
            lt-ltb (get_or text (i + 1) 0) 128 low,
          ) refl;
    },
  )

  pub ends_at_three : i + 3 ≤ length text → 128 ≤ get_or text i 0 → 128 ≤ get_or text (i + 1) 0 → get_or text (i + 2) 0 < 128 → Ends (suc (suc (suc k))) r text i (i + 3)
  unfolding signed
  ends_at_three inside a b low = (
    joined (joined (seven_bits (get_or text (i + 2) 0)) (get_or text (i + 1) 0)) (get_or text i 0),
    record {
      forward = omega arith;
      inside = inside;
      gives = λ s same.
          let whole : i + 3 - i ≡ 3 = omega arith in
          rw (
            whole,
            first_at text i s same (omega (arith, inside)),
            le-ltb (get_or text i 0) 128 a,
            byte_at text i 1 s same (omega (arith, inside)),
            le-ltb (get_or text (i + 1) 0) 128 b,
            byte_at text i 2 s same (omega (arith, inside)),
            lt-ltb (get_or text (i + 2) 0) 128 low,
          ) refl;
    },
  )

  pub ends_at_four : i + 4 ≤ length text → 128 ≤ get_or text i 0 → 128 ≤ get_or text (i + 1) 0 → 128 ≤ get_or text (i + 2) 0 → get_or text (i + 3) 0 < 128
      → Ends (suc (suc (suc (suc k)))) r text i (i + 4)
  unfolding signed
  ends_at_four inside a b c low = (
    joined (joined (joined (seven_bits (get_or text (i + 3) 0)) (get_or text (i + 2) 0)) (get_or text (i + 1) 0)) (get_or text i 0),
    record {
      forward = omega arith;
      inside = inside;
      gives = λ s same.
          let whole : i + 4 - i ≡ 4 = omega arith in
          rw (
            whole,
            first_at text i s same (omega (arith, inside)),
            le-ltb (get_or text i 0) 128 a,
            byte_at text i 1 s same (omega (arith, inside)),
            le-ltb (get_or text (i + 1) 0) 128 b,
            byte_at text i 2 s same (omega (arith, inside)),
            le-ltb (get_or text (i + 2) 0) 128 c,
            byte_at text i 3 s same (omega (arith, inside)),
            lt-ltb (get_or text (i + 3) 0) 128 low,
          ) refl;
    },
  )

-- four bytes that say that more follow, and what the fifth gives
five_by : (k r : ℕ) (text : List ℕ) (i : ℕ) (y : ℤ) → i + 5 ≤ length text → 128 ≤ get_or text i 0 → 128 ≤ get_or text (i + 1) 0 → 128 ≤ get_or text (i + 2) 0
    → 128 ≤ get_or text (i + 3) 0 → ((s : State) → s.rest ≡ drop i text → signed k r (behind 4 s) ≡ Done y (behind 5 s)) → Ends (suc (suc (suc (suc k)))) r text i (i + 5)
unfolding signed
five_by k r text i y inside a b c d last = (
  joined (joined (joined (joined y (get_or text (i + 3) 0)) (get_or text (i + 2) 0)) (get_or text (i + 1) 0)) (get_or text i 0),
  record {
    forward = omega arith;
    inside = inside;
    gives = λ s same.
        let whole : i + 5 - i ≡ 5 = omega arith in
        rw (
          whole,
          first_at text i s same (omega (arith, inside)),
          le-ltb (get_or text i 0) 128 a,
          byte_at text i 1 s same (omega (arith, inside)),
          le-ltb (get_or text (i + 1) 0) 128 b,
          byte_at text i 2 s same (omega (arith, inside)),
          le-ltb (get_or text (i + 2) 0) 128 c,
          byte_at text i 3 s same (omega (arith, inside)),
          le-ltb (get_or text (i + 3) 0) 128 d,
          last s same,
        ) refl;
  },
)

module _ (text : List ℕ) (i : ℕ) (inside : i + 5 ≤ length text) (a : 128 ≤ get_or text i 0) (b : 128 ≤ get_or text (i + 1) 0) (c : 128 ≤ get_or text (i + 2) 0) (d : 128 ≤ get_or text (i + 3) 0) where
  pub five_of_64 : get_or text (i + 4) 0 < 128 → Ends 9 1 text i (i + 5)
  unfolding signed
  five_of_64 low = five_by 5 1 text i (seven_bits (get_or text (i + 4) 0)) inside a b c d
      (λ s same. rw (byte_at text i 4 s same (omega (arith, inside)), lt-ltb (get_or text (i + 4) 0) 128 low) refl)

  pub five_low : get_or text (i + 4) 0 < 8 → Ends 4 4 text i (i + 5)
  unfolding signed last_bits
  five_low low = five_by 0 4 text i (pos (get_or text (i + 4) 0)) inside a b c d
      (λ s same. rw (byte_at text i 4 s same (omega (arith, inside)), lt-ltb (get_or text (i + 4) 0) 8 low) refl)

  pub five_high : 120 ≤ get_or text (i + 4) 0 → get_or text (i + 4) 0 < 128 → Ends 4 4 text i (i + 5)
  unfolding signed last_bits
  five_high high low = five_by 0 4 text i (pos (get_or text (i + 4) 0) -ℤ pos 128) inside a b c d
      (λ s same. rw (
        byte_at text i 4 s same (omega (arith, inside)),
        le-ltb (get_or text (i + 4) 0) 8 (omega (arith, high)),
        le-ltb (get_or text (i + 4) 0) 120 high,
        lt-ltb (get_or text (i + 4) 0) 128 low,
      ) refl)

-- ---- arguments of accesses

offset_of_one : (wide : Bool) (text : List ℕ) (i : ℕ) → i + 1 < length text → get_or text i 0 < 128 → GivesAt (offset wide) text i (get_or text i 0) (i + 1)
unfolding offset
offset_of_one true text i two low = unsigned_of_one text i two 8 1 low
offset_of_one false text i two low = unsigned_of_one text i two 3 4 low

offset_of_two : (wide : Bool) (text : List ℕ) (i : ℕ) → i + 1 < length text → 128 ≤ get_or text i 0 → get_or text (i + 1) 0 < 128
    → GivesAt (offset wide) text i (get_or text (i + 1) 0 * 128 + (get_or text i 0 - 128)) (i + 2)
unfolding offset
offset_of_two true text i two high low = unsigned_of_two text i two 7 1 high low
offset_of_two false text i two high low = unsigned_of_two text i two 2 4 high low

-- flags that name no memory
small_flags : (order memory : Bool) (place b : ℕ) (t : State) → b < 16 → flags_from order memory place b t ≡ Done (flags_in b) t
small_flags order memory place b t lt =
    let d : b / 16 ≡ 0 = omega (arith, lt) in
    let f : b / 32 ≡ 0 = omega (arith, lt) in
    let h : b / 64 ≡ 0 = omega (arith, lt) in
    rw (lt-ltb b 128 (omega (arith, lt)), d, f, h) refl

-- flags that name one
naming_flags : (order : Bool) (place b : ℕ) (t : State) → 64 ≤ b → b < 80 → flags_from order true place b t ≡ Done (flags_in b) t
naming_flags order place b t ge lt =
    let d : b / 16 ≡ 4 = omega (arith, ge, lt) in
    let f : b / 32 ≡ 2 = omega (arith, ge, lt) in
    let h : b / 64 ≡ 1 = omega (arith, ge, lt) in
    rw (lt-ltb b 128 (omega (arith, lt)), d, f, h) refl

module _ (text : List ℕ) (i : ℕ) (lt : i < length text) where
  flags_by : get_or text i 0 < 128 → (order memory : Bool) → ((place : ℕ) (t : State) → flags_from order memory place (get_or text i 0) t ≡ Done (flags_in (get_or text i 0)) t)
      → GivesAt (flags order memory) text i (flags_in (get_or text i 0)) (i + 1)
  unfolding flags
  flags_by low order memory h = record {
    forward = omega arith;
    inside = omega (arith, lt);
    gives = λ s same. rw ((index_of_one text i lt low).gives s same) (h s.place (behind (i + 1 - i) s));
  }

  module _ (features natural : ℕ) (access : AccessOrdering) where
    after_none : get_or text i 0 < 16 → (x e : ℕ) → GivesAt (offset (has Memory64 features)) text (i + 1) x e
        → GivesAt (after_flags features access natural (flags_in (get_or text i 0))) text (i + 1) (argument (get_or text i 0 % 16) natural 0 None x) e
    unfolding after_flags named_memory named_ordering
    after_none small x e g = record {
      forward = g.forward;
      inside = g.inside;
      gives = λ s same.
          let f : get_or text i 0 / 32 ≡ 0 = omega (arith, small) in
          let h : get_or text i 0 / 64 ≡ 0 = omega (arith, small) in
          rw (f, h, g.gives s same) refl;
    }

    -- what follows the index of a memory
    behind_memory : ℕ → Decoder MemArg
    behind_memory n = named_ordering access false >>= λ ordering. offset (has Memory64 features) >>= λ x. pure (argument (get_or text i 0 % 16) natural n ordering x)

    after_memory : (n k x e : ℕ) → GivesAt (offset (has Memory64 features)) text k x e → GivesAt (behind_memory n) text k (argument (get_or text i 0 % 16) natural n None x) e
    unfolding named_ordering behind_memory
    after_memory n k x e g = record { forward = g.forward; inside = g.inside; gives = λ s same. rw (g.gives s same) refl }

    after_one : 64 ≤ get_or text i 0 → get_or text i 0 < 80 → (n k x e : ℕ) → GivesAt u32 text (i + 1) n k → GivesAt (offset (has Memory64 features)) text k x e
        → GivesAt (after_flags features access natural (flags_in (get_or text i 0))) text (i + 1) (argument (get_or text i 0 % 16) natural n None x) e
    unfolding after_flags named_memory behind_memory
    after_one ge small n k x e g o =
        let whole = gives_then u32 text (i + 1) n behind_memory k (argument (get_or text i 0 % 16) natural n None x) e g (after_memory n k x e o) in
        record {
          forward = whole.forward;
          inside = whole.inside;
          gives = λ s same.
              let f : get_or text i 0 / 32 ≡ 2 = omega (arith, ge, small) in
              let h : get_or text i 0 / 64 ≡ 1 = omega (arith, ge, small) in
              rw (f, h) (whole.gives s same);
        }

-- it names no memory
pub names_none : (features : ℕ) (text : List ℕ) (i : ℕ) → i < length text → get_or text i 0 < 16 → NamesMemory features text i 0 (i + 1)
unfolding memory_argument
names_none features text i lt small access natural x e g =
    gives_then (flags (may_order features access) (has MultiMemory features)) text i (flags_in (get_or text i 0)) (after_flags features access natural) (i + 1)
    (argument (get_or text i 0 % 16) natural 0 None x) e
    (flags_by text i lt (omega (arith, small)) (may_order features access) (has MultiMemory features) (λ place t. small_flags _ _ place _ t small))
    (after_none text i lt features natural access small x e g)

-- it names one
pub names_one : (features : ℕ) (text : List ℕ) (i n k : ℕ) → i < length text → 64 ≤ get_or text i 0 → get_or text i 0 < 80 → has MultiMemory features ≡ true
    → GivesAt u32 text (i + 1) n k → NamesMemory features text i n k
unfolding memory_argument
names_one features text i n k lt ge small may g access natural x e o =
    gives_then (flags (may_order features access) (has MultiMemory features)) text i (flags_in (get_or text i 0)) (after_flags features access natural) (i + 1)
    (argument (get_or text i 0 % 16) natural n None x) e
    (flags_by text i lt (omega (arith, small)) (may_order features access) (has MultiMemory features) (λ place t. rw may (naming_flags (may_order features access) place (get_or text i 0) t ge small)))
    (after_one text i lt features natural access ge small n k x e g o)

module _ (t : Tables) (text : List ℕ) (i natural : ℕ) where
  pub argued : (memory k x e address : ℕ) → NamesMemory t.features.0 text i memory k → GivesAt (offset (has Memory64 t.features.0)) text k x e
      → get_or text i 0 % 16 ≤ natural → x < 0x1_0000_0000 → Reaches t memory address → IsArgumentAt t text i natural address e
  argued memory k x e address names g aligned few there = record {
    memory = memory;
    offset = x;
    read = λ access. names access natural x e g;
    aligned = aligned;
    reached = few;
    there = there;
  }

  -- how many bytes it has and the code of the addresses, in one number
  pub argued_long : (e address : ℕ) → IsArgumentAt t text i natural address e → address < 2 → i ≤ e
      → IsArgumentAt t text i natural (((e - i) * 2 + address) % 2) (i + ((e - i) * 2 + address) / 2)
  argued_long e address h few forward =
      let low : ((e - i) * 2 + address) % 2 ≡ address = omega (arith, few) in
      let high : i + ((e - i) * 2 + address) / 2 ≡ e = omega (arith, few, forward) in
      rw (low, high) h

  module _ (small : get_or text i 0 < 16) (inside : i + 2 < length text) (aligned : get_or text i 0 ≤ natural) (has_memory : t.known.memory < no_code) where
    argument_of : (x e : ℕ) → GivesAt (offset (has Memory64 t.features.0)) text (i + 1) x e → x < 0x1_0000_0000 → IsArgumentAt t text i natural t.known.memory e
    argument_of x e g few =
        argued 0 (i + 1) x e t.known.memory (names_none t.features.0 text i (omega (arith, inside)) small) g (omega (arith, small, aligned)) few (λ ids m knows. knows.memory has_memory)

    pub argument_of_one : get_or text (i + 1) 0 < 128 → IsArgumentAt t text i natural t.known.memory (i + 2)
    argument_of_one low =
        let n : i + 1 + 1 ≡ i + 2 = omega arith in
        rw n at (argument_of (get_or text (i + 1) 0) (i + 1 + 1) (offset_of_one (has Memory64 t.features.0) text (i + 1) (omega (arith, inside)) low) (omega (arith, low)))

    pub argument_of_two : 128 ≤ get_or text (i + 1) 0 → get_or text (i + 1) 0 < 256 → get_or text (i + 2) 0 < 128 → IsArgumentAt t text i natural t.known.memory (i + 3)
    argument_of_two high is_byte low =
        let n : i + 1 + 2 ≡ i + 3 = omega arith in
        let m : i + 1 + 1 ≡ i + 2 = omega arith in
        let last : get_or text (i + 1 + 1) 0 < 128 = rw m low in
        rw n at (argument_of _ (i + 1 + 2) (offset_of_two (has Memory64 t.features.0) text (i + 1) (omega (arith, inside)) high last) (omega (arith, last, is_byte)))

-- ---- lengths of copies

pub shorter_none : (to from : ℕ) → to ≡ 0 → (a b : Bool) → to ≡ address_of a → from ≡ address_of b → 0 ≡ address_of (a && b)
shorter_none to from z true b e f = absurd (omega (arith, z, e))
shorter_none to from z false b e f = refl

pub shorter_other : (to from : ℕ) → 0 < to → (a b : Bool) → to ≡ address_of a → from ≡ address_of b → from ≡ address_of (a && b)
shorter_other to from z true b e f = f
shorter_other to from z false b e f = absurd (omega (arith, z, e))

-- ---- an index and how many bytes it has, in one number

pub both_parts : (text : List ℕ) (i x e : ℕ) → GivesAt u32 text i x e → x < 0x100000000 → GivesAt u32 text i (((e - i) * 0x100000000 + x) % 0x100000000) (i + ((e - i) * 0x100000000 + x) / 0x100000000)
both_parts text i x e g few =
    let low : ((e - i) * 0x100000000 + x) % 0x100000000 ≡ x = omega (arith, few) in
    let high : i + ((e - i) * 0x100000000 + x) / 0x100000000 ≡ e = omega (arith, few, g.forward) in
    rw (low, high) g
