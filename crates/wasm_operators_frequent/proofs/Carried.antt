-- Immediates in their frequent forms, at an offset in a slice.
use Rattle.std.proofs.Common.{
  ◌≡◌,
  ℕ,
  ◌+◌,
  ◌-◌,
  ◌/◌,
  ◌%◌,
  ◌<◌,
  ◌≤◌,
  List,
  [],
  ◌∷◌,
  length,
  drop,
  get_or,
  Bool,
  true,
  false,
  None,
  ℤ,
  pos,
  negsuc,
  nat_abs,
  lt-ltb,
  le-ltb,
  w32,
  w64,
  refl,
  sym,
  ap,
  ◌∙◌,
  arith,
}
use Rattle.std.specs.Int.{from_le_bytes}
use Rattle.std.specs.Int.Signed.{lt_z, le_z}
use Rattle.std.proofs.lemmas.Bool.{leb-false}
use Rattle.std.proofs.lemmas.List.{drop_more, length-drop}
use Rattle.wasm_types.specs.decoding.Decoder.{State, Done, Decoder, byte}
use Rattle.wasm_types.specs.decoding.Leb.{unsigned, u32, s32, s33, s64}
use Rattle.wasm_types.specs.decoding.Text.{word, little_endian}
use Rattle.wasm_types.specs.settings.Settings.{Settings}
use Rattle.wasm_types.specs.reader.declared.words.Ieee32.{Ieee32}
use Rattle.wasm_types.specs.reader.declared.words.Ieee64.{Ieee64}
use Rattle.wasm_types.specs.values.Decode.{begins_index}
use Rattle.wasm_types.specs.values.DecodeValues.{value_type, value_type_after}
use Rattle.wasm_types.specs.decoding.Numbers.{behind, GivesAt}
use Rattle.wasm_types.specs.values.declared.value.ValType.TheVariants.{I32, I64, F32, F64}
use Rattle.wasm_types.specs.settings.Features.{has, Memory64, MultiMemory}
use Rattle.wasm_operators_immediates.specs.declared.block.BlockType.{BlockType}
use Rattle.wasm_operators_immediates.specs.declared.block.BlockType.TheVariants.{Empty, Val, FuncType}
use Rattle.wasm_operators_immediates.specs.declared.memory.MemArg.{MemArg}
use Rattle.wasm_operators_immediates.specs.Blocks.{block_type, function_block, value_block, empty_block, indexed}
use Rattle.wasm_operators_immediates.specs.Kinds as kind
use Rattle.wasm_operators_immediates.specs.Kinds.{IndexSpace, Plain}
use Rattle.wasm_operators_immediates.specs.Immediates.{Index, IndexOrZero, Label, Block, MemoryArgument, I32Constant}
use Rattle.wasm_operators_immediates.specs.Immediates.{I64Constant, F32Constant, F64Constant}
use Rattle.wasm_operators_encoding.specs.immediates.Immediates.{immediate, may_index}
use Rattle.wasm_operators_encoding.specs.immediates.Bytes.{index_or_zero, zero_byte}
use Rattle.wasm_operators_encoding.specs.immediates.MemoryArguments.{may_order, flags_in, flags_from, flags, named_memory, named_ordering, offset}
use Rattle.wasm_operators_encoding.specs.immediates.MemoryArguments.{argument, after_flags, memory_argument}
use Rattle.wasm_operators_frequent.proofs.ShortReading.{gives_as, gives_then}

module _ (settings : Settings) (text : List ℕ) (i e : ℕ) where
  pub index_of : (space : IndexSpace) (n : ℕ) → GivesAt u32 text i n e → GivesAt (immediate settings (kind.Index space)) text i (Index space n) e
  unfolding immediate
  index_of space n g = gives_as u32 text i n (Index space) e g

  pub label_of : (n : ℕ) → GivesAt u32 text i n e → GivesAt (immediate settings kind.Label) text i (Label n) e
  unfolding immediate
  label_of n g = gives_as u32 text i n Label e g

  pub i32_of : (n : ℤ) → GivesAt s32 text i n e → GivesAt (immediate settings kind.I32Constant) text i (I32Constant n) e
  unfolding immediate
  i32_of n g = gives_as s32 text i n I32Constant e g

  pub i64_of : (n : ℤ) → GivesAt s64 text i n e → GivesAt (immediate settings kind.I64Constant) text i (I64Constant n) e
  unfolding immediate
  i64_of n g = gives_as s64 text i n I64Constant e g

  pub f32_of : (bits : Ieee32) → GivesAt (word 4) text i bits.0 e → GivesAt (immediate settings kind.F32Constant) text i (F32Constant bits) e
  unfolding immediate
  f32_of bits g = gives_as (word 4) text i bits.0 (λ n. F32Constant (record { 0 = n })) e g

  pub f64_of : (bits : Ieee64) → GivesAt (word 8) text i bits.0 e → GivesAt (immediate settings kind.F64Constant) text i (F64Constant bits) e
  unfolding immediate
  f64_of bits g = gives_as (word 8) text i bits.0 (λ n. F64Constant (record { 0 = n })) e g

  pub block_of : (ty : BlockType) → GivesAt block_type text i ty e → GivesAt (immediate settings kind.Block) text i (Block ty) e
  unfolding immediate
  block_of ty g = gives_as block_type text i ty Block e g

  pub access_of : (natural : ℕ) (m : MemArg) → GivesAt (memory_argument settings.features Plain natural) text i m e
      → GivesAt (immediate settings (kind.MemoryArgument Plain natural)) text i (MemoryArgument Plain natural m) e
  unfolding immediate
  access_of natural m g = gives_as (memory_argument settings.features Plain natural) text i m (MemoryArgument Plain natural) e g

  pub zero_of : (space : IndexSpace) (n : ℕ) → GivesAt (index_or_zero (may_index settings.features space)) text i n e
      → GivesAt (immediate settings (kind.IndexOrZero space)) text i (IndexOrZero space n) e
  unfolding immediate
  zero_of space n g = gives_as (index_or_zero (may_index settings.features space)) text i n (IndexOrZero space) e g

-- ---- forms of one byte

module _ (text : List ℕ) (i b : ℕ) (lt : i < length text) (is : get_or text i 0 ≡ b) where
  parts : (s : State) → s.rest ≡ drop i text → s.rest ≡ b ∷ drop (i + 1) text
  parts s same = rw is at (same ∙ drop_more text i 0 lt)

  byte_there : (s : State) → s.rest ≡ drop i text → byte s ≡ Done b (behind 1 s)
  byte_there s same = rw (parts s same) refl

  u32_there : b < 128 → (s : State) → s.rest ≡ drop i text → u32 s ≡ Done b (behind 1 s)
  unfolding unsigned
  u32_there low s same = rw (byte_there s same, lt-ltb b 128 low) refl

  by_one : {X : Type 0} (d : Decoder X) (x : X) → ((s : State) → s.rest ≡ drop i text → d s ≡ Done x (behind 1 s)) → GivesAt d text i x (i + 1)
  by_one d x h = record { forward = omega arith; inside = omega arith; gives = λ s same. let one : i + 1 - i ≡ 1 = omega arith in rw one (h s same) }

  -- what is read of any state that begins with this byte
  by_first : {X : Type 0} (d : Decoder X) (x : X) → ((s : State) (rest : List ℕ)
      → d (record s { rest = b ∷ rest }) ≡ Done x (record s { rest = rest; place = s.place + 1 })) → GivesAt d text i x (i + 1)
  by_first d x h = by_one d x (λ s same.
      ap (λ (r : List ℕ). d (record s { rest = r })) (parts s same) ∙ h s (drop (i + 1) text)
      ∙ ap (λ (r : List ℕ). Done x (record s { rest = drop 1 r; place = s.place + 1 })) (sym (parts s same)))

module _ (text : List ℕ) (i : ℕ) (lt : i < length text) where
  pub zero_there : get_or text i 0 ≡ 0 → (allowed : Bool) → GivesAt (index_or_zero allowed) text i 0 (i + 1)
  unfolding index_or_zero zero_byte
  zero_there is true = by_one text i 0 lt is u32 0 (u32_there text i 0 lt is (omega arith))
  zero_there is false = by_one text i 0 lt is zero_byte 0 (λ s same. rw (byte_there text i 0 lt is s same) refl)

  pub empty_there : get_or text i 0 ≡ 0x40 → GivesAt block_type text i Empty (i + 1)
  unfolding block_type empty_block
  empty_there is = by_first text i 0x40 lt is block_type Empty (λ s rest. refl)

  pub i32_there : get_or text i 0 ≡ 0x7f → GivesAt block_type text i (Val I32) (i + 1)
  unfolding block_type value_block value_type value_type_after
  i32_there is = by_first text i 0x7f lt is block_type (Val I32) (λ s rest. refl)

  pub i64_there : get_or text i 0 ≡ 0x7e → GivesAt block_type text i (Val I64) (i + 1)
  unfolding block_type value_block value_type value_type_after
  i64_there is = by_first text i 0x7e lt is block_type (Val I64) (λ s rest. refl)

  pub f32_there : get_or text i 0 ≡ 0x7d → GivesAt block_type text i (Val F32) (i + 1)
  unfolding block_type value_block value_type value_type_after
  f32_there is = by_first text i 0x7d lt is block_type (Val F32) (λ s rest. refl)

  pub f64_there : get_or text i 0 ≡ 0x7c → GivesAt block_type text i (Val F64) (i + 1)
  unfolding block_type value_block value_type value_type_after
  f64_there is = by_first text i 0x7c lt is block_type (Val F64) (λ s rest. refl)

-- ---- the index of a type, where a block type stands

-- a number that is not negative, of at most 32 bits
indexed_by : (n : ℤ) (s : State) → lt_z n (pos 0) ≡ false → le_z (pos 0x1_0000_0000) n ≡ false → indexed n s ≡ Done (FuncType (nat_abs n)) s
indexed_by (pos n) s some small = rw (lt-ltb n 0x1_0000_0000 (leb-false 0x1_0000_0000 n small)) refl
indexed_by (negsuc n) s some small = absurd cc

module _ (text : List ℕ) (i : ℕ) (lt : i < length text) (is : begins_index (get_or text i 0) ≡ true) where
  block_by_index : (s : State) → s.rest ≡ drop i text → block_type s ≡ function_block s
  unfolding block_type
  block_by_index s same = rw (same ∙ drop_more text i 0 lt, is) refl

  pub index_there : (n : ℤ) (e : ℕ) → lt_z n (pos 0) ≡ false → le_z (pos 0x1_0000_0000) n ≡ false → GivesAt s33 text i n e → GivesAt block_type text i (FuncType (nat_abs n)) e
  unfolding function_block
  index_there n e some small g = record {
    forward = g.forward;
    inside = g.inside;
    gives = λ s same. block_by_index s same ∙ rw (g.gives s same) (indexed_by n (behind (e - i) s) some small);
  }

-- ---- memory arguments

-- an exponent alone
small_flags : (order memory : Bool) (place b : ℕ) (t : State) → b < 16 → flags_from order memory place b t ≡ Done (flags_in b) t
small_flags order memory place b t lt =
    let d : b / 16 ≡ 0 = omega arith in
    let f : b / 32 ≡ 0 = omega arith in
    let h : b / 64 ≡ 0 = omega arith in
    rw (lt-ltb b 128 (omega arith), d, f, h) refl

module _ (features natural : ℕ) (text : List ℕ) (i b : ℕ) (lt : i < length text) (is : get_or text i 0 ≡ b) (small : b < 16) where
  flags_there : (order memory : Bool) → GivesAt (flags order memory) text i (flags_in b) (i + 1)
  unfolding flags
  flags_there order memory = by_one text i b lt is (flags order memory) (flags_in b) (λ s same.
      rw (u32_there text i b lt is (omega arith) s same) (small_flags order memory s.place b (behind 1 s) small))

  after_there : (x e : ℕ) → GivesAt (offset (has Memory64 features)) text (i + 1) x e
      → GivesAt (after_flags features Plain natural (flags_in b)) text (i + 1) (argument b natural 0 None x) e
  unfolding after_flags named_memory named_ordering
  after_there x e g = record {
    forward = g.forward;
    inside = g.inside;
    gives = λ s same.
        let q : b % 16 ≡ b = omega arith in
        let f : b / 32 ≡ 0 = omega arith in
        let h : b / 64 ≡ 0 = omega arith in
        rw (q, f, h, g.gives s same) refl;
  }

  pub access_there : (wide : Bool) (x e : ℕ) → GivesAt (offset wide) text (i + 1) x e → wide ≡ has Memory64 features
      → GivesAt (memory_argument features Plain natural) text i (argument b natural 0 None x) e
  unfolding memory_argument
  access_there wide x e g same =
      gives_then (flags (may_order features Plain) (has MultiMemory features)) text i (flags_in b) (after_flags features Plain natural) (i + 1) (argument b natural 0 None x) e
      (flags_there (may_order features Plain) (has MultiMemory features)) (after_there x e (rw same at g))

-- ---- words

module _ (text : List ℕ) (i : ℕ) where
  pub word_4_there : (n m : ℕ) → n ≡ from_le_bytes w32
      (get_or text i 0 ∷ get_or text (i + 1) 0 ∷ get_or text (i + 2) 0 ∷ get_or text (i + 3) 0 ∷ []) → m ≡ n
      → i + 4 ≤ length text → GivesAt (word 4) text i m (i + 4)
  unfolding word
  word_4_there n m e same_number le =
      let at_1 : i + 1 + 1 ≡ i + 2 = omega arith in
      let at_2 : i + 2 + 1 ≡ i + 3 = omega arith in
      let at_3 : i + 3 + 1 ≡ i + 4 = omega arith in
      let from_3 : drop (i + 3) text ≡ get_or text (i + 3) 0 ∷ drop (i + 4) text = rw at_3 at (drop_more text (i + 3) 0 (omega (arith, le))) in
      let from_2 : drop (i + 2) text ≡ get_or text (i + 2) 0 ∷ get_or text (i + 3) 0 ∷ drop (i + 4) text =
      (rw at_2 at (drop_more text (i + 2) 0 (omega (arith, le)))) ∙ ap (λ (r : List ℕ). get_or text (i + 2) 0 ∷ r) from_3 in
      let from_1 : drop (i + 1) text ≡ get_or text (i + 1) 0 ∷ get_or text (i + 2) 0 ∷ get_or text (i + 3) 0 ∷ drop (i + 4) text =
      (rw at_1 at (drop_more text (i + 1) 0 (omega (arith, le)))) ∙ ap (λ (r : List ℕ). get_or text (i + 1) 0 ∷ r) from_2 in
      let from_0 : drop i text ≡ get_or text i 0 ∷ get_or text (i + 1) 0 ∷ get_or text (i + 2) 0 ∷ get_or text (i + 3) 0 ∷ drop
      (i + 4) text = (drop_more text i 0 (omega (arith, le))) ∙ ap (λ (r : List ℕ). get_or text i 0 ∷ r) from_1 in
      let value : m ≡ little_endian (get_or text i 0 ∷ get_or text (i + 1) 0 ∷ get_or text (i + 2) 0 ∷ get_or text (i + 3) 0 ∷ []) = omega (arith, e, same_number) in
      record {
        forward = omega arith;
        inside = le;
        gives = λ s same.
            let one : i + 4 - i ≡ 4 = omega arith in
            let parts = same ∙ from_0 in
            let enough : 4 ≤ length s.rest = omega (arith, le, ap (λ (r : List ℕ). length r) same, length-drop i text) in
            rw (one, le-ltb (length s.rest) 4 enough, parts, value) refl;
      }

  pub word_8_there : (n m : ℕ) → n ≡ from_le_bytes w64
      (get_or text i 0 ∷ get_or text (i + 1) 0 ∷ get_or text (i + 2) 0 ∷ get_or text (i + 3) 0 ∷ get_or text
      (i + 4) 0 ∷ get_or text (i + 5) 0 ∷ get_or text (i + 6) 0 ∷ get_or text (i + 7) 0 ∷ []) → m ≡ n → i + 8 ≤ length text
      → GivesAt (word 8) text i m (i + 8)
  unfolding word
  word_8_there n m e same_number le =
      let at_1 : i + 1 + 1 ≡ i + 2 = omega arith in
      let at_2 : i + 2 + 1 ≡ i + 3 = omega arith in
      let at_3 : i + 3 + 1 ≡ i + 4 = omega arith in
      let at_4 : i + 4 + 1 ≡ i + 5 = omega arith in
      let at_5 : i + 5 + 1 ≡ i + 6 = omega arith in
      let at_6 : i + 6 + 1 ≡ i + 7 = omega arith in
      let at_7 : i + 7 + 1 ≡ i + 8 = omega arith in
      let from_7 : drop (i + 7) text ≡ get_or text (i + 7) 0 ∷ drop (i + 8) text = rw at_7 at (drop_more text (i + 7) 0 (omega (arith, le))) in
      let from_6 : drop (i + 6) text ≡ get_or text (i + 6) 0 ∷ get_or text (i + 7) 0 ∷ drop (i + 8) text =
      (rw at_6 at (drop_more text (i + 6) 0 (omega (arith, le)))) ∙ ap (λ (r : List ℕ). get_or text (i + 6) 0 ∷ r) from_7 in
      let from_5 : drop (i + 5) text ≡ get_or text (i + 5) 0 ∷ get_or text (i + 6) 0 ∷ get_or text (i + 7) 0 ∷ drop (i + 8) text =
      (rw at_5 at (drop_more text (i + 5) 0 (omega (arith, le)))) ∙ ap (λ (r : List ℕ). get_or text (i + 5) 0 ∷ r) from_6 in
      let from_4 : drop (i + 4) text ≡ get_or text (i + 4) 0 ∷ get_or text (i + 5) 0 ∷ get_or text (i + 6) 0 ∷ get_or text
      (i + 7) 0 ∷ drop (i + 8) text = (rw at_4 at (drop_more text (i + 4) 0 (omega (arith, le))))
      ∙ ap (λ (r : List ℕ). get_or text (i + 4) 0 ∷ r) from_5 in
      let from_3 : drop (i + 3) text ≡ get_or text (i + 3) 0 ∷ get_or text (i + 4) 0 ∷ get_or text (i + 5) 0 ∷ get_or text
      (i + 6) 0 ∷ get_or text (i + 7) 0 ∷ drop (i + 8) text = (rw at_3 at (drop_more text (i + 3) 0 (omega (arith, le))))
      ∙ ap (λ (r : List ℕ). get_or text (i + 3) 0 ∷ r) from_4 in
      let from_2 : drop (i + 2) text ≡ get_or text (i + 2) 0 ∷ get_or text (i + 3) 0 ∷ get_or text (i + 4) 0 ∷ get_or text
      (i + 5) 0 ∷ get_or text (i + 6) 0 ∷ get_or text (i + 7) 0 ∷ drop (i + 8) text =
      (rw at_2 at (drop_more text (i + 2) 0 (omega (arith, le)))) ∙ ap (λ (r : List ℕ). get_or text (i + 2) 0 ∷ r) from_3 in
      let from_1 : drop (i + 1) text ≡ get_or text (i + 1) 0 ∷ get_or text (i + 2) 0 ∷ get_or text (i + 3) 0 ∷ get_or text
      (i + 4) 0 ∷ get_or text (i + 5) 0 ∷ get_or text (i + 6) 0 ∷ get_or text (i + 7) 0 ∷ drop (i + 8) text =
      (rw at_1 at (drop_more text (i + 1) 0 (omega (arith, le)))) ∙ ap (λ (r : List ℕ). get_or text (i + 1) 0 ∷ r) from_2 in
      let from_0 : drop i text ≡ get_or text i 0 ∷ get_or text (i + 1) 0 ∷ get_or text (i + 2) 0 ∷ get_or text
      (i + 3) 0 ∷ get_or text (i + 4) 0 ∷ get_or text (i + 5) 0 ∷ get_or text (i + 6) 0 ∷ get_or text (i + 7) 0 ∷ drop
      (i + 8) text = (drop_more text i 0 (omega (arith, le))) ∙ ap (λ (r : List ℕ). get_or text i 0 ∷ r) from_1 in
      let value : m ≡ little_endian (get_or text i 0 ∷ get_or text (i + 1) 0 ∷ get_or text (i + 2) 0 ∷ get_or text
      (i + 3) 0 ∷ get_or text (i + 4) 0 ∷ get_or text (i + 5) 0 ∷ get_or text (i + 6) 0 ∷ get_or text (i + 7) 0 ∷ []) =
      omega (arith, e, same_number) in
      record {
        forward = omega arith;
        inside = le;
        gives = λ s same.
            let one : i + 8 - i ≡ 8 = omega arith in
            let parts = same ∙ from_0 in
            let enough : 8 ≤ length s.rest = omega (arith, le, ap (λ (r : List ℕ). length r) same, length-drop i text) in
            rw (one, le-ltb (length s.rest) 8 enough, parts, value) refl;
      }
