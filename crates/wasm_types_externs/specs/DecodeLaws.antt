-- The readers of the types of tables, memories, globals and tags are lawful, and read exactly what the bytes spell.
use Rattle.std.proofs.Common.{◌≡◌, ℕ, ◌+◌, ◌*◌, ◌/◌, ◌%◌, ◌<◌, ◌≤◌, List, [], ◌∷◌, ◌++◌, refl, sym, ap, ◌∙◌, subst, arith, ltb, eqb, Bool, true, false, Option, Some, None}
use Rattle.std.specs.Prelude.{nat_lt, ◌==◌}
use Rattle.std.specs.Option.{is_some}
use Rattle.std.proofs.lemmas.Bool.{eqb-true, eqb-false, ltb-true, ltb-false}
use Rattle.wasm_types_values.specs.decoding.declared.Refusal.TheVariants.{Other}
use Rattle.wasm_types_values.specs.decoding.Decoder.{Decoder, Grammar, ◌>>=◌, byte, IsLawful, Decides, Then}
use Rattle.wasm_types_values.specs.decoding.Laws.{lawful-byte, lawful->>=, lawful-pure, lawful-refuse, lawful-if}
use Rattle.wasm_types_values.specs.decoding.ExactLaws.{Mapped, decides->>=, decides-same, decides-pure, decides-refuse, decides-if, decides-map, decides-byte}
use Rattle.wasm_types_values.specs.decoding.Leb.{u32, IsUnsigned}
use Rattle.wasm_types_values.specs.decoding.LebLaws.{lawful-unsigned, decides-u32, decides-u64}
use Rattle.wasm_types_values.specs.declared.value.ValType.{ValType}
use Rattle.wasm_types_values.specs.Reference.{Reference}
use Rattle.wasm_types_values.specs.Decode.{reference_type}
use Rattle.wasm_types_values.specs.DecodeValues.{value_type}
use Rattle.wasm_types_values.specs.DecodeLaws.{lawful-reference_type, lawful-value_type}
use Rattle.wasm_types_values.specs.HeapLaws.{heads, tails}
use Rattle.wasm_types_values.specs.Spelled.{SpelledReference}
use Rattle.wasm_types_values.specs.ReferenceLaws.{decides-reference_type}
use Rattle.wasm_types_values.specs.Spelled.{SpelledValue}
use Rattle.wasm_types_values.specs.ValueLaws.{decides-value_type}
use Rattle.wasm_types_externs.specs.declared.limits.LimitsFlags.{LimitsFlags}
use Rattle.wasm_types_externs.specs.declared.table.TableType.{TableType}
use Rattle.wasm_types_externs.specs.declared.memory.MemoryType.{MemoryType}
use Rattle.wasm_types_externs.specs.declared.global.GlobalType.{GlobalType}
use Rattle.wasm_types_externs.specs.declared.tag.TagKind.{TagKind}
use Rattle.wasm_types_externs.specs.declared.tag.TagKind.TheVariants.{Exception}
use Rattle.wasm_types_externs.specs.declared.tag.TagType.{TagType}
use Rattle.wasm_types_externs.specs.Spells.{bit, number_of, flags, width, IfWritten, memory_flags, table_flags, SpelledMemory, SpelledTable, SpelledGlobal, SpelledTag}
use Rattle.wasm_types_externs.specs.Decode.{flags_in, flags_after, limits_flags, size, written, memory_of, memory_after, memory_type, table_of}
use Rattle.wasm_types_externs.specs.Decode.{table_after, table_type, global_of, global_after, global_type, tag_of, tag_after, tag_type}

-- ---- flags

pub lawful-limits_flags : (bound : ℕ) → IsLawful (limits_flags bound)
unfolding limits_flags
lawful-limits_flags bound = lawful->>= byte (flags_after bound) lawful-byte (λ b. lawful-if (nat_lt b bound) _ _ (lawful-pure (flags_in b)) (lawful-refuse Other 1))

-- flags in a byte, of a number below this one
abbrev IsFlags : ℕ → Grammar LimitsFlags
IsFlags bound f text = (number_of f < bound) × (text ≡ number_of f ∷ [])

bit_of : (m : ℕ) → m < 2 → bit (m == 1) ≡ m
bit_of m lt = go (m == 1) refl
  where
    go : (b : Bool) → (m == 1) ≡ b → bit b ≡ m
    go true e = let is : m ≡ 1 = eqb-true _ _ e in omega (arith, is)
    go false e = let not = eqb-false _ _ e in omega (arith, not, lt)

bit_small : (b : Bool) → bit b < 2
bit_small true = omega arith
bit_small false = omega arith

bit_zero : (b : Bool) → bit b < 1 → b ≡ false
bit_zero true lt = absurd (omega (arith, lt))
bit_zero false lt = refl

-- a number below 16 is the number of its flags
number_back : (n : ℕ) → n < 16 → number_of (flags_in n) ≡ n
number_back n lt = omega (arith, lt, bit_of (n % 2) (omega arith), bit_of (n / 2 % 2) (omega arith), bit_of (n / 4 % 2) (omega arith), bit_of (n / 8 % 2) (omega arith))

-- flags are those of their number
flags_back : (a b c d : Bool) → flags_in (number_of (flags a b c d)) ≡ flags a b c d
flags_back true true true true = refl
flags_back true true true false = refl
flags_back true true false true = refl
flags_back true true false false = refl
flags_back true false true true = refl
flags_back true false true false = refl
flags_back true false false true = refl
flags_back true false false false = refl
flags_back false true true true = refl
flags_back false true true false = refl
flags_back false true false true = refl
flags_back false true false false = refl
flags_back false false true true = refl
flags_back false false true false = refl
flags_back false false false true = refl
flags_back false false false false = refl

flags_from : (b : ℕ) (f : LimitsFlags) → b ≡ number_of f → f ≡ flags_in b
flags_from b f e = sym (ap flags_in e ∙ flags_back f.has_maximum f.shared f.wide f.has_page_size)

module _ (bound : ℕ) (fits : bound ≤ 16) where
  decides-flags_after : (b : ℕ) → Decides (flags_after bound b) (λ f text. IsFlags bound f (b ∷ text))
  decides-flags_after b = decides-if (ltb b bound) _ _ _
      (λ t. let lt : b < bound = ltb-true _ _ t in
      let is : number_of (flags_in b) ≡ b = number_back b (omega (arith, lt, fits)) in
      decides-pure (flags_in b) (λ f text. IsFlags bound f (b ∷ text)) (omega (arith, is, lt), ap (λ (n : ℕ). n ∷ []) (sym is))
      (λ f text h. (flags_from b f (heads b (number_of f) text [] h.1), tails b (number_of f) text [] h.1)))
      (λ w. let le : bound ≤ b = ltb-false _ _ w in
      decides-refuse Other 1 (λ f text. IsFlags bound f (b ∷ text)) (λ f text h. omega (arith, le, h.0, heads b (number_of f) text [] h.1)))

  decides-limits_flags : Decides (limits_flags bound) (IsFlags bound)
  unfolding limits_flags
  decides-limits_flags = decides-byte (flags_after bound) (IsFlags bound) (λ f h. let no : [] ≡ number_of f ∷ [] = h.1 in cc) decides-flags_after

-- ---- numbers, and what is written or not

lawful-size : (wide : Bool) → IsLawful (size wide)
unfolding size
lawful-size true = lawful-unsigned 9 1
lawful-size false = lawful-unsigned 4 4

decides-size : (wide : Bool) → Decides (size wide) (IsUnsigned (width wide))
unfolding size
decides-size true = decides-u64
decides-size false = decides-u32

module _ {A : Type 0} (d : Decoder A) where
  lawful-written : (is : Bool) → IsLawful d → IsLawful (written is d)
  unfolding written
  lawful-written true l = lawful->>= d _ l (λ x. lawful-pure (Some x))
  lawful-written false l = lawful-pure None

  module _ (g : Grammar A) where
    -- what is written, where it is
    abbrev IsWritten : Bool → Grammar (Option A)
    IsWritten is o text = (is_some o ≡ is) × IfWritten g o text

    abbrev some : A → Option A
    some x = Some x

    some_to : (o : Option A) (text : List ℕ) → Mapped some g o text → IsWritten true o text
    some_to o text h = subst (λ (k : Option A). IsWritten true k text) (sym h.2) (refl, h.1)

    some_from : (o : Option A) (text : List ℕ) → IsWritten true o text → Mapped some g o text
    some_from (Some x) text h = (x, h.1, refl)
    some_from None text h = absurd (let no : false ≡ true = h.0 in cc)

    none_only : (o : Option A) (text : List ℕ) → IsWritten false o text → (o ≡ None) × (text ≡ [])
    none_only (Some x) text h = absurd (let no : true ≡ false = h.0 in cc)
    none_only None text h = (refl, h.1)

    decides-written : (is : Bool) → Decides d g → Decides (written is d) (IsWritten is)
    unfolding written
    decides-written true dg = decides-same _ (Mapped some g) (IsWritten true) (decides-map d some g dg) some_to some_from
    decides-written false dg = decides-pure None (IsWritten false) (refl, refl) none_only

-- ---- memories

lawful-memory_after : (f : LimitsFlags) → IsLawful (memory_after f)
unfolding memory_after
lawful-memory_after f =
    lawful->>= (size f.wide) _ (lawful-size f.wide) (λ low.
    lawful->>= (written f.has_maximum (size f.wide)) _ (lawful-written (size f.wide) f.has_maximum (lawful-size f.wide)) (λ high.
    lawful->>= (written f.has_page_size u32) _ (lawful-written u32 f.has_page_size (lawful-unsigned 4 4)) (λ page.
    lawful-pure (memory_of f low high page))))

pub lawful-memory_type : IsLawful memory_type
unfolding memory_type
lawful-memory_type = lawful->>= (limits_flags 16) memory_after (lawful-limits_flags 16) lawful-memory_after

abbrev SizeWritten : LimitsFlags → Grammar (Option ℕ)
SizeWritten f = IsWritten (size f.wide) (IsUnsigned (width f.wide)) f.has_maximum

decides-size_written : (f : LimitsFlags) → Decides (written f.has_maximum (size f.wide)) (SizeWritten f)
decides-size_written f = decides-written (size f.wide) (IsUnsigned (width f.wide)) f.has_maximum (decides-size f.wide)

abbrev page_behind : LimitsFlags → ℕ → Option ℕ → Grammar MemoryType
page_behind f low high = Mapped (memory_of f low high) (IsWritten u32 (IsUnsigned 32) f.has_page_size)

abbrev maximum_behind : LimitsFlags → ℕ → Grammar MemoryType
maximum_behind f low = Then (SizeWritten f) (page_behind f low)

abbrev memory_behind : LimitsFlags → Grammar MemoryType
memory_behind f = Then (IsUnsigned (width f.wide)) (maximum_behind f)

decides-memory_after : (f : LimitsFlags) → Decides (memory_after f) (memory_behind f)
unfolding memory_after
decides-memory_after f =
    decides->>= (size f.wide) _ (IsUnsigned (width f.wide)) (maximum_behind f) (decides-size f.wide) (λ low.
    decides->>= (written f.has_maximum (size f.wide)) _ (SizeWritten f) (page_behind f low) (decides-size_written f) (λ high.
    decides-map (written f.has_page_size u32) (memory_of f low high) (IsWritten u32 (IsUnsigned 32) f.has_page_size)
    (decides-written u32 (IsUnsigned 32) f.has_page_size decides-u32)))

same_flags : (a b c d : Bool) (p q r s : Bool) → a ≡ p → b ≡ q → c ≡ r → d ≡ s → flags a b c d ≡ flags p q r s
same_flags a b c d p q r s e f g h = λ i. flags (e i) (f i) (g i) (h i)

number_small : (f : LimitsFlags) → number_of f < 16
number_small f = omega (arith, bit_small f.has_maximum, bit_small f.shared, bit_small f.wide, bit_small f.has_page_size)

-- the byte of flags, and what is behind it
joined : (n k : ℕ) (text front back : List ℕ) → text ≡ front ++ back → front ≡ n ∷ [] → n ≡ k → text ≡ k ∷ back
joined n k text front back e f g = e ∙ ap (λ (z : List ℕ). z ++ back) f ∙ ap (λ (z : ℕ). z ∷ back) g

memory_to : (m : MemoryType) (text : List ℕ) → Then (IsFlags 16) memory_behind m text → SpelledMemory m text
memory_to m text h =
    let f : LimitsFlags = h.value in
    let a = h.second in
    let b = a.second in
    let c = b.second in
    let is : f ≡ memory_flags (memory_of f a.value b.value c.0) = same_flags _ _ _ _ _ _ _ _ (sym b.first.0) refl refl (sym c.1.0) in
    subst (λ (k : MemoryType). SpelledMemory k text) (sym c.2) (record {
      initial = a.front;
      maximum = b.front;
      page_size = b.back;
      least = a.first;
      most = b.first.1;
      page = c.1.1;
      whole = joined (number_of f) _ text h.front _ (h.whole ∙ ap (λ (z : List ℕ). h.front ++ z) (a.whole ∙ ap (λ (z : List ℕ). a.front ++ z) b.whole)) h.first.1 (ap number_of is);
    })

memory_from : (m : MemoryType) (text : List ℕ) → SpelledMemory m text → Then (IsFlags 16) memory_behind m text
memory_from m text h = record {
  value = memory_flags m;
  front = number_of (memory_flags m) ∷ [];
  back = h.initial ++ (h.maximum ++ h.page_size);
  first = (number_small (memory_flags m), refl);
  second = record {
    value = m.initial;
    front = h.initial;
    back = h.maximum ++ h.page_size;
    first = h.least;
    second = record {
      value = m.maximum;
      front = h.maximum;
      back = h.page_size;
      first = (refl, h.most);
      second = (m.page_size_log2, (refl, h.page), refl);
      whole = refl;
    };
    whole = refl;
  };
  whole = h.whole;
}

pub decides-memory_type : Decides memory_type SpelledMemory
unfolding memory_type
decides-memory_type = decides-same _ (Then (IsFlags 16) memory_behind) SpelledMemory
    (decides->>= (limits_flags 16) memory_after (IsFlags 16) memory_behind (decides-limits_flags 16 (omega arith)) decides-memory_after) memory_to memory_from

-- ---- tables

pub lawful-table_after : (r : Reference) (f : LimitsFlags) → IsLawful (table_after r f)
unfolding table_after
lawful-table_after r f =
    lawful->>= (size f.wide) _ (lawful-size f.wide) (λ low.
    lawful->>= (written f.has_maximum (size f.wide)) _ (lawful-written (size f.wide) f.has_maximum (lawful-size f.wide)) (λ high.
    lawful-pure (table_of r f low high)))

pub lawful-table_type : IsLawful table_type
unfolding table_type
lawful-table_type = lawful->>= reference_type _ lawful-reference_type (λ r. lawful->>= (limits_flags 8) (table_after r) (lawful-limits_flags 8) (lawful-table_after r))

abbrev most_behind : Reference → LimitsFlags → ℕ → Grammar TableType
most_behind r f low = Mapped (table_of r f low) (SizeWritten f)

abbrev limits_behind : Reference → LimitsFlags → Grammar TableType
limits_behind r f = Then (IsUnsigned (width f.wide)) (most_behind r f)

abbrev element_behind : Reference → Grammar TableType
element_behind r = Then (IsFlags 8) (limits_behind r)

decides-table_after : (r : Reference) (f : LimitsFlags) → Decides (table_after r f) (limits_behind r f)
unfolding table_after
decides-table_after r f =
    decides->>= (size f.wide) _ (IsUnsigned (width f.wide)) (most_behind r f) (decides-size f.wide) (λ low.
    decides-map (written f.has_maximum (size f.wide)) (table_of r f low) (SizeWritten f) (decides-size_written f))

no_page : (f : LimitsFlags) → number_of f < 8 → f.has_page_size ≡ false
no_page f lt = bit_zero f.has_page_size (omega (arith, lt))

table_to : (t : TableType) (text : List ℕ) → Then SpelledReference element_behind t text → SpelledTable t text
table_to t text h =
    let b = h.second in
    let f : LimitsFlags = b.value in
    let c = b.second in
    let d = c.second in
    let is : f ≡ table_flags (table_of h.value f c.value d.0) = same_flags _ _ _ _ _ _ _ _ (sym d.1.0) refl refl (no_page f b.first.0) in
    subst (λ (k : TableType). SpelledTable k text) (sym d.2) (record {
      element = h.front;
      initial = c.front;
      maximum = c.back;
      stored = h.first;
      least = c.first;
      most = d.1.1;
      whole = h.whole ∙ ap (λ (z : List ℕ). h.front ++ z) (joined (number_of f) _ h.back b.front _
          (b.whole ∙ ap (λ (z : List ℕ). b.front ++ z) c.whole) b.first.1 (ap number_of is));
    })

table_small : (t : TableType) → number_of (table_flags t) < 8
table_small t = omega (arith, bit_small (is_some t.maximum), bit_small t.shared, bit_small t.table64)

table_from : (t : TableType) (text : List ℕ) → SpelledTable t text → Then SpelledReference element_behind t text
table_from t text h = record {
  value = t.element_type;
  front = h.element;
  back = number_of (table_flags t) ∷ (h.initial ++ h.maximum);
  first = h.stored;
  second = record {
    value = table_flags t;
    front = number_of (table_flags t) ∷ [];
    back = h.initial ++ h.maximum;
    first = (table_small t, refl);
    second = record {
      value = t.initial;
      front = h.initial;
      back = h.maximum;
      first = h.least;
      second = (t.maximum, (refl, h.most), refl);
      whole = refl;
    };
    whole = refl;
  };
  whole = h.whole;
}

pub decides-table_type : Decides table_type SpelledTable
unfolding table_type
decides-table_type = decides-same _ (Then SpelledReference element_behind) SpelledTable
    (decides->>= reference_type _ SpelledReference element_behind decides-reference_type (λ r.
    decides->>= (limits_flags 8) (table_after r) (IsFlags 8) (limits_behind r) (decides-limits_flags 8 (omega arith)) (decides-table_after r)))
    table_to table_from

-- ---- globals

pub lawful-global_type : IsLawful global_type
unfolding global_type
lawful-global_type = lawful->>= value_type _ lawful-value_type
    (λ v. lawful->>= byte (global_after v) lawful-byte (λ b. lawful-if (nat_lt b 4) _ _ (lawful-pure (global_of v b)) (lawful-refuse Other 1)))

-- a global of this type by its byte
abbrev GlobalBehind : ValType → Grammar GlobalType
GlobalBehind v g text = (g.content_type ≡ v) × (text ≡ (bit g.mutable + 2 * bit g.shared) ∷ [])

global_back : (v : ValType) (b : ℕ) → b < 4 → b ≡ bit (b % 2 == 1) + 2 * bit (b / 2 % 2 == 1)
global_back v b lt = omega (arith, lt, bit_of (b % 2) (omega arith), bit_of (b / 2 % 2) (omega arith))

abbrev with_bits : ValType → Bool → Bool → GlobalType
with_bits v m s = record { content_type = v; mutable = m; shared = s }

global_bits : (v : ValType) (m s : Bool) → with_bits v m s ≡ global_of v (bit m + 2 * bit s)
global_bits v true true = refl
global_bits v true false = refl
global_bits v false true = refl
global_bits v false false = refl

global_is : (v : ValType) (b : ℕ) (g : GlobalType) → g.content_type ≡ v → b ≡ bit g.mutable + 2 * bit g.shared → g ≡ global_of v b
global_is v b g e n = ap (λ (w : ValType). with_bits w g.mutable g.shared) e ∙ global_bits v g.mutable g.shared ∙ sym (ap (global_of v) n)

decides-global_after : (v : ValType) (b : ℕ) → Decides (global_after v b) (λ g text. GlobalBehind v g (b ∷ text))
decides-global_after v b = decides-if (ltb b 4) _ _ _
    (λ t. let lt : b < 4 = ltb-true _ _ t in
    decides-pure (global_of v b) (λ g text. GlobalBehind v g (b ∷ text)) (refl, ap (λ (n : ℕ). n ∷ []) (global_back v b lt))
    (λ g text h. (global_is v b g h.0 (heads b _ text [] h.1), tails b _ text [] h.1)))
    (λ w. let le : 4 ≤ b = ltb-false _ _ w in
    decides-refuse Other 1 (λ g text. GlobalBehind v g (b ∷ text))
    (λ g text h. omega (arith, le, bit_small g.mutable, bit_small g.shared, heads b (bit g.mutable + 2 * bit g.shared) text [] h.1)))

decides-global_behind : (v : ValType) → Decides (byte >>= global_after v) (GlobalBehind v)
decides-global_behind v = decides-byte (global_after v) (GlobalBehind v) (λ g h. let no : [] ≡ (bit g.mutable + 2 * bit g.shared) ∷ [] = h.1 in cc) (decides-global_after v)

global_to : (g : GlobalType) (text : List ℕ) → Then SpelledValue GlobalBehind g text → SpelledGlobal g text
global_to g text h = record {
  content = h.front;
  stored = subst (λ (v : ValType). SpelledValue v h.front) (sym h.second.0) h.first;
  whole = h.whole ∙ ap (λ (z : List ℕ). h.front ++ z) h.second.1;
}

global_from : (g : GlobalType) (text : List ℕ) → SpelledGlobal g text → Then SpelledValue GlobalBehind g text
global_from g text h = record {
  value = g.content_type;
  front = h.content;
  back = (bit g.mutable + 2 * bit g.shared) ∷ [];
  first = h.stored;
  second =
      (refl, refl);
  whole = h.whole;
}

pub decides-global_type : Decides global_type SpelledGlobal
unfolding global_type
decides-global_type = decides-same _ (Then SpelledValue GlobalBehind) SpelledGlobal
    (decides->>= value_type _ SpelledValue GlobalBehind decides-value_type decides-global_behind) global_to global_from

-- ---- tags

pub lawful-tag_type : IsLawful tag_type
unfolding tag_type
lawful-tag_type = lawful->>= byte tag_after lawful-byte (λ b. lawful-if (b == 0) _ _ (lawful->>= u32 _ (lawful-unsigned 4 4) (λ x. lawful-pure (tag_of x))) (lawful-refuse Other 1))

abbrev tag_with : TagKind → ℕ → TagType
tag_with k x = record { kind = k; func_type_idx = x }

tag_is : (k : TagKind) (x : ℕ) → tag_with k x ≡ tag_of x
tag_is Exception x = refl

tag_to : (b : ℕ) → b ≡ 0 → (t : TagType) (text : List ℕ) → Mapped tag_of (IsUnsigned 32) t text → SpelledTag t (b ∷ text)
tag_to b e t text h = subst (λ (k : TagType). SpelledTag k (b ∷ text)) (sym h.2) (record { index = text; typed = h.1; whole = ap (λ (n : ℕ). n ∷ text) e })

tag_from : (b : ℕ) (t : TagType) (text : List ℕ) → SpelledTag t (b ∷ text) → Mapped tag_of (IsUnsigned 32) t text
tag_from b t text h = (t.func_type_idx, subst (IsUnsigned 32 t.func_type_idx) (sym (tails b 0x00 text h.index h.whole)) h.typed, tag_is t.kind t.func_type_idx)

pub decides-tag_type : Decides tag_type SpelledTag
unfolding tag_type
decides-tag_type = decides-byte tag_after SpelledTag (λ t h. let no : [] ≡ 0x00 ∷ h.index = h.whole in cc) (λ b.
    decides-if (eqb b 0) _ _ _
    (λ y. let is : b ≡ 0 = eqb-true _ _ y in
    decides-same _ (Mapped tag_of (IsUnsigned 32)) (λ t text. SpelledTag t (b ∷ text)) (decides-map u32 tag_of (IsUnsigned 32) decides-u32) (tag_to b is) (tag_from b))
    (λ n. decides-refuse Other 1 (λ t text. SpelledTag t (b ∷ text)) (λ t text h. eqb-false _ _ n (heads b 0x00 text h.index h.whole))))
