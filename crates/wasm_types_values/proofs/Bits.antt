-- A reference type is what its bits mean, and compares as they do.
use Rattle.std.proofs.Common.{◌≡◌, ℕ, ◌+◌, ◌-◌, ◌*◌, ◌/◌, ◌%◌, ◌<◌, ◌^◌, refl, sym, ◌∙◌, ap, subst, arith, Bool, true, false, ltb, eqb, lit<}
use Rattle.std.proofs.lemmas.Bool.{lt-ltb, le-ltb}
use Rattle.std.proofs.lemmas.Bool.Decides.{nat_tests}
use Rattle.std.specs.Ordering.{nat_cmp, ordering_then}
use Rattle.wasm_types_trees.specs.declared.index.UnpackedIndex.{UnpackedIndex}
use Rattle.wasm_types_trees.specs.declared.index.UnpackedIndex.TheVariants.{Module, RecGroup, Id}
use Rattle.wasm_types_trees.specs.Indices.{number_of, kind_of}
use Rattle.wasm_types_trees.specs.Bits.{packed, unpacked-packed}
use Rattle.wasm_types_values.specs.declared.heap.AbstractHeapType.{AbstractHeapType}
use Rattle.wasm_types_values.specs.declared.heap.AbstractHeapType.TheVariants as heap
use Rattle.wasm_types_values.specs.declared.heap.HeapType.{HeapType}
use Rattle.wasm_types_values.specs.declared.heap.HeapType.TheVariants.{Abstract, Concrete, Exact}
use Rattle.wasm_types_values.specs.Reference.{Reference}
use Rattle.wasm_types_values.specs.Bits.{code_of, type_of_code, bit, class_of, low_bits_of, bits_of, heap_of_bits, reference_of, Fits, AreBits}
use Rattle.wasm_types_values.specs.Kinds.{part_of, last_of, reference_cmp}

code_back : (ty : AbstractHeapType) → type_of_code (code_of ty) ≡ ty
code_back heap.Func = refl
code_back heap.Extern = refl
code_back heap.Any = refl
code_back heap.None = refl
code_back heap.NoExtern = refl
code_back heap.NoFunc = refl
code_back heap.Eq = refl
code_back heap.Struct = refl
code_back heap.Array = refl
code_back heap.I31 = refl
code_back heap.Exn = refl
code_back heap.NoExn = refl
code_back heap.Cont = refl
code_back heap.NoCont = refl

code_small : (ty : AbstractHeapType) → code_of ty < 16
code_small heap.Func = lit< tt
code_small heap.Extern = lit< tt
code_small heap.Any = lit< tt
code_small heap.None = lit< tt
code_small heap.NoExtern = lit< tt
code_small heap.NoFunc = lit< tt
code_small heap.Eq = lit< tt
code_small heap.Struct = lit< tt
code_small heap.Array = lit< tt
code_small heap.I31 = lit< tt
code_small heap.Exn = lit< tt
code_small heap.NoExn = lit< tt
code_small heap.Cont = lit< tt
code_small heap.NoCont = lit< tt

kind_small : (i : UnpackedIndex) → kind_of i < 3
kind_small (Module n) = lit< tt
kind_small (RecGroup n) = lit< tt
kind_small (Id i) = lit< tt

bit_small : (b : Bool) → bit b < 2
bit_small true = lit< tt
bit_small false = lit< tt

is_set : (b : Bool) → eqb (bit b) 1 ≡ b
is_set true = refl
is_set false = refl

above_half : (b : Bool) (x : ℕ) → x < 0x10_0000 → ltb 0xf_ffff (0x10_0000 * bit b + x) ≡ b
above_half true x h = lt-ltb _ _ (omega arith)
above_half false x h = le-ltb _ _ (omega arith)

-- ---- the parts of the bits of a class, whether null, and what is below

module _ (k : ℕ) (b : Bool) (low : ℕ) (below : low < 0x40_0000) where
  abbrev all : ℕ
  all = 0x80_0000 * k + 0x40_0000 * bit b + low

  null_back : eqb (all / 0x40_0000 % 2) 1 ≡ b
  null_back = let e : all / 0x40_0000 % 2 ≡ bit b = omega (arith, bit_small b) in rw e (is_set b)

  low_back : all % 0x40_0000 ≡ low
  low_back = omega (arith, bit_small b)

  last_back : (p x : ℕ) → low ≡ 0x10_0000 * p + x → x < 0x10_0000 → all % 0x10_0000 ≡ x
  last_back p x e h = omega (arith, bit_small b)

abbrev reference : Bool → HeapType → Reference
reference b h = record { nullable = b; heap = h }

together : (a b : Bool) (x y : HeapType) → a ≡ b → x ≡ y → reference a x ≡ reference b y
together a b x y e f = ap (λ (c : Bool). reference c x) e ∙ ap (reference b) f

-- ---- reading the bits of a reference gives it back

module _ (b : Bool) where
  low_small : (i : UnpackedIndex) → number_of i < 2 ^ 20 → packed i < 0x40_0000
  low_small i h = omega (arith, kind_small i)

  heap_back : (h : HeapType) → Fits h → heap_of_bits (bits_of (reference b h)) ≡ h
  heap_back (Abstract s ty) f =
      let low : ℕ = 0x10_0000 * bit s + code_of ty in
      let bits : ℕ = 0x80_0000 * 0 + 0x40_0000 * bit b + low in
      let t : ltb bits 0x100_0000 ≡ true = lt-ltb _ _ (omega (arith, bit_small b, bit_small s, code_small ty)) in
      let small : low < 0x40_0000 = omega (arith, bit_small s, code_small ty) in
      let l : bits % 0x40_0000 ≡ low = low_back 0 b low small in
      let c : bits % 0x10_0000 ≡ code_of ty = last_back 0 b low small (bit s) (code_of ty) refl (omega (arith, code_small ty)) in
      rw (t, l, c, code_back ty, above_half s (code_of ty) (omega (arith, code_small ty))) refl
  heap_back (Concrete i) f =
      let bits : ℕ = 0x80_0000 * 2 + 0x40_0000 * bit b + packed i in
      let small : packed i < 0x40_0000 = low_small i f in
      let t : ltb bits 0x100_0000 ≡ false = le-ltb _ _ (omega arith) in
      let u : ltb bits 0x180_0000 ≡ true = lt-ltb _ _ (omega (arith, bit_small b)) in
      let l : bits % 0x40_0000 ≡ packed i = low_back 2 b (packed i) small in
      rw (t, u, l, unpacked-packed i f) refl
  heap_back (Exact i) f =
      let bits : ℕ = 0x80_0000 * 3 + 0x40_0000 * bit b + packed i in
      let small : packed i < 0x40_0000 = low_small i f in
      let t : ltb bits 0x100_0000 ≡ false = le-ltb _ _ (omega arith) in
      let u : ltb bits 0x180_0000 ≡ false = le-ltb _ _ (omega arith) in
      let l : bits % 0x40_0000 ≡ packed i = low_back 3 b (packed i) small in
      rw (t, u, l, unpacked-packed i f) refl

  lows_small : (h : HeapType) → Fits h → low_bits_of h < 0x40_0000
  lows_small (Abstract s ty) f = omega (arith, bit_small s, code_small ty)
  lows_small (Concrete i) f = low_small i f
  lows_small (Exact i) f = low_small i f

pub read_back : (r : Reference) → Fits r.heap → reference_of (bits_of r) ≡ r
read_back r f = together _ r.nullable _ r.heap (null_back (class_of r.heap) r.nullable (low_bits_of r.heap) (lows_small r.nullable r.heap f)) (heap_back r.nullable r.heap f)

-- these bits are those of this reference
pub record Holds (bits : ℕ) (r : Reference) : Type 0 where
  pub valid : AreBits bits
  pub says : reference_of bits ≡ r

pub holds : (bits : ℕ) (r : Reference) → Fits r.heap → bits ≡ bits_of r → Holds bits r
holds bits r f e =
    let b : reference_of bits ≡ r = ap reference_of e ∙ read_back r f in
    record {
      valid = record { fits = subst (λ (t : Reference). Fits t.heap) (sym b) f; same = ap bits_of b ∙ sym e };
      says = b;
    }

module _ (bits : ℕ) (r : Reference) (valid : AreBits bits) (says : reference_of bits ≡ r) where
  fitting : Fits r.heap
  fitting = subst (λ (t : Reference). Fits t.heap) says valid.fits

  pub are : bits_of r ≡ bits
  are = ap bits_of (sym says) ∙ valid.same

  pub without_null : r.nullable ≡ true → Holds (bits - 0x40_0000) (record r { nullable = false })
  without_null e =
      let one : bit r.nullable ≡ 1 = ap bit e in
      let f : bits ≡ 0x80_0000 * class_of r.heap + 0x40_0000 * bit r.nullable + low_bits_of r.heap = sym are in
      holds _ _ fitting (omega arith)

  pub with_null : r.nullable ≡ false → Holds (bits + 0x40_0000) (record r { nullable = true })
  with_null e =
      let none : bit r.nullable ≡ 0 = ap bit e in
      let f : bits ≡ 0x80_0000 * class_of r.heap + 0x40_0000 * bit r.nullable + low_bits_of r.heap = sym are in
      holds _ _ fitting (omega arith)

pub holds_abstract : (b s : Bool) (ty : AbstractHeapType) (n k c : ℕ) → n ≡ 0x40_0000 * bit b → k ≡ 0x10_0000 * bit s → c ≡ code_of ty → Holds
    (n + k + c) (record { nullable = b; heap = Abstract s ty })
holds_abstract b s ty n k c e f g = holds _ _ tt (omega arith)

-- ---- comparing

top_level : (k l a b : ℕ) → a < 0x80_0000 → b < 0x80_0000 → nat_cmp (0x80_0000 * k + a) (0x80_0000 * l + b) ≡ ordering_then (nat_cmp k l) (nat_cmp a b)
top_level k l a b h i = grind (arith, nat_tests)

null_level : (k l a b : ℕ) → a < 0x40_0000 → b < 0x40_0000 → nat_cmp (0x40_0000 * k + a) (0x40_0000 * l + b) ≡ ordering_then (nat_cmp k l) (nat_cmp a b)
null_level k l a b h i = grind (arith, nat_tests)

part_level : (k l a b : ℕ) → a < 0x10_0000 → b < 0x10_0000 → nat_cmp (0x10_0000 * k + a) (0x10_0000 * l + b) ≡ ordering_then (nat_cmp k l) (nat_cmp a b)
part_level k l a b h i = grind (arith, nat_tests)

lexicographic : (k l p q x y : ℕ) (m n : Bool) → p < 4 → q < 4 → x < 0x10_0000 → y < 0x10_0000 → nat_cmp
    (0x80_0000 * k + 0x40_0000 * bit m + (0x10_0000 * p + x)) (0x80_0000 * l + 0x40_0000 * bit n + (0x10_0000 * q + y)) ≡ ordering_then (nat_cmp k l)
    (ordering_then (nat_cmp (bit m) (bit n)) (ordering_then (nat_cmp p q) (nat_cmp x y)))
lexicographic k l p q x y m n h i j o =
    let a : ℕ = 0x10_0000 * p + x in
    let b : ℕ = 0x10_0000 * q + y in
    let e : 0x80_0000 * k + 0x40_0000 * bit m + a ≡ 0x80_0000 * k + (0x40_0000 * bit m + a) = omega arith in
    let f : 0x80_0000 * l + 0x40_0000 * bit n + b ≡ 0x80_0000 * l + (0x40_0000 * bit n + b) = omega arith in
    ap (λ (z : ℕ). nat_cmp z (0x80_0000 * l + 0x40_0000 * bit n + b)) e
    ∙ ap (λ (z : ℕ). nat_cmp (0x80_0000 * k + (0x40_0000 * bit m + a)) z) f
    ∙ top_level k l (0x40_0000 * bit m + a) (0x40_0000 * bit n + b) (omega (arith, bit_small m)) (omega (arith, bit_small n))
    ∙ ap (ordering_then (nat_cmp k l)) (null_level (bit m) (bit n) a b (omega arith) (omega arith) ∙ ap (ordering_then (nat_cmp (bit m) (bit n))) (part_level p q x y j o))

part_small : (h : HeapType) → part_of h < 4
part_small (Abstract s ty) = omega (arith, bit_small s)
part_small (Concrete i) = omega (arith, kind_small i)
part_small (Exact i) = omega (arith, kind_small i)

last_small : (h : HeapType) → Fits h → last_of h < 0x10_0000
last_small (Abstract s ty) f = omega (arith, code_small ty)
last_small (Concrete i) f = f
last_small (Exact i) f = f

parts : (h : HeapType) → low_bits_of h ≡ 0x10_0000 * part_of h + last_of h
parts (Abstract s ty) = refl
parts (Concrete i) = refl
parts (Exact i) = refl

grouped : (r : Reference) → bits_of r ≡ 0x80_0000 * class_of r.heap + 0x40_0000 * bit r.nullable + (0x10_0000 * part_of r.heap + last_of r.heap)
grouped r = ap (λ (z : ℕ). 0x80_0000 * class_of r.heap + 0x40_0000 * bit r.nullable + z) (parts r.heap)

pub compares : (r s : Reference) → Fits r.heap → Fits s.heap → nat_cmp (bits_of r) (bits_of s) ≡ reference_cmp r s
compares r s f g =
    ap (λ (z : ℕ). nat_cmp z (bits_of s)) (grouped r)
    ∙ ap (λ (z : ℕ). nat_cmp (0x80_0000 * class_of r.heap + 0x40_0000 * bit r.nullable + (0x10_0000 * part_of r.heap + last_of r.heap)) z) (grouped s)
    ∙ lexicographic (class_of r.heap) (class_of s.heap) (part_of r.heap) (part_of s.heap) (last_of r.heap) (last_of s.heap) r.nullable s.nullable
    (part_small r.heap) (part_small s.heap) (last_small r.heap f) (last_small s.heap g)

pub compares_bits : (a b : ℕ) (r s : Reference) → AreBits a → AreBits b → reference_of a ≡ r → reference_of b ≡ s → nat_cmp a b ≡ reference_cmp r s
compares_bits a b r s v w e f =
    ap (λ (z : ℕ). nat_cmp z b) (sym (are a r v e)) ∙ ap (λ (z : ℕ). nat_cmp (bits_of r) z) (sym (are b s w f)) ∙ compares r s (fitting a r v e) (fitting b s w f)
