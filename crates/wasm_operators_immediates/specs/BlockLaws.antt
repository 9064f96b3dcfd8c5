-- Block types are read lawfully, and exactly where bytes spell them.
use Rattle.std.proofs.Common.{◌≡◌, ℕ, suc, ◌-◌, ◌^◌, ◌<◌, ◌≤◌, List, [], ◌∷◌, ◌++◌, refl, sym, ap, ◌∙◌, subst, arith, cond, ltb, eqb, Bool, true, false, inl, inr}
use Rattle.std.specs.Prelude.{◌==◌, nat_lt, ℤ, pos, negsuc, ◌*ℤ◌, ◌+ℤ◌, ◌-ℤ◌}
use Rattle.std.proofs.lemmas.Int.{ints}
use Rattle.std.proofs.lemmas.Bool.{eqb-true, eqb-false, ltb-true, ltb-false, lt-ltb, le-ltb}
use Rattle.std.proofs.lemmas.List.{append-nil}
use Rattle.wasm_types.specs.decoding.declared.Refusal.{Refusal}
use Rattle.wasm_types.specs.decoding.declared.Refusal.TheVariants.{Other}
use Rattle.wasm_types.specs.decoding.Decoder.{State, Outcome, Done, Short, Fault, Decoder, Grammar, continue_with, ◌>>=◌, pure, byte, IsLawful}
use Rattle.wasm_types.specs.decoding.Decoder.{IsBeyond, GoesForward, TakesOne, Decides, Takes, Then}
use Rattle.wasm_types.specs.decoding.Laws.{lawful-byte, lawful->>=, lawful-pure, lawful-refuse, lawful-if, lawful-look, TakesOne-byte}
use Rattle.wasm_types.specs.decoding.ExactLaws.{Sound, Mapped, decides->>=, decides-pure, decides-refuse, decides-if, decides-map, decides-byte, decides-look_apart}
use Rattle.wasm_types.specs.decoding.Leb.{s33, signed, seven_bits, IsSigned, nonnegative, negative, longer}
use Rattle.wasm_types.specs.decoding.SignedLaws.{lawful-signed, decides-s33}
use Rattle.wasm_types.specs.values.declared.heap.HeapType.{HeapType}
use Rattle.wasm_types.specs.values.declared.heap.HeapType.TheVariants.{Abstract, Concrete, Exact}
use Rattle.wasm_types.specs.values.declared.value.ValType.{ValType}
use Rattle.wasm_types.specs.values.declared.value.ValType.TheVariants.{I32, I64, F32, F64, V128, Ref}
use Rattle.wasm_types.specs.values.Trees.{abstract_of, heap_of}
use Rattle.wasm_types.specs.values.Spells.{abstract_byte, SpellsReference}
use Rattle.wasm_types.specs.values.Decode.{begins_index}
use Rattle.wasm_types.specs.values.DecodeValues.{value_type, value_type_after}
use Rattle.wasm_types.specs.values.DecodeLaws.{lawful-value_type, lawful-value_type_after}
use Rattle.wasm_types.specs.values.HeapLaws.{heads, tails, byte_range}
use Rattle.wasm_types.specs.values.ReferenceLaws.{reference_some}
use Rattle.wasm_types.specs.values.Spelled.{SpelledValue}
use Rattle.wasm_types.specs.values.ValueLaws.{decides-value_type}
use Rattle.wasm_operators_immediates.specs.declared.block.BlockType.{BlockType}
use Rattle.wasm_operators_immediates.specs.declared.block.BlockType.TheVariants.{Empty, Val, FuncType}
use Rattle.wasm_operators_immediates.specs.Blocks.{refuse_here, indexed, function_block, begins_value, value_block, empty_after, empty_block, block_at, block_type, SpelledBlock}

-- ---- what takes a byte, and then more

module _ {B : Type 0} where
  still_beyond : (p : ℕ) (t : State) (o : Outcome B) → p < t.place → GoesForward t o → IsBeyond p o
  still_beyond p t (Done y u) lt g = omega (arith, g.1.place)
  still_beyond p t (Short q h) lt g = omega (arith, g.0)
  still_beyond p t (Fault k q) lt g = tt

module _ {A B : Type 0} (f : A → Decoder B) (lawful : (x : A) → IsLawful (f x)) where
  beyond_then : (p : ℕ) (o : Outcome A) → IsBeyond p o → IsBeyond p (continue_with o f)
  beyond_then p (Done x t) g = still_beyond p t (f x t) g ((lawful x).forward t)
  beyond_then p (Short q h) g = g
  beyond_then p (Fault k q) g = tt

  TakesOne-then : (d : Decoder A) → TakesOne d → TakesOne (d >>= f)
  TakesOne-then d takes s h = beyond_then s.place (d s) (takes s h)

TakesOne-if : {A : Type 0} (b : Bool) (d e : Decoder A) → TakesOne d → TakesOne e → TakesOne (cond b d e)
TakesOne-if true d e l m = l
TakesOne-if false d e l m = m

TakesOne-signed : (k r : ℕ) → TakesOne (signed (suc k) r)
unfolding signed
TakesOne-signed k r = TakesOne-byte _ (λ b. lawful-if (nat_lt b 128) (pure (seven_bits b)) (signed k r >>= λ m. pure (pos 128 *ℤ m +ℤ pos (b - 128)))
    (lawful-pure _) (lawful->>= (signed k r) _ (lawful-signed k r) (λ m. lawful-pure _)))

TakesOne-value_type : TakesOne value_type
unfolding value_type
TakesOne-value_type = TakesOne-byte value_type_after lawful-value_type_after

-- ---- lawful

pub lawful-refuse_here : (A : Type 0) (k : Refusal) → IsLawful (refuse_here {A = A} k)
lawful-refuse_here A k = record { forward = λ s. tt; steady = λ s more. refl }

lawful-indexed : (v : ℤ) → IsLawful (indexed v)
lawful-indexed (pos n) = lawful-if (nat_lt n 0x1_0000_0000) _ _ (lawful-pure (FuncType n)) (lawful-refuse_here BlockType Other)
lawful-indexed (negsuc n) = lawful-refuse_here BlockType Other

lawful-function_block : IsLawful function_block
unfolding function_block
lawful-function_block = lawful->>= s33 indexed (lawful-signed 4 5) lawful-indexed

lawful-value_block : IsLawful value_block
unfolding value_block
lawful-value_block = lawful->>= value_type _ lawful-value_type (λ ty. lawful-pure (Val ty))

lawful-empty_after : (b : ℕ) → IsLawful (empty_after b)
lawful-empty_after b = lawful-if (b == 0x40) _ _ (lawful-pure Empty) (lawful-refuse Other 1)

lawful-empty_block : IsLawful empty_block
unfolding empty_block
lawful-empty_block = lawful->>= byte empty_after lawful-byte lawful-empty_after

TakesOne-function_block : TakesOne function_block
unfolding function_block
TakesOne-function_block = TakesOne-then indexed lawful-indexed s33 (TakesOne-signed 3 5)

TakesOne-value_block : TakesOne value_block
unfolding value_block
TakesOne-value_block = TakesOne-then (λ ty. pure (Val ty)) (λ ty. lawful-pure (Val ty)) value_type TakesOne-value_type

TakesOne-empty_block : TakesOne empty_block
unfolding empty_block
TakesOne-empty_block = TakesOne-byte empty_after lawful-empty_after

pub lawful-block_type : IsLawful block_type
unfolding block_type
lawful-block_type = lawful-look block_at
    (λ b. lawful-if (begins_index b) function_block _ lawful-function_block (lawful-if (begins_value b) value_block empty_block lawful-value_block lawful-empty_block))
    (λ b. TakesOne-if (begins_index b) function_block _ TakesOne-function_block (TakesOne-if (begins_value b) value_block empty_block TakesOne-value_block TakesOne-empty_block))

-- ---- exact: a function type

pub decides-refuse_here : {A : Type 0} (k : Refusal) (g : Grammar A) → ((y : A) (text : List ℕ) → g y text → ⊥) → Decides (refuse_here k) g
decides-refuse_here k g none = record {
  sound = λ s t y e. absurd cc;
  complete = λ s t y text p q. absurd (none y text q);
}

-- the type at this index, and no more bytes
abbrev At : ℤ → Grammar BlockType
At v ty text = ((n : ℕ) × (v ≡ pos n) × (n < 2 ^ 32) × (ty ≡ FuncType n)) × (text ≡ [])

pos_is : (m n : ℕ) → pos m ≡ pos n → m ≡ n
pos_is m n e = cc

decides-indexed : (v : ℤ) → Decides (indexed v) (At v)
decides-indexed (pos n) = decides-if (ltb n 0x1_0000_0000) _ _ _
    (λ t. let small : n < 0x1_0000_0000 = ltb-true _ _ t in
    decides-pure (FuncType n) _ ((n, refl, omega (arith, small), refl), refl) (λ ty text q. (q.0.3 ∙ ap FuncType (sym (pos_is n q.0.0 q.0.1)), q.1)))
    (λ f. let large : 0x1_0000_0000 ≤ n = ltb-false _ _ f in
    decides-refuse_here Other _ (λ ty text q. omega (arith, pos_is n q.0.0 q.0.1, q.0.2, large)))
decides-indexed (negsuc n) = decides-refuse_here Other _ (λ ty text q. let no : negsuc n ≡ pos q.0.0 = q.0.1 in cc)

abbrev IsFunction : Grammar BlockType
IsFunction = Then (IsSigned 33) At

decides-function_block : Decides function_block IsFunction
unfolding function_block
decides-function_block = decides->>= s33 indexed (IsSigned 33) At decides-s33 decides-indexed

-- ---- exact: a value type, and none

decides-value_block : Decides value_block (Mapped Val SpelledValue)
unfolding value_block
decides-value_block = decides-map value_type Val SpelledValue decides-value_type

abbrev IsEmpty : Grammar BlockType
IsEmpty ty text = (ty ≡ Empty) × (text ≡ 0x40 ∷ [])

decides-empty_block : Decides empty_block IsEmpty
unfolding empty_block
decides-empty_block = decides-byte empty_after IsEmpty (λ ty h. let no : [] ≡ 0x40 ∷ [] = h.1 in cc) (λ b.
    decides-if (eqb b 0x40) _ _ _
    (λ t. let is : b ≡ 0x40 = eqb-true _ _ t in decides-pure Empty (λ ty text. IsEmpty ty (b ∷ text)) (refl, ap (λ (n : ℕ). n ∷ []) is)
    (λ ty text h. (h.0, tails b 0x40 text [] h.1)))
    (λ f. decides-refuse Other 1 (λ ty text. IsEmpty ty (b ∷ text)) (λ ty text h. eqb-false _ _ f (heads b 0x40 text [] h.1))))

-- ---- exact: by the first byte

-- a number with a sign, at least 0, begins as an index does
index_begins : {N : ℕ} {v : ℤ} {b : ℕ} {text : List ℕ} (m : ℕ) → v ≡ pos m → IsSigned N v (b ∷ text) → begins_index b ≡ true
index_begins m e (nonnegative N v n small fits w) = let t : ltb n 0x40 ≡ true = lt-ltb _ _ (omega arith) in rw t refl
index_begins m e (negative N v n sign small fits w) = let q : pos m ≡ pos n -ℤ pos (2 ^ 7) = sym e ∙ w in absurd (omega (arith, ints))
index_begins m e (longer N v n k text large wide rest w) = let t : ltb 0x7f n ≡ true = lt-ltb _ _ (omega arith) in go (ltb n 0x40) t
  where
    go : (u : Bool) → ltb 0x7f n ≡ true → cond u true (ltb 0x7f n) ≡ true
    go true h = refl
    go false h = h

no_index : (b : ℕ) → 0x40 ≤ b → b ≤ 0x7f → begins_index b ≡ false
no_index b l h =
    let t : ltb b 0x40 ≡ false = le-ltb _ _ l in
    let u : ltb 0x7f b ≡ false = le-ltb _ _ h in
    rw (t, u) refl

-- a value type begins so
pub record BeginsValue (b : ℕ) : Type 0 where
  pub no_index : begins_index b ≡ false
  pub value : begins_value b ≡ true

of_reference : (b : ℕ) → 0x63 ≤ b → b ≤ 0x65 → BeginsValue b
of_reference b l h =
    let t : ltb b 0x63 ≡ false = le-ltb _ _ l in
    let u : ltb b 0x66 ≡ true = lt-ltb _ _ (omega arith) in
    record { no_index = no_index b (omega arith) (omega arith); value = rw (t, u) refl }

of_abstract : (b : ℕ) → 0x68 ≤ b → b ≤ 0x75 → BeginsValue b
of_abstract b l h =
    let t : ltb b 0x63 ≡ false = le-ltb _ _ (omega arith) in
    let u : ltb b 0x66 ≡ false = le-ltb _ _ (omega arith) in
    let v : ltb b 0x68 ≡ false = le-ltb _ _ l in
    let w : ltb b 0x76 ≡ true = lt-ltb _ _ (omega arith) in
    record { no_index = no_index b (omega arith) (omega arith); value = rw (t, u, v, w) refl }

of_number : (b : ℕ) → 0x7b ≤ b → b ≤ 0x7f → BeginsValue b
of_number b l h =
    let t : ltb b 0x63 ≡ false = le-ltb _ _ (omega arith) in
    let u : ltb b 0x66 ≡ false = le-ltb _ _ (omega arith) in
    let v : ltb b 0x68 ≡ false = le-ltb _ _ (omega arith) in
    let w : ltb b 0x76 ≡ false = le-ltb _ _ (omega arith) in
    let x : ltb 0x7a b ≡ true = lt-ltb _ _ (omega arith) in
    record { no_index = no_index b (omega arith) h; value = rw (t, u, v, w, x) refl }

reference_begins : (b : ℕ) (text : List ℕ) (nullable : Bool) (h : HeapType) → SpellsReference nullable (heap_of h) (b ∷ text) → BeginsValue b
reference_begins b text true h (inl p) = let is : b ≡ 0x63 = heads b 0x63 text p.0 p.1 in of_reference b (omega arith) (omega arith)
reference_begins b text false h (inl p) = let is : b ≡ 0x64 = heads b 0x64 text p.0 p.1 in of_reference b (omega arith) (omega arith)
reference_begins b text true (Abstract true ty) (inr p) = let is : b ≡ 0x65 = heads b 0x65 text (abstract_byte (abstract_of ty) ∷ []) p in
    of_reference b (omega arith) (omega arith)
reference_begins b text true (Abstract false ty) (inr p) =
    let is : b ≡ abstract_byte (abstract_of ty) = heads b (abstract_byte (abstract_of ty)) text [] p in
    of_abstract b (omega (arith, byte_range ty)) (omega (arith, byte_range ty))
reference_begins b text true (Concrete i) (inr p) = absurd p
reference_begins b text true (Exact i) (inr p) = absurd p
reference_begins b text false h (inr p) = absurd p

value_begins : (ty : ValType) (b : ℕ) (text : List ℕ) → SpelledValue ty (b ∷ text) → BeginsValue b
value_begins I32 b text e = let is : b ≡ 0x7f = heads b 0x7f text [] e in of_number b (omega arith) (omega arith)
value_begins I64 b text e = let is : b ≡ 0x7e = heads b 0x7e text [] e in of_number b (omega arith) (omega arith)
value_begins F32 b text e = let is : b ≡ 0x7d = heads b 0x7d text [] e in of_number b (omega arith) (omega arith)
value_begins F64 b text e = let is : b ≡ 0x7c = heads b 0x7c text [] e in of_number b (omega arith) (omega arith)
value_begins V128 b text e = let is : b ≡ 0x7b = heads b 0x7b text [] e in of_number b (omega arith) (omega arith)
value_begins (Ref r) b text e = reference_begins b text r.nullable r.heap e

value_some : (ty : ValType) → SpelledValue ty [] → ⊥
value_some I32 e = cc
value_some I64 e = cc
value_some F32 e = cc
value_some F64 e = cc
value_some V128 e = cc
value_some (Ref r) e = reference_some r e

block_some : (ty : BlockType) → SpelledBlock ty [] → ⊥
block_some Empty e = cc
block_some (Val ty) e = value_some ty e
block_some (FuncType n) e = let h : IsSigned 33 (pos n) [] = e.0 in elim h [ ]

function_spelled : (ty : BlockType) (text : List ℕ) → IsFunction ty text → SpelledBlock ty text
function_spelled ty text h =
    let v : h.value ≡ pos h.second.0.0 = h.second.0.1 in
    let front : IsSigned 33 (pos h.second.0.0) h.front = subst (λ (w : ℤ). IsSigned 33 w h.front) v h.first in
    let same : h.front ≡ text = sym (h.whole ∙ ap (λ (z : List ℕ). h.front ++ z) h.second.1 ∙ append-nil h.front) in
    subst (λ (k : BlockType). SpelledBlock k text) (sym h.second.0.3) (subst (λ (z : List ℕ). IsSigned 33 (pos h.second.0.0) z) same front, h.second.0.2)

value_spelled : (ty : BlockType) (text : List ℕ) → Mapped Val SpelledValue ty text → SpelledBlock ty text
value_spelled ty text h = subst (λ (k : BlockType). SpelledBlock k text) (sym h.2) h.1

empty_spelled : (ty : BlockType) (text : List ℕ) → IsEmpty ty text → SpelledBlock ty text
empty_spelled ty text h = subst (λ (k : BlockType). SpelledBlock k text) (sym h.0) h.1

block_sound : (b : ℕ) → Sound (block_at b) SpelledBlock
block_sound b = go (begins_index b) (begins_value b)
  where
    go : (u v : Bool) → Sound (cond u function_block (cond v value_block empty_block)) SpelledBlock
    go true v s t ty e = let p = decides-function_block.sound s t ty e in (p.0, p.1, function_spelled ty p.0 p.2)
    go false true s t ty e = let p = decides-value_block.sound s t ty e in (p.0, p.1, value_spelled ty p.0 p.2)
    go false false s t ty e = let p = decides-empty_block.sound s t ty e in (p.0, p.1, empty_spelled ty p.0 p.2)

module _ (b : ℕ) (s t : State) (text : List ℕ) (p : Takes s (b ∷ text) t) where
  block_complete : (ty : BlockType) → SpelledBlock ty (b ∷ text) → block_at b s ≡ Done ty t
  block_complete Empty e =
      let is : b ≡ 0x40 = heads b 0x40 text [] e in
      subst (λ (c : ℕ). block_at c s ≡ Done Empty t) (sym is) (decides-empty_block.complete s t Empty (b ∷ text) p (refl, e))
  block_complete (Val ty) e =
      let begins = value_begins ty b text e in
      rw (begins.no_index, begins.value) (decides-value_block.complete s t (Val ty) (b ∷ text) p (ty, e, refl))
  block_complete (FuncType n) e =
      rw (index_begins n refl e.0) (decides-function_block.complete s t (FuncType n) (b ∷ text) p
      (record { value = pos n; front = b ∷ text; back = []; first = e.0; second = ((n, refl, e.1, refl), refl); whole = sym (append-nil (b ∷ text)) }))

pub decides-block_type : Decides block_type SpelledBlock
unfolding block_type
decides-block_type = decides-look_apart block_at SpelledBlock block_some block_sound (λ b ty text e s t p. block_complete b s t text p ty e)
