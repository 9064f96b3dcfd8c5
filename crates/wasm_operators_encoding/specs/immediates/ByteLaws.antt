-- Immediates of a few bytes are read lawfully, and exactly where bytes spell them.
use Rattle.std.proofs.Common.{◌≡◌, ℕ, ◌<◌, ◌≤◌, List, [], ◌∷◌, length, refl, sym, ap, ◌∙◌, subst, arith, ltb, eqb, Bool, true, false}
use Rattle.std.specs.Prelude.{nat_lt, ◌==◌}
use Rattle.std.proofs.lemmas.Bool.{eqb-true, eqb-false, ltb-true, ltb-false}
use Rattle.wasm_types.specs.decoding.declared.Refusal.TheVariants.{Other}
use Rattle.wasm_types.specs.decoding.Decoder.{refuse, byte, bytes, choice, IsLawful, Decides}
use Rattle.wasm_types.specs.decoding.Laws.{lawful-byte, lawful->>=, lawful-pure, lawful-refuse, lawful-if, lawful-bytes, lawful-repeated, lawful-choice}
use Rattle.wasm_types.specs.decoding.ExactLaws.{Exactly, Mapped, ReadsTagged, decides-same, decides-pure, decides-refuse, decides-if, decides-map}
use Rattle.wasm_types.specs.decoding.ExactLaws.{decides-byte, decides-bytes, decides-repeated, decides-table, sound-pure, reads-pure}
use Rattle.wasm_types.specs.decoding.LebLaws.{lawful-unsigned, decides-u32}
use Rattle.wasm_types.specs.decoding.ListLaws.{lawful-listed_within, decides-listed_within}
use Rattle.wasm_types.specs.settings.Settings.{Settings}
use Rattle.wasm_types.specs.values.DecodeValues.{value_type}
use Rattle.wasm_types.specs.values.DecodeLaws.{lawful-value_type}
use Rattle.wasm_types.specs.values.HeapLaws.{heads, tails}
use Rattle.wasm_types.specs.values.Spelled.{SpelledValue}
use Rattle.wasm_types.specs.values.ValueLaws.{decides-value_type}
use Rattle.wasm_operators_immediates.specs.declared.memory.Ordering.{Ordering}
use Rattle.wasm_operators_immediates.specs.declared.memory.Ordering.TheVariants.{AcqRel, SeqCst}
use Rattle.wasm_operators_immediates.specs.declared.vector.V128.{V128}
use Rattle.wasm_operators_encoding.specs.immediates.Bytes.{zero_after, zero_byte, index_or_zero, orderings, ordering_by, lane_after, lane, shuffle}
use Rattle.wasm_operators_encoding.specs.immediates.Bytes.{vector_of, vector, select_types, IsZero, IsIndexOrZero, SpelledOrdering, IsLane, IsShuffle}
use Rattle.wasm_operators_encoding.specs.immediates.Bytes.{SpelledVector, SpelledTypes}

-- ---- zero, or an index

pub lawful-zero_byte : IsLawful zero_byte
unfolding zero_byte
lawful-zero_byte = lawful->>= byte zero_after lawful-byte (λ b. lawful-if (b == 0) _ _ (lawful-pure 0) (lawful-refuse Other 1))

pub decides-zero_byte : Decides zero_byte IsZero
unfolding zero_byte
decides-zero_byte = decides-byte zero_after IsZero (λ n h. let no : [] ≡ 0x00 ∷ [] = h.whole in cc) (λ b.
    decides-if (eqb b 0) _ _ _
    (λ t. let is : b ≡ 0 = eqb-true _ _ t in
    decides-pure 0 (λ n text. IsZero n (b ∷ text)) (record { value = refl; whole = ap (λ (c : ℕ). c ∷ []) is }) (λ n text h. (h.value, tails b 0 text [] h.whole)))
    (λ f. decides-refuse Other 1 (λ n text. IsZero n (b ∷ text)) (λ n text h. eqb-false _ _ f (heads b 0 text [] h.whole))))

pub lawful-index_or_zero : (allowed : Bool) → IsLawful (index_or_zero allowed)
unfolding index_or_zero
lawful-index_or_zero true = lawful-unsigned 4 4
lawful-index_or_zero false = lawful-zero_byte

pub decides-index_or_zero : (allowed : Bool) → Decides (index_or_zero allowed) (IsIndexOrZero allowed)
unfolding index_or_zero
decides-index_or_zero true = decides-u32
decides-index_or_zero false = decides-zero_byte

-- ---- orderings

pub lawful-ordering_by : (n : ℕ) → IsLawful (ordering_by n)
unfolding ordering_by
lawful-ordering_by n = lawful->>= byte _ lawful-byte (λ b. lawful-choice (orderings n) (refuse Other 1) b (lawful-pure SeqCst, (lawful-pure AcqRel, tt)) (lawful-refuse Other 1))

-- a byte other than zero stands for acquire and release
module _ (n : ℕ) (other : eqb n 0 ≡ false) (itself : eqb n n ≡ true) where
  ordering_reads : (o : Ordering) (text : List ℕ) → SpelledOrdering n o text → ReadsTagged (choice (orderings n) (refuse Other 1)) o text
  ordering_reads SeqCst text h = subst (ReadsTagged (choice (orderings n) (refuse Other 1)) SeqCst) (sym h) (reads-pure SeqCst)
  ordering_reads AcqRel text h = subst (ReadsTagged (choice (orderings n) (refuse Other 1)) AcqRel) (sym h) (rw (other, itself) (reads-pure AcqRel))

  pub decides-ordering_by : Decides (ordering_by n) (SpelledOrdering n)
  unfolding ordering_by
  decides-ordering_by = decides-table Other (SpelledOrdering n) (orderings n) (sound-pure SeqCst _ refl, (sound-pure AcqRel _ refl, tt)) ordering_reads

-- ---- lanes and vectors

pub lawful-lane : (lanes : ℕ) → IsLawful (lane lanes)
unfolding lane
lawful-lane lanes = lawful->>= byte (lane_after lanes) lawful-byte (λ b. lawful-if (nat_lt b lanes) _ _ (lawful-pure b) (lawful-refuse Other 1))

pub decides-lane : (lanes : ℕ) → Decides (lane lanes) (IsLane lanes)
unfolding lane
decides-lane lanes = decides-byte (lane_after lanes) (IsLane lanes) (λ l h. let no : [] ≡ l ∷ [] = h.whole in cc) (λ b.
    decides-if (ltb b lanes) _ _ _
    (λ t. let lt : b < lanes = ltb-true _ _ t in
    decides-pure b (λ l text. IsLane lanes l (b ∷ text)) (record { below = lt; whole = refl }) (λ l text h. (sym (heads b l text [] h.whole), tails b l text [] h.whole)))
    (λ f. let le : lanes ≤ b = ltb-false _ _ f in
    decides-refuse Other 1 (λ l text. IsLane lanes l (b ∷ text)) (λ l text h. omega (arith, h.below, heads b l text [] h.whole, le))))

pub lawful-shuffle : IsLawful shuffle
unfolding shuffle
lawful-shuffle = lawful-repeated 16 (lane 32) (lawful-lane 32)

pub decides-shuffle : Decides shuffle IsShuffle
unfolding shuffle
decides-shuffle = decides-repeated (lane 32) (IsLane 32) (decides-lane 32) 16

pub lawful-vector : IsLawful vector
unfolding vector
lawful-vector = lawful->>= (bytes 16) _ (lawful-bytes 16) (λ text. lawful-pure (vector_of text))

vector_to : (v : V128) (text : List ℕ) → Mapped vector_of (Exactly 16) v text → SpelledVector v text
vector_to v text h = let same : v.0 ≡ h.0 = ap (λ (w : V128). w.0) h.2 in record { count = ap length same ∙ h.1.0; whole = h.1.1 ∙ sym same }

vector_from : (v : V128) (text : List ℕ) → SpelledVector v text → Mapped vector_of (Exactly 16) v text
vector_from v text h = (v.0, (h.count, h.whole), refl)

pub decides-vector : Decides vector SpelledVector
unfolding vector
decides-vector = decides-same _ (Mapped vector_of (Exactly 16)) SpelledVector (decides-map (bytes 16) vector_of (Exactly 16) (decides-bytes 16)) vector_to vector_from

-- ---- the types of a select

module _ (settings : Settings) where
  pub lawful-select_types : IsLawful (select_types settings)
  unfolding select_types
  lawful-select_types = lawful-listed_within settings.limits.select_types value_type lawful-value_type

  pub decides-select_types : Decides (select_types settings) (SpelledTypes settings)
  unfolding select_types
  decides-select_types = decides-listed_within settings.limits.select_types value_type SpelledValue decides-value_type
