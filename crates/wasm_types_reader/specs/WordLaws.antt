-- The decoder of a byte below 128 is lawful, and reads exactly such bytes.
use Rattle.std.proofs.Common.{◌≡◌, ℕ, ◌<◌, ◌≤◌, ◌∷◌, refl, arith, ltb}
use Rattle.std.specs.Prelude.{nat_lt}
use Rattle.std.proofs.lemmas.Bool.{ltb-true, ltb-false}
use Rattle.wasm_types_decoding.specs.declared.Refusal.TheVariants.{Other}
use Rattle.wasm_types_decoding.specs.Decoder.{pure, refuse, byte, IsLawful, Decides, Grammar}
use Rattle.wasm_types_decoding.specs.Laws.{lawful-byte, lawful->>=, lawful-pure, lawful-refuse, lawful-if}
use Rattle.wasm_types_decoding.specs.ExactLaws.{decides-pure, decides-refuse, decides-if, decides-byte}
use Rattle.wasm_types_reader.specs.Words.{small_byte, u7, IsSmallByte}

pub lawful-u7 : IsLawful u7
unfolding u7
lawful-u7 = lawful->>= byte small_byte lawful-byte (λ b. lawful-if (nat_lt b 128) (pure b) (refuse Other 1) (lawful-pure b) (lawful-refuse Other 1))

abbrev after : ℕ → Grammar ℕ
after b n text = IsSmallByte n (b ∷ text)

pub decides-u7 : Decides u7 IsSmallByte
unfolding u7
decides-u7 = decides-byte small_byte IsSmallByte (λ n h. absurd (let e = h.whole in cc)) (λ b.
    decides-if (ltb b 128) (pure b) (refuse Other 1) (after b)
    (λ t. let lt : b < 128 = ltb-true _ _ t in decides-pure b (after b) (record { small = lt; whole = refl }) (λ n text h. let e = h.whole in (cc, cc)))
    (λ f. let le : 128 ≤ b = ltb-false _ _ f in decides-refuse Other 1 (after b) (λ n text h. let e = h.whole in let same : b ≡ n = cc in omega (arith, h.small, same, le))))
