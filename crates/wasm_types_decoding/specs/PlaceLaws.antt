-- Each way to put decoders together keeps their refusals among the bytes at hand.
use Rattle.std.proofs.Common.{◌≡◌, ℕ, zero, suc, ◌+◌, ◌-◌, ◌*◌, ◌≤◌, ◌^◌, List, [], ◌∷◌, length, refl, arith, Bool, true, false}
use Rattle.std.specs.Prelude.{if◌then◌else◌, ◌==◌, pos, ◌+ℤ◌, ◌-ℤ◌, ◌*ℤ◌, nat_lt}
use Rattle.wasm_types_decoding.specs.declared.Refusal.{Refusal}
use Rattle.wasm_types_decoding.specs.declared.Refusal.TheVariants.{Other}
use Rattle.wasm_types_decoding.specs.Decoder.{State, Outcome, Done, Short, Fault, Decoder, continue_with, ◌>>=◌, pure, refuse, first_of_rest, byte, choice}
use Rattle.wasm_types_decoding.specs.Leb.{unsigned, signed, last_bits, seven_bits}
use Rattle.wasm_types_decoding.specs.Places.{end_of, StaysIn, RefusesWithin, RefusesFromByte, AllWithin}

-- ---- one after the other

pub stays_from : {A : Type 0} (low high : ℕ) (s : State) (o : Outcome A) → low ≤ s.place → end_of s ≡ high → StaysIn s.place (end_of s) o → StaysIn low high o
stays_from low high s (Done x t) le e g = (omega (arith, le, g.0), omega (arith, e, g.1))
stays_from low high s (Short p h) le e g = (omega (arith, le, g.0), omega (arith, e, g.1))
stays_from low high s (Fault k p) le e g = (omega (arith, le, g.0), omega (arith, e, g.1))

stays_then : {A B : Type 0} (f : A → Decoder B) → ((x : A) → RefusesWithin (f x)) → (low high : ℕ) (o : Outcome A) → StaysIn low high o → StaysIn low high (continue_with o f)
stays_then f w low high (Done x t) g = stays_from low high t (f x t) g.0 g.1 ((w x).stays t)
stays_then f w low high (Short p h) g = g
stays_then f w low high (Fault k p) g = g

pub within->>= : {A B : Type 0} (d : Decoder A) (f : A → Decoder B) → RefusesWithin d → ((x : A) → RefusesWithin (f x)) → RefusesWithin (d >>= f)
within->>= d f w wf = record { stays = λ s. stays_then f wf s.place (end_of s) (d s) (w.stays s) }

pub within-pure : {A : Type 0} (x : A) → RefusesWithin (pure x)
within-pure x = record { stays = λ s. (omega arith, refl) }

-- ---- a byte, and by it the rest

stays_until : {A : Type 0} (low high end : ℕ) (o : Outcome A) → high ≡ end → StaysIn low high o → StaysIn low end o
stays_until low high end (Done x t) e g = (g.0, omega (arith, e, g.1))
stays_until low high end (Short p h) e g = (g.0, omega (arith, e, g.1))
stays_until low high end (Fault k p) e g = (g.0, omega (arith, e, g.1))

after_first : {A : Type 0} (f : ℕ → Decoder A) → ((b : ℕ) → RefusesFromByte (f b)) → (rest : List ℕ) (s : State) → s.rest ≡ rest
    → StaysIn s.place (s.place + length rest) (continue_with (first_of_rest rest s) f)
after_first f w [] s e = (omega arith, omega arith)
after_first f w (b ∷ rest) s e =
    let t : State = record { rest = rest; place = s.place + 1; settings = s.settings; start = s.start } in
    stays_until s.place (end_of t) (s.place + length (b ∷ rest)) (f b t) (omega arith) ((w b).stays s.place t refl)

pub within-byte>>= : {A : Type 0} (f : ℕ → Decoder A) → ((b : ℕ) → RefusesFromByte (f b)) → RefusesWithin (byte >>= f)
within-byte>>= f w = record { stays = λ s. after_first f w s.rest s refl }

pub from_byte : {A : Type 0} (d : Decoder A) → RefusesWithin d → RefusesFromByte d
from_byte d w = record { stays = λ p s e. stays_from p (end_of s) s (d s) (omega (arith, e)) refl (w.stays s) }

pub from_byte-refuse : (A : Type 0) (k : Refusal) → RefusesFromByte (refuse {A = A} k 1)
from_byte-refuse A k = record { stays = λ p s e. (omega (arith, e), omega (arith, e)) }

pub from_byte-if : {A : Type 0} (b : Bool) (d e : Decoder A) → RefusesFromByte d → RefusesFromByte e → RefusesFromByte (if b then d else e)
from_byte-if true d e v w = v
from_byte-if false d e v w = w

from_byte-choice : {A : Type 0} (k : Refusal) (cs : List (ℕ × Decoder A)) (b : ℕ) → AllWithin cs → RefusesFromByte (choice cs (refuse k 1) b)
from_byte-choice k [] b w = from_byte-refuse _ k
from_byte-choice k (c ∷ cs) b w = from_byte-if (b == c.0) c.1 (choice cs (refuse k 1) b) (from_byte c.1 w.0) (from_byte-choice k cs b w.1)

pub within-choice : {A : Type 0} (k : Refusal) (cs : List (ℕ × Decoder A)) → AllWithin cs → RefusesWithin (byte >>= choice cs (refuse k 1))
within-choice k cs w = within-byte>>= (choice cs (refuse k 1)) (λ b. from_byte-choice k cs b w)

-- ---- numbers

pub within-unsigned : (k r : ℕ) → RefusesWithin (unsigned k r)
unfolding unsigned
within-unsigned zero r = within-byte>>= _ (λ b. from_byte-if (nat_lt b (2 ^ r)) (pure b) (refuse Other 1) (from_byte (pure b) (within-pure b)) (from_byte-refuse _ Other))
within-unsigned (suc k) r = within-byte>>= _ (λ b. from_byte-if (nat_lt b 128) (pure b) (unsigned k r >>= λ m. pure (128 * m + (b - 128)))
    (from_byte (pure b) (within-pure b)) (from_byte _ (within->>= (unsigned k r) _ (within-unsigned k r) (λ m. within-pure _))))

from_byte-last_bits : (r b : ℕ) → RefusesFromByte (last_bits r b)
unfolding last_bits
from_byte-last_bits r b =
    from_byte-if (nat_lt b (2 ^ (r - 1))) (pure (pos b)) _ (from_byte _ (within-pure (pos b)))
    (from_byte-if (nat_lt b (128 - 2 ^ (r - 1))) (refuse Other 1) _ (from_byte-refuse _ Other)
    (from_byte-if (nat_lt b 128) (pure (pos b -ℤ pos 128)) (refuse Other 1) (from_byte _ (within-pure _)) (from_byte-refuse _ Other)))

pub within-signed : (k r : ℕ) → RefusesWithin (signed k r)
unfolding signed
within-signed zero r = within-byte>>= (last_bits r) (λ b. from_byte-last_bits r b)
within-signed (suc k) r = within-byte>>= _ (λ b. from_byte-if (nat_lt b 128) (pure (seven_bits b))
    (signed k r >>= λ m. pure (pos 128 *ℤ m +ℤ pos (b - 128))) (from_byte _ (within-pure _))
    (from_byte _ (within->>= (signed k r) _ (within-signed k r) (λ m. within-pure _))))
