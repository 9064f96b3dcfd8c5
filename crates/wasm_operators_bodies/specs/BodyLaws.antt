-- The decoder of bodies is lawful, and reads exactly what its grammar spells.
use Rattle.std.proofs.Common.{◌≡◌, ℕ, List, length, ◌++◌, refl, sym, ap, ◌∙◌, subst}
use Rattle.wasm_types.specs.decoding.Decoder.{State, Outcome, Done, Short, Fault, continue_with, ◌>>=◌, pure, bytes, IsLawful, Decides, Then}
use Rattle.wasm_types.specs.decoding.Laws.{lawful->>=, lawful-pure}
use Rattle.wasm_types.specs.decoding.ExactLaws.{Exactly, decides->>=, decides-same, decides-bytes}
use Rattle.wasm_types.specs.decoding.Leb.{u32, IsUnsigned}
use Rattle.wasm_types.specs.decoding.LebLaws.{decides-u32}
use Rattle.wasm_types.specs.reader.Parts.{part_at, next_part, counted_part}
use Rattle.wasm_types.specs.reader.PartLaws.{lawful-counted_part}
use Rattle.wasm_operators_bodies.specs.Bodies.{SpelledBody, body_bytes}

pub lawful-body : IsLawful body_bytes
unfolding body_bytes
lawful-body = lawful->>= counted_part (λ part. pure part.rest) lawful-counted_part (λ part. lawful-pure part.rest)

-- the same bytes, without a part
part_bytes : (s : State) (o : Outcome (List ℕ)) → continue_with (continue_with o (λ text. pure (part_at s text))) (λ part. pure part.rest) ≡ o
part_bytes s (Done text t) = refl
part_bytes s (Short p h) = refl
part_bytes s (Fault k p) = refl

counted_bytes : (o : Outcome ℕ) → continue_with (continue_with o next_part) (λ part. pure part.rest) ≡ continue_with o bytes
counted_bytes (Done n t) = part_bytes t (bytes n t)
counted_bytes (Short p h) = refl
counted_bytes (Fault k p) = refl

same_bytes : (s : State) → body_bytes s ≡ (u32 >>= bytes) s
unfolding body_bytes counted_part
same_bytes s = counted_bytes (u32 s)

body_to : (body text : List ℕ) → Then (IsUnsigned 32) Exactly body text → SpelledBody body text
body_to body text h = record {
  size = h.front;
  counted = subst (λ (n : ℕ). IsUnsigned 32 n h.front) (sym h.second.0) h.first;
  whole = h.whole ∙ ap (λ (z : List ℕ). h.front ++ z) h.second.1;
}

body_from : (body text : List ℕ) → SpelledBody body text → Then (IsUnsigned 32) Exactly body text
body_from body text h = record { value = length body; front = h.size; back = body; first = h.counted; second = (refl, refl); whole = h.whole }

decides-counted : Decides (u32 >>= bytes) SpelledBody
decides-counted = decides-same (u32 >>= bytes) (Then (IsUnsigned 32) Exactly) SpelledBody (decides->>= u32 bytes (IsUnsigned 32) Exactly decides-u32 decides-bytes) body_to body_from

pub decides-body : Decides body_bytes SpelledBody
decides-body = record {
  sound = λ s t x e. decides-counted.sound s t x (sym (same_bytes s) ∙ e);
  complete = λ s t x text p g. same_bytes s ∙ decides-counted.complete s t x text p g;
}
