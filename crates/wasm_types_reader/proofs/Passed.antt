-- The bytes that were passed.
use Rattle.std.proofs.Common.{◌≡◌, ℕ, ◌+◌, ◌-◌, ◌≤◌, length, take, refl, sym, ap, ◌∙◌, arith}
use Rattle.std.proofs.lemmas.List.{length-append, length-take, take-append-drop, take_at}
use Rattle.wasm_types_decoding.specs.Decoder.{State, Reaches}
use Rattle.wasm_types_decoding.specs.Numbers.{behind}
use Rattle.wasm_types_reader.specs.Parts.{part_at, IsPassed}

pub goes_by : (s t : State) (n : ℕ) → n ≤ length s.rest → t ≡ behind n s → Reaches s t
goes_by s t n le e = record {
  text = take n s.rest;
  taken = rw e (record { parts = sym (take-append-drop n s.rest); place = omega (arith, length-take n s.rest); settings = refl; start = refl });
}

module _ (s t : State) (r : Reaches s t) where
  lengths : length s.rest ≡ length r.text + length t.rest
  lengths = ap length r.taken.parts ∙ length-append r.text t.rest

  pub fewer_left : length t.rest ≤ length s.rest
  fewer_left = omega (arith, lengths)

  pub passed_is : (u : State) (n : ℕ) → n ≡ length s.rest - length t.rest → u ≡ part_at s (take n s.rest) → IsPassed s t u
  passed_is u n e p =
      let k : length r.text ≡ n = omega (arith, lengths) in
      let text : take n s.rest ≡ r.text = ap (take n) r.taken.parts ∙ take_at r.text t.rest n k in
      record { text = r.text; taken = r.taken; part = p ∙ ap (part_at s) text }
