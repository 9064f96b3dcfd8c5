-- Expressions stand among the bytes of their section.
use Rattle.std.proofs.Common.{◌≡◌, ◌∙◌, ◌+◌, ◌≤◌, ℕ, List, length, ap, arith}
use Rattle.std.proofs.lemmas.List.{length-append}
use Rattle.wasm_types.specs.decoding.Decoder.{State, Done}
use Rattle.wasm_types.specs.decoding.Places.{end_of}
use Rattle.wasm_types.specs.settings.Settings.{Settings}
use Rattle.wasm_operators_encoding.specs.ConstantDecoder.{constant}
use Rattle.wasm_operators_encoding.specs.ConstantDecoderLaws.{decides-constant}

-- one that is read ends no later than the bytes do, which end as before
pub constant_within : (z : Settings) (s t : State) (text : List ℕ) → constant z s ≡ Done text t → (s.place + length text ≤ end_of s) × (end_of t ≡ end_of s)
constant_within z s t text e =
    let h = (decides-constant z).sound s t text e in
    let taken = h.1 in
    let same : length h.0 ≡ length text = ap length h.2.0 in
    let all : length s.rest ≡ length h.0 + length t.rest = ap length taken.parts ∙ length-append h.0 t.rest in
    (omega (arith, same, all), omega (arith, taken.place, all))
