-- Bytes that were passed as numbers are those numbers.
use Rattle.std.proofs.Common.{◌≡◌, ℕ, ◌+◌, ◌-◌, ◌<◌, ◌^◌, List, [], length, take, refl, sym, ap, ◌∙◌, arith, IsTrue}
use Rattle.std.proofs.lemmas.List.{length-append, append-nil, take_at}
use Rattle.wasm_types.specs.decoding.Decoder.{State, Done, Takes, repeated, bytes}
use Rattle.wasm_types.specs.decoding.ExactLaws.{decides-repeated, decides-bytes}
use Rattle.wasm_types.specs.decoding.Leb.{u32, IsUnsigned}
use Rattle.wasm_types.specs.decoding.LebLaws.{decides-u32}
use Rattle.wasm_types.specs.decoding.Lists.{size_within}
use Rattle.wasm_types.specs.decoding.ListLaws.{decides-size_within}
use Rattle.wasm_types.specs.settings.Settings.{no_features}
use Rattle.wasm_operators_immediates.specs.Numbers.{numbers_at, numbers_in, values, is_whole}

pub size_is_small : (limit n : ℕ) (s t : State) → limit < 2 ^ 32 → size_within limit s ≡ Done n t → n < 2 ^ 32
size_is_small limit n s t small e = let p = (decides-size_within limit).sound s t n e in omega (arith, small, p.2.within)

pub record IsPart (n : ℕ) (xs text : List ℕ) : Type 0 where
  pub read : IsTrue (is_whole (numbers_in n text))
  pub same : values (numbers_in n text) ≡ xs

pub part_is : (n : ℕ) (s t u : State) (xs text : List ℕ) → repeated n u32 s ≡ Done xs t → bytes (length s.rest - length t.rest) s ≡ Done text u → IsPart n xs text
unfolding numbers_at
part_is n s t u xs text e b =
    let all = decides-repeated u32 (IsUnsigned 32) decides-u32 n in
    let k = length s.rest - length t.rest in
    let p = all.sound s t xs e in
    let q = (decides-bytes k).sound s u text b in
    let lp : length p.0 ≡ k = omega (arith, ap length p.1.parts, length-append p.0 t.rest) in
    let lq : length q.0 ≡ k = ap length q.2.1 ∙ q.2.0 in
    let same : p.0 ≡ text = sym (take_at p.0 t.rest k lp) ∙ ap (λ (r : List ℕ). take k r) (sym p.1.parts ∙ q.1.parts) ∙ take_at q.0 u.rest k lq ∙ q.2.1 in
    let z : State = record { rest = text; place = 0; settings = no_features; start = 0 } in
    let w : State = record { rest = []; place = 0 + length p.0; settings = no_features; start = 0 } in
    let taken : Takes z p.0 w = record { parts = sym same ∙ sym (append-nil p.0); place = refl; settings = refl; start = refl } in
    let d : repeated n u32 z ≡ Done xs w = all.complete z w xs p.0 taken p.2 in
    record { read = rw d refl; same = ap values d }
