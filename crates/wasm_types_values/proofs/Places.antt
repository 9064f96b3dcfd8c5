-- Where a reader stands behind a byte.
use Rattle.std.proofs.Common.{◌≡◌, ℕ, ◌+◌, ◌<◌, List, [], ◌∷◌, sym, ap, arith}
use Rattle.wasm_types_reader.specs.decoding.Decoder.{State, Done, first_of_rest, byte}
use Rattle.wasm_types_reader.specs.decoding.ExactLaws.{state_is}

one_further : (rest : List ℕ) (s t : State) (b : ℕ) → first_of_rest rest s ≡ Done b t → t.place ≡ s.place + 1
one_further [] s t b e = absurd cc
one_further (c ∷ rest) s t b e = ap (λ (u : State). u.place) (sym (state_is c b (record { rest = rest; place = s.place + 1; settings = s.settings; start = s.start }) t e))

-- it is not at 0
pub beyond_0 : (s t : State) (b : ℕ) → byte s ≡ Done b t → 0 < t.place
beyond_0 s t b e = omega (arith, one_further s.rest s t b e)
