-- Where a type that was read begins.
use Rattle.std.proofs.Common.{◌≡◌, ap}
use Rattle.wasm_types_decoding.specs.Decoder.{State, Outcome, Done, Decoder, continue_with, pure}
use Rattle.wasm_types.specs.Places.{place_of}

pub placed : {A : Type 0} (d : Decoder A) (s t : State) (x : A) → d s ≡ Done x t → place_of d s ≡ Done s.place t
placed {A} d s t x e = ap (λ (o : Outcome A). continue_with o (λ y. pure s.place)) e
