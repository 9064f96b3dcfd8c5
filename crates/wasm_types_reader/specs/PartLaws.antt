-- The decoder of a part, as a reader of its own, is lawful.
use Rattle.std.specs.Prelude.{ℕ}
use Rattle.wasm_types_decoding.specs.Decoder.{State, ◌>>=◌, pure, bytes, IsLawful}
use Rattle.wasm_types_decoding.specs.Laws.{lawful-bytes, lawful->>=, lawful-pure}
use Rattle.wasm_types_decoding.specs.Leb.{u32}
use Rattle.wasm_types_decoding.specs.LebLaws.{lawful-unsigned}
use Rattle.wasm_types_reader.specs.Parts.{part_at, next_part, counted_part}

pub lawful-next_part : (n : ℕ) → IsLawful (next_part n)
lawful-next_part n = record {
  forward = λ s. (there s).forward s;
  steady = λ s more. (there s).steady s more;
}
  where
    there : (s : State) → IsLawful (bytes n >>= λ text. pure (part_at s text))
    there s = lawful->>= (bytes n) (λ text. pure (part_at s text)) (lawful-bytes n) (λ text. lawful-pure (part_at s text))

pub lawful-counted_part : IsLawful counted_part
unfolding counted_part
lawful-counted_part = lawful->>= u32 next_part (lawful-unsigned 4 4) lawful-next_part
