-- The targets of a branch table as the bytes that are kept of them: numbers of 32 bits, one after the other, and no byte behind the last.
use Rattle.std.specs.Prelude.{◌≡◌, [], ◌∷◌, true, false}
use Rattle.wasm_operators_immediates.specs.Numbers.{numbers_in, values, is_whole}

pub record LabelRows : Type 0 where
  pub two : values (numbers_in 2 (0x01 ∷ 0x82 ∷ 0x01 ∷ [])) ≡ 1 ∷ 130 ∷ []
  pub none : values (numbers_in 0 []) ≡ []
  pub one_missing : values (numbers_in 2 (0x01 ∷ [])) ≡ []
  pub too_large : values (numbers_in 1 (0xff ∷ 0xff ∷ 0xff ∷ 0xff ∷ 0x10 ∷ [])) ≡ []
  pub two_are_whole : is_whole (numbers_in 2 (0x01 ∷ 0x82 ∷ 0x01 ∷ [])) ≡ true
  pub byte_left : is_whole (numbers_in 1 (0x01 ∷ 0x02 ∷ [])) ≡ false
  pub byte_missing : is_whole (numbers_in 1 (0x82 ∷ [])) ≡ false
