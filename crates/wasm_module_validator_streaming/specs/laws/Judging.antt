-- What judges a module stands where its parser and its validator do: more bytes may come, and it may be known that none do.
use Rattle.std.proofs.Common.{ℕ, List, ◌++◌, true, false, inl, inr}
use Rattle.wasm_module_validator_streaming.specs.declared.judging.Judging.{Judging}
use Rattle.wasm_module_validator_streaming.specs.Verdicts.{GoesAt, StandsAt}
use Rattle.wasm_module_validator_streaming.specs.laws.GoingBy.{by_read, by_last}
use Rattle.wasm_module_validator_streaming.specs.laws.Running.{goes_read, goes_last}

module _ (first : Judging) (got rest : List ℕ) (now : Judging) where
  pub stands_more : (bytes : List ℕ) → StandsAt first got false rest now → StandsAt first (got ++ bytes) false (rest ++ bytes) now
  stands_more bytes h = record { goes = go h.goes; judge = h.judge }
    where
      go : GoesAt first.validator.settings first.validator.id got false rest now → GoesAt first.validator.settings first.validator.id (got ++ bytes) false (rest ++ bytes) now
      go (inl (none, g)) = inl (none, goes_read first.validator.settings first.validator.id got now.parser.frames rest now.validator bytes g)
      go (inr b) = inr (by_read first.validator.settings first.validator.id got now.parser.frames rest now.validator now.passing now.contents bytes b)

  pub stands_last : StandsAt first got false rest now → StandsAt first got true rest now
  stands_last h = record { goes = go h.goes; judge = h.judge }
    where
      go : GoesAt first.validator.settings first.validator.id got false rest now → GoesAt first.validator.settings first.validator.id got true rest now
      go (inl (none, g)) = inl (none, goes_last first.validator.settings first.validator.id got now.parser.frames rest now.validator g)
      go (inr b) = inr (by_last first.validator.settings first.validator.id got now.parser.frames rest now.validator now.passing now.contents b)
