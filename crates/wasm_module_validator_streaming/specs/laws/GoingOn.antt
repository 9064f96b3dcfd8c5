-- What judges a module to its end stands where it is said: more bytes may come, and it may be known that none do.
use Rattle.std.proofs.Common.{◌<◌, ◌+◌, ◌^◌, ℕ, List, ◌++◌, Option, Some, None, true, false, length, subst, arith, append_assoc, length-append}
use Rattle.std.proofs.lemmas.Bool.{false≢true}
use Rattle.wasm_types.specs.decoding.ErrorValue.{ErrorValue}
use Rattle.wasm_types.specs.settings.Settings.{Settings}
use Rattle.wasm_module_validator_section_order.specs.rules.Accepts.{AcceptsUnder}
use Rattle.wasm_module_validator_streaming.specs.declared.going_on.GoingOn.{GoingOn}
use Rattle.wasm_module_validator_streaming.specs.GoingOn.{IsLost, GoesOnBy, GoesOnAt}
use Rattle.wasm_module_validator_streaming.specs.laws.Judging.{stands_more, stands_last}

module _ (z : Settings) (got : List ℕ) (place : ℕ) (rest : List ℕ) (h : IsLost z got false place rest) where
  pub lost_more : (bytes : List ℕ) → IsLost z (got ++ bytes) false place (rest ++ bytes)
  lost_more bytes = record {
    refused = λ more last room a. h.refused (bytes ++ more) (λ t. absurd (false≢true t)) (subst (λ (l : List ℕ). length l < 2 ^ 64) (append_assoc got bytes more) room)
        (subst (AcceptsUnder z) (append_assoc got bytes more) a);
    there = let there = h.there in let all = length-append got bytes in let left = length-append rest bytes in omega (arith, there, all, left);
  }

  pub lost_last : IsLost z got true place rest
  lost_last = record { refused = λ more last room a. h.refused more (λ t. absurd (false≢true t)) room a; there = h.there }

pub goes_on_more : (first : GoingOn) (got rest : List ℕ) (now : GoingOn) (bytes : List ℕ) → GoesOnAt first got false rest now → GoesOnAt first (got ++ bytes) false (rest ++ bytes) now
goes_on_more first got rest now bytes h = go now.refused h
  where
    go : (o : Option ErrorValue) → GoesOnBy first got false rest now o → GoesOnBy first (got ++ bytes) false (rest ++ bytes) now o
    go None s = stands_more first.judging got rest now.judging bytes s
    go (Some e) s = lost_more first.judging.validator.settings got now.judging.parser.frames.offset rest s bytes

pub goes_on_last : (first : GoingOn) (got rest : List ℕ) (now : GoingOn) → GoesOnAt first got false rest now → GoesOnAt first got true rest now
goes_on_last first got rest now h = go now.refused h
  where
    go : (o : Option ErrorValue) → GoesOnBy first got false rest now o → GoesOnBy first got true rest now o
    go None s = stands_last first.judging got rest now.judging s
    go (Some e) s = lost_last first.judging.validator.settings got now.judging.parser.frames.offset rest s
