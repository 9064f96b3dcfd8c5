-- A parser that asks for more bytes asks again, as long as there are fewer more than it asked for.
use Rattle.std.proofs.Common.{◌≡◌, ◌∙◌, ◌<◌, ℕ, zero, suc, List, [], ◌∷◌, ◌++◌, length, false, Ok, refl, sym, ap, subst, arith, append-nil}
use Rattle.wasm_types.specs.settings.Settings.{Settings}
use Rattle.wasm_sections_parser.specs.items.frames.Decode.{header}
use Rattle.wasm_sections_parser.specs.Needs.{needed}
use Rattle.wasm_sections_parser.specs.Parsers.{Parser}
use Rattle.wasm_sections_parser.specs.Parsing.{Parses}
use Rattle.wasm_sections_parser.specs.Steps.{step, next_header}
use Rattle.wasm_sections_parser.specs.declared.parser.Chunk.TheVariants.{NeedMoreData}
use Rattle.wasm_sections_parser.specs.runs.hints.HintLaws.{need_least}
use Rattle.wasm_sections_parser.specs.runs.hints.Hints.{AreBytes}
use Rattle.wasm_module_validator_streaming.specs.Awaiting.{Awaits}
use Rattle.wasm_module_validator_streaming.specs.laws.Running.{begins}

nothing : (xs : List ℕ) → length xs ≡ 0 → xs ≡ []
nothing [] e = refl
nothing (x ∷ xs) e = absurd (omega (arith, e))

module _ (q r : Parser) (text : List ℕ) where
  pub awaits_more : (n : ℕ) → Parses q text false (Ok (NeedMoreData n)) r → (more : List ℕ) → AreBytes more → length more < n → Awaits q (text ++ more)
  awaits_more n h more bytes few = let a = (need_least q r text n h).1.fewer more bytes few in (a.0, a.2)

  pub asks_some : (n : ℕ) → Parses q text false (Ok (NeedMoreData n)) r → 0 < n
  asks_some (suc n) h = omega arith
  asks_some zero h =
      let e = (need_least q r text zero h).1.enough in
      let none = nothing e.0 e.2 in
      let same : text ++ e.0 ≡ text = ap (λ (m : List ℕ). text ++ m) none ∙ append-nil text in
      absurd (e.3 zero r (subst (λ (t : List ℕ). Parses q t false (Ok (NeedMoreData zero)) r) (sym same) h))

-- a parser that has read nothing waits for the header
pub awaits_header : (z : Settings) → Awaits (begins z) []
unfolding step next_header header needed
awaits_header z = awaits_more (begins z) (begins z) [] 4 (refl, (0, 4, refl, refl), refl) [] tt (omega arith)
