-- A step again and again until the last, and the bytes that a decoder takes.
use Rattle.std.specs.Prelude.{◌≡◌, ℕ, zero, suc, ◌-◌, List, [], length, take}
use Rattle.wasm_types.specs.decoding.declared.Refusal.TheVariants.{Other}
use Rattle.wasm_types.specs.decoding.Decoder.{Done, Decoder, Grammar, Then, continue_with, ◌>>=◌, pure, refuse}

-- ---- decoders

-- what a step answers: what the next begins with, or what all of them end with
pub data Next (X B : Type 0) : Type 0 where
  Again : X → Next X B
  Last : B → Next X B

-- by what a step answered: more by f, or no more
abbrev pub go_on : {X B : Type 0} → (X → Decoder B) → Next X B → Decoder B
go_on f (Again y) = f y
go_on f (Last b) = pure b

module _ {X B : Type 0} (step : X → Decoder (Next X B)) where
  -- steps up to the last, of which there are at most n
  unfoldable pub steps : ℕ → X → Decoder B
  steps zero x = refuse Other 0
  steps (suc n) x = step x >>= go_on (steps n)

  -- Steps up to the last. Where each takes a byte there are no more than bytes are left, but for the last.
  unfoldable pub until : X → Decoder B
  until x s = steps (suc (length s.rest)) x s

-- the bytes that d takes
unfoldable pub taken_by : {A : Type 0} → Decoder A → Decoder (List ℕ)
taken_by d s = continue_with (d s) (λ x t. Done (take (length s.rest - length t.rest) s.rest) t)

-- ---- grammars, where g is that of a step

-- what follows a step
abbrev pub GoesOn : {X B : Type 0} → (X → Grammar B) → Next X B → Grammar B
GoesOn h (Again y) b text = h y b text
GoesOn h (Last c) b text = (b ≡ c) × (text ≡ [])

-- n steps, and no more
abbrev pub Steps : {X B : Type 0} → (X → Grammar (Next X B)) → ℕ → X → Grammar B
Steps g zero x b text = ⊥
Steps g (suc n) x b text = Then (g x) (GoesOn (Steps g n)) b text

-- some steps
abbrev pub Until : {X B : Type 0} → (X → Grammar (Next X B)) → X → Grammar B
Until g x b text = (n : ℕ) × Steps g n x b text

-- a text by g, whatever it spells
abbrev pub TextBy : {A : Type 0} → Grammar A → Grammar (List ℕ)
TextBy {A} g x text = (text ≡ x) × ((a : A) × g a text)
