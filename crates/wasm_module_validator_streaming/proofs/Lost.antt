-- What judges a module to its end: what an item leads to, before a body is refused and behind one that is.
use Rattle.std.proofs.Common.{◌≡◌, ◌∙◌, ◌<◌, ◌≤◌, ◌+◌, ◌^◌, ℕ, Bool, true, false, List, ◌++◌, length, drop, Option, Some, None, Ok, is_some, refl, sym, ap, subst, arith, length-drop}
use Rattle.std.proofs.lemmas.Bool.{false≢true}
use Rattle.wasm_types.specs.decoding.Denials.{Denies}
use Rattle.wasm_types.specs.decoding.DenialLaws.{denies}
use Rattle.wasm_types.specs.decoding.ErrorValue.{ErrorValue}
use Rattle.wasm_types.specs.decoding.declared.error.ErrorKind.{ErrorKind}
use Rattle.wasm_types.specs.decoding.declared.error.ErrorKind.TheVariants as kinds
use Rattle.wasm_sections_parser.specs.Parsers.{Parser}
use Rattle.wasm_sections.specs.declared.parser.Chunk.TheVariants as chunks
use Rattle.wasm_sections.specs.Parsing.{ParsesPayload}
use Rattle.wasm_module_validator_section_order.specs.rules.Accepts.{AcceptsUnder}
use Rattle.wasm_module_validator.specs.Shown.{Learned}
use Rattle.wasm_module_validator_streaming.specs.declared.going_on.GoingOn.{GoingOn}
use Rattle.wasm_module_validator_streaming.specs.declared.taking.Taken.{Taken}
use Rattle.wasm_module_validator_streaming.specs.declared.taking.Taken.TheVariants as taken
use Rattle.wasm_module_validator_streaming.specs.GoingOn.{IsLost, GoesOnBy, GoesOnAt, ShownOn, DeniedOn, WaitsOn}
use Rattle.wasm_module_validator_streaming.specs.Taking.{IsMidst, IsDenied, Takes}
use Rattle.wasm_module_validator_streaming.specs.Verdicts.{StandsAt, ShownAt, DeniedAt, WaitsAt}
use Rattle.wasm_module_validator_streaming.specs.laws.Running.{goes_place}
use Rattle.wasm_module_validator_streaming.proofs.Stepping.{asked_for, goes_next}

-- a refusal that is not for memory denies what it refuses
no_memory_denies : (k : ErrorKind) (A : Type 0) → (k ≡ kinds.OutOfMemory → ⊥) → Denies k A → A → ⊥
no_memory_denies (kinds.EndOfData h) A other d = d
no_memory_denies (kinds.MissingFeature f) A other d = d
no_memory_denies kinds.OutOfMemory A other d = absurd (other refl)
no_memory_denies kinds.Failed A other d = d
no_memory_denies kinds.Other A other d = d

-- ---- before a body is refused

-- it stands where what judges the module does
pub midst_judged : (eof : Bool) (rest : List ℕ) (now : GoingOn) → now.refused ≡ None → IsMidst GoesOnAt eof rest now → IsMidst StandsAt eof rest now.judging
midst_judged eof rest now none m = record {
  first = m.first.judging;
  got = m.got;
  there = subst (GoesOnBy m.first m.got eof rest now) none m.there;
  room = m.room;
}

module _ (first now : GoingOn) (got : List ℕ) (eof : Bool) (rest : List ℕ) (none : now.refused ≡ None) (s : GoesOnAt first got eof rest now) where
  pub stands_there : StandsAt first.judging got eof rest now.judging
  stands_there = subst (GoesOnBy first got eof rest now) none s

  -- where no contents go by the parser stands before what is left
  pub stands_before : now.judging.passing ≡ 0 → now.judging.parser.frames.offset + length rest ≡ length got
  stands_before idle = goes_place first.judging.validator.settings first.judging.validator.id got eof now.judging.parser.frames rest now.judging.validator
      (goes_next first.judging now.judging got eof rest stands_there idle)

module _ (first after : GoingOn) (got : List ℕ) (eof : Bool) (rest : List ℕ) where
  stands_here : after.refused ≡ None → (left : List ℕ) → StandsAt first.judging got eof left after.judging → GoesOnAt first got eof left after
  stands_here none left h = subst (GoesOnBy first got eof left after) (sym none) h

  -- what it takes is taken, unless a body is refused
  pub takes_on : after.refused ≡ None → (result : Taken Learned) → Takes StandsAt ShownAt DeniedAt WaitsAt first.judging got eof rest result after.judging
      → Takes GoesOnAt ShownOn DeniedOn WaitsOn first got eof rest result after
  takes_on none (taken.Item n) t = (t.0, t.1, stands_here none (drop n rest) t.2)
  takes_on none (taken.Waits n) t = (t.0, stands_here none rest t.1, (t.2.0, λ more bytes few. tt))
  takes_on none (taken.Ended d) t = t
  takes_on none (taken.Refused e) t = t

  -- a body that is refused goes by
  pub body_goes_by : (e : ErrorValue) (before n : ℕ) → before + length rest ≡ length got → IsDenied DeniedOn first got eof e → (e.kind ≡ kinds.OutOfMemory → ⊥) → after.refused ≡ Some e
      → 0 < n → n ≤ length rest → after.judging.parser.frames.offset ≡ before + n → Takes GoesOnAt ShownOn DeniedOn WaitsOn first got eof rest (taken.Item n) after
  body_goes_by e before n place d other kept some few moved = (
    some,
    few,
    subst (GoesOnBy first got eof (drop n rest) after) (sym kept) (record {
      refused = λ more last room a. no_memory_denies e.kind (AcceptsUnder first.judging.validator.settings (got ++ more)) other (d more last room) a;
      there = let left = length-drop n rest in omega (arith, left, place, few, moved);
    }),
  )

-- ---- behind a body that was refused

module _ (first now : GoingOn) (got : List ℕ) (eof : Bool) (rest : List ℕ) (lost : is_some now.refused ≡ true) (s : GoesOnAt first got eof rest now) where
  is_lost : IsLost first.judging.validator.settings got eof now.judging.parser.frames.offset rest
  is_lost = go now.refused lost s
    where
      go : (o : Option ErrorValue) → is_some o ≡ true → GoesOnBy first got eof rest now o → IsLost first.judging.validator.settings got eof now.judging.parser.frames.offset rest
      go None l h = absurd (false≢true l)
      go (Some e) l h = h

  -- any error denies the module
  pub lost_denies : (e : ErrorValue) → IsDenied DeniedOn first got eof e
  lost_denies e = λ more last room. denies e.kind (AcceptsUnder first.judging.validator.settings (got ++ more)) (is_lost.refused more last room)

  lost_stays : (after : GoingOn) → after.refused ≡ now.refused → (left : List ℕ) → after.judging.parser.frames.offset + length left ≡ now.judging.parser.frames.offset + length rest → GoesOnAt first got eof left after
  lost_stays after same left place = subst (GoesOnBy first got eof left after) (sym same) (go now.refused lost)
    where
      go : (o : Option ErrorValue) → is_some o ≡ true → GoesOnBy first got eof left after o
      go None l = absurd (false≢true l)
      go (Some e) l = record { refused = is_lost.refused; there = place ∙ is_lost.there }

  -- an item goes by
  pub lost_item : (after : GoingOn) (n : ℕ) → after.refused ≡ now.refused → 0 < n → n ≤ length rest → after.judging.parser.frames.offset ≡ now.judging.parser.frames.offset + n
      → Takes GoesOnAt ShownOn DeniedOn WaitsOn first got eof rest (taken.Item n) after
  lost_item after n same some few moved = (some, few, lost_stays after same (drop n rest) (let left = length-drop n rest in omega (arith, left, few, moved)))

  -- more bytes are asked for
  pub lost_waits : (after : GoingOn) (n : ℕ) → after.refused ≡ now.refused → ParsesPayload now.judging.parser.frames rest eof (Ok (chunks.NeedMoreData n)) after.judging.parser.frames
      → Takes GoesOnAt ShownOn DeniedOn WaitsOn first got eof rest (taken.Waits n) after
  lost_waits after n same h =
      let a = asked_for now.judging.parser.frames after.judging.parser.frames rest eof n h in
      (a.0, lost_stays after same rest (ap (λ (q : Parser). q.offset + length rest) a.1), (a.3, λ more bytes few. tt))

-- offsets have 64 bits
pub lost_room : (eof : Bool) (rest : List ℕ) (now : GoingOn) → is_some now.refused ≡ true → IsMidst GoesOnAt eof rest now → now.judging.parser.frames.offset + length rest < 2 ^ 64
lost_room eof rest now lost m =
    let place = (is_lost m.first now m.got eof rest lost m.there).there in
    let room = m.room in
    omega (arith, place, room)
