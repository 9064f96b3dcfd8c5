-- A module of which contents of a custom section go by: where its parser and its validator stand before them, and what each byte leads to.
use Rattle.std.proofs.Common.{◌≡◌, ◌∙◌, ◌<◌, ◌≤◌, ◌+◌, ◌-◌, ◌^◌, ℕ, zero, suc, Bool, true, false, List, [], ◌∷◌, ◌++◌, length, drop, Option, None, Ok, Err, inl, inr, refl, sym, ap, subst, arith, append-nil, append_assoc}
use Rattle.wasm_types.specs.decoding.ErrorValue.{ErrorValue}
use Rattle.wasm_types.specs.decoding.declared.error.ErrorKind.{ErrorKind}
use Rattle.wasm_types.specs.decoding.declared.error.ErrorKind.TheVariants.{EndOfData}
use Rattle.wasm_types.specs.settings.Settings.{Settings}
use Rattle.wasm_sections_parser.specs.Needs.{needed}
use Rattle.wasm_sections_parser.specs.Parsers.{Parser, staged}
use Rattle.wasm_sections_parser.specs.Parsing.{Parses}
use Rattle.wasm_sections_parser.specs.declared.frame.Frame.TheVariants.{Custom}
use Rattle.wasm_sections_parser.specs.declared.parser.Chunk.TheVariants.{Parsed}
use Rattle.wasm_sections_parser.specs.declared.progress.Stage.TheVariants as stages
use Rattle.wasm_sections.specs.declared.payload.Payload.TheVariants as payloads
use Rattle.wasm_module_validator_index_spaces.specs.declared.view.validator_id.ValidatorId.{ValidatorId}
use Rattle.wasm_module_validator.specs.declared.payloads.ValidPayload.TheVariants as valid
use Rattle.wasm_module_validator.specs.declared.validator.State.{State}
use Rattle.wasm_module_validator.specs.declared.validator.Validator.{Validator}
use Rattle.wasm_module_validator.specs.Methods.{failure}
use Rattle.wasm_module_validator_section_order.specs.rules.Accepts.{AcceptsUnder}
use Rattle.wasm_module_validator_streaming.specs.Awaiting.{Awaits}
use Rattle.wasm_module_validator_streaming.specs.Passing.{Passes}
use Rattle.wasm_module_validator_streaming.specs.laws.Passing.{passes_on, passes_all, passes_asks, passes_ends}
use Rattle.wasm_module_validator_streaming.specs.laws.Running.{Goes, FitsFrames, goes_read, goes_last, goes_on, bytes_refused}
use Rattle.wasm_module_validator_streaming.specs.laws.Waiting.{awaits_more, asks_some}

-- A custom section comes next of these bytes, for a parser that stands before it. Some bytes of it went by, and so many are missing before those
-- that are left; its contents begin at this offset, and it leads to q.
pub record GoesBy (z : Settings) (id : ValidatorId) (got : List ℕ) (eof : Bool) (q : Parser) (rest : List ℕ) (v : Validator)
    (missing place : ℕ) : Type 0 where
  pub before : Parser
  pub gone : List ℕ
  pub goes : Goes z id got eof before (gone ++ rest) v
  pub passes : Passes before gone missing place q

-- ---- lists

-- more bytes are dropped than the first has
drop_past : {A : Type 0} (k : ℕ) (xs ys : List A) (n : ℕ) → k ≡ length xs + n → drop k (xs ++ ys) ≡ drop n ys
drop_past k [] ys n e = ap (λ (m : ℕ). drop m ys) (omega (arith, e))
drop_past zero (x ∷ xs) ys n e = absurd (omega (arith, e))
drop_past (suc k) (x ∷ xs) ys n e = drop_past k xs ys n (omega (arith, e))

drop_all : {A : Type 0} (k : ℕ) (xs : List A) → k ≡ length xs → drop k xs ≡ []
drop_all zero [] e = refl
drop_all (suc k) [] e = refl
drop_all zero (x ∷ xs) e = absurd (omega (arith, e))
drop_all (suc k) (x ∷ xs) e = drop_all k xs (omega (arith, e))

module _ (z : Settings) (id : ValidatorId) where
  -- a validator that reads a module has not failed
  not_failed : (got : List ℕ) (eof : Bool) (q : Parser) (rest : List ℕ) (v : Validator) → Goes z id got eof q rest v → None ≡ failure v.state
  not_failed got eof q rest v g = go g.fits
    where
      go : FitsFrames z id g.frames v → None ≡ failure v.state
      go (inl (st, none, empty)) = ap failure (sym st)
      go (inr (st, some, fits, grown)) = ap failure (sym st)

  module _ (got : List ℕ) (eof : Bool) (q : Parser) (v : Validator) (missing place : ℕ) where
    -- the front of a section came, and no more
    pub begins_by : (p : Parser) (text : List ℕ) (n : ℕ) → n ≡ length text → Goes z id got eof p text v → Passes p text missing place q
        → GoesBy z id got eof q (drop n text) v missing place
    begins_by p text n all g h = record {
      before = p;
      gone = text;
      goes = subst (λ (l : List ℕ). Goes z id got eof p l v) (sym (ap (λ (l : List ℕ). text ++ l) (drop_all n text all) ∙ append-nil text)) g;
      passes = h;
    }

    module _ (rest : List ℕ) (h : GoesBy z id got eof q rest v missing place) where
      -- all that is left goes by, and more is missing
      pub some_by : (n : ℕ) → n ≡ length rest → length rest < missing → GoesBy z id got eof q (drop n rest) v (missing - n) place
      some_by n all few = record {
        before = h.before;
        gone = h.gone ++ rest;
        goes = subst (λ (l : List ℕ). Goes z id got eof h.before l v)
            (sym (ap (λ (l : List ℕ). (h.gone ++ rest) ++ l) (drop_all n rest all) ∙ append-nil (h.gone ++ rest))) h.goes;
        passes = subst (λ (k : ℕ). Passes h.before (h.gone ++ rest) (missing - k) place q) (sym all) (passes_on h.before h.gone missing place q h.passes rest few);
      }

      -- the others go by, and the section is taken
      pub all_by : missing ≤ length rest → Goes z id got eof q (drop missing rest) v
      all_by enough =
          let n = length h.gone + missing in
          let c = passes_all h.before h.gone missing place q h.passes rest eof enough in
          subst (λ (l : List ℕ). Goes z id got eof q l v) (drop_past n h.gone rest missing refl)
          (goes_on z id got eof h.before (h.gone ++ rest) v h.goes n (Custom c.0) q c.1 (payloads.CustomSection c.0) refl v
          (Ok tt, refl, (not_failed got eof h.before (h.gone ++ rest) v h.goes, refl)))

  -- more bytes come
  pub by_read : (got : List ℕ) (q : Parser) (rest : List ℕ) (v : Validator) (missing place : ℕ) (bs : List ℕ) → GoesBy z id got false q rest v missing place
      → GoesBy z id (got ++ bs) false q (rest ++ bs) v missing place
  by_read got q rest v missing place bs h = record {
    before = h.before;
    gone = h.gone;
    goes = subst (λ (l : List ℕ). Goes z id (got ++ bs) false h.before l v) (append_assoc h.gone rest bs) (goes_read z id got h.before (h.gone ++ rest) v bs h.goes);
    passes = h.passes;
  }

  -- no more bytes come
  pub by_last : (got : List ℕ) (q : Parser) (rest : List ℕ) (v : Validator) (missing place : ℕ) → GoesBy z id got false q rest v missing place
      → GoesBy z id got true q rest v missing place
  by_last got q rest v missing place h = record {
    before = h.before;
    gone = h.gone;
    goes = goes_last z id got h.before (h.gone ++ rest) v h.goes;
    passes = h.passes;
  }

  -- if none come, the bytes end in the section
  pub by_ends : (got : List ℕ) (q : Parser) (rest : List ℕ) (v : Validator) (missing place : ℕ) → GoesBy z id got true q rest v missing place → rest ≡ []
      → (e : ErrorValue) → e.kind ≡ EndOfData missing → e.offset ≡ place → (more : List ℕ) → (true ≡ true → more ≡ []) → length (got ++ more) < 2 ^ 64
      → AcceptsUnder z (got ++ more) → ⊥
  by_ends got q rest v missing place h none e kind offset =
      let all : h.gone ≡ h.gone ++ rest = sym (ap (λ (l : List ℕ). h.gone ++ l) none ∙ append-nil h.gone) in
      bytes_refused z id got true h.before (h.gone ++ rest) v e (staged h.before stages.Failed) h.goes
      (inl (subst (λ (l : List ℕ). Parses h.before l true (Err e) (staged h.before stages.Failed)) all (passes_ends h.before h.gone missing place q h.passes e kind offset)))

  -- the parser that stands before the section asks for more
  pub by_awaits : (got : List ℕ) (eof : Bool) (q : Parser) (rest : List ℕ) (v : Validator) (missing place : ℕ) (h : GoesBy z id got eof q rest v missing place) → rest ≡ []
      → Awaits h.before (h.gone ++ rest)
  by_awaits got eof q rest v missing place h none =
      let p = h.before in
      let n = needed p.progress p.offset h.gone missing in
      let asks = passes_asks p h.gone missing place q h.passes in
      subst (λ (l : List ℕ). Awaits p (h.gone ++ l)) (sym none) (awaits_more p p h.gone n asks [] tt (asks_some p p h.gone n asks))
