-- One item more of the bytes that came, and what all whole items of them lead to.
use Rattle.std.proofs.Common.{◌≡◌, ◌∙◌, ◌<◌, ◌≤◌, ◌+◌, ◌-◌, ◌^◌, ℕ, Bool, false, List, [], length, take, drop, sym, ap, subst, arith, append-nil, length-drop, drop-drop}
use Rattle.std.proofs.Math.Seq.{take-length}
use Rattle.wasm_types.specs.decoding.ErrorValue.{ErrorValue}
use Rattle.wasm_module_validator_streaming.specs.declared.taking.Taken.{Taken}
use Rattle.wasm_module_validator_streaming.specs.declared.taking.Taken.TheVariants as taken
use Rattle.wasm_module_validator_streaming.specs.declared.taking.Advanced.{Advanced}
use Rattle.wasm_module_validator_streaming.specs.declared.taking.Advanced.TheVariants as advanced
use Rattle.wasm_module_validator_streaming.specs.Taking.{IsMidst, IsPending, WaitsFor, Carries, DeniesFrom, Takes, Advances}
use Rattle.wasm_module_validator_streaming.specs.Handing.{LongFrom}
use Rattle.wasm_module_validator_streaming.proofs.Waiting.{pending_of}

module _ {S D : Type 0} (stands : S → List ℕ → Bool → List ℕ → S → Type 0) (shown : S → List ℕ → D → Type 0) (denied : S → List ℕ → ErrorValue → Type 0)
    (waits : S → List ℕ → Type 0) (eof : Bool) (bytes : List ℕ) where
  -- what a call promises, wherever it stood
  abbrev pub Answered : List ℕ → S → Taken D → S → Type 0
  Answered rest now result after = (first : S) (got : List ℕ) → stands first got eof rest now → length got < 2 ^ 64 → Takes stands shown denied waits first got eof rest result after

  module _ (then now : S) (passed : ℕ) (rest : List ℕ) (left : rest ≡ drop passed bytes) where
    -- the call was given what is left
    at_rest : (first : S) (got : List ℕ) → stands first got eof (drop passed bytes) now → stands first got eof rest now
    at_rest first got = subst (λ (l : List ℕ). stands first got eof l now) (sym left)

    pub answered_all : (after : S) (result : Taken D) → Answered rest now result after → Carries stands eof bytes then (drop passed bytes) now
        → (first : S) (got : List ℕ) → stands first got eof bytes then → length got < 2 ^ 64 → Takes stands shown denied waits first got eof rest result after
    answered_all after result answered h first got s room = answered first got (at_rest first got (h first got s room)) room

    module _ (after : S) (n : ℕ) (answered : Answered rest now (taken.Item n) after) where
      behind : (first : S) (got : List ℕ) → stands first got eof (drop n rest) after → stands first got eof (drop (passed + n) bytes) after
      behind first got = subst (λ (l : List ℕ). stands first got eof l after) (ap (drop n) left ∙ drop-drop n passed bytes)

      pub item_carries : Carries stands eof bytes then (drop passed bytes) now → Carries stands eof bytes then (drop (passed + n) bytes) after
      item_carries h first got s room = behind first got (answered first got (at_rest first got (h first got s room)) room).2

      pub item_midst : IsMidst stands eof (drop passed bytes) now → IsMidst stands eof (drop (passed + n) bytes) after
      item_midst m = record { first = m.first; got = m.got; there = behind m.first m.got (answered m.first m.got (at_rest m.first m.got m.there) m.room).2; room = m.room }

      -- it has a byte at least, and no more than there are
      pub item_within : IsMidst stands eof (drop passed bytes) now → (0 < n) × (n ≤ length bytes - passed)
      item_within m =
          let t = answered m.first m.got (at_rest m.first m.got m.there) m.room in
          (t.0, subst (λ (k : ℕ). n ≤ k) (ap length left ∙ length-drop passed bytes) t.1)

-- all that is left
pub all_left : (passed : ℕ) (bytes : List ℕ) → take (length bytes - passed) (drop passed bytes) ≡ drop passed bytes
all_left passed bytes = ap (λ (n : ℕ). take n (drop passed bytes)) (sym (length-drop passed bytes)) ∙ take-length (drop passed bytes)

module _ {S D : Type 0} (stands : S → List ℕ → Bool → List ℕ → S → Type 0) (shown : S → List ℕ → D → Type 0) (denied : S → List ℕ → ErrorValue → Type 0)
    (waits : S → List ℕ → Type 0) (bytes items : List ℕ) (same : bytes ≡ items) (then now : S) where
  -- what is promised of all whole items, wherever it stood
  abbrev pub AllAnswered : Advanced D → Type 0
  AllAnswered result = (first : S) (got : List ℕ) → stands first got false bytes then → length got < 2 ^ 64 → Advances stands shown denied waits first got false bytes result now

  pub waits_carries : (n k : ℕ) → AllAnswered (advanced.Waits n k) → (left : List ℕ) → left ≡ drop n items → Carries stands false items then left now
  waits_carries n k h left e first got s room =
      let t = h first got (subst (λ (l : List ℕ). stands first got false l then) (sym same) s) room in
      subst (λ (l : List ℕ). stands first got false l now) (ap (drop n) same ∙ sym e) t.2

  -- what is left holds no whole item
  pub waits_pending : (n k : ℕ) → AllAnswered (advanced.Waits n k) → IsMidst stands false items then → (left : List ℕ) → left ≡ drop n items
      → (needed : ℕ) → needed ≤ length left + k → IsPending waits needed left now
  waits_pending n k h m left e needed most =
      let t = h m.first m.got (subst (λ (l : List ℕ). stands m.first m.got false l then) (sym same) m.there) m.room in
      pending_of waits k left now (subst (λ (l : List ℕ). WaitsFor waits k l now) (ap (drop n) same ∙ sym e) t.3) needed most

  pub refused_denies : (e : ErrorValue) → AllAnswered (advanced.Refused e) → DeniesFrom stands denied false items then e
  refused_denies e h first got s room = h first got (subst (λ (l : List ℕ). stands first got false l then) (sym same) s) room

  -- what is left is too long
  pub waits_long : (n k : ℕ) → AllAnswered (advanced.Waits n k) → (most : ℕ) → most < length (drop n items) → LongFrom stands waits most items then
  waits_long n k h most more = λ first got s room.
      let t = h first got (subst (λ (l : List ℕ). stands first got false l then) (sym same) s) room in
      let left : drop n bytes ≡ drop n items = ap (drop n) same in
      let pending = pending_of waits k (drop n bytes) now t.3 (length (drop n bytes)) (omega arith) in
      record {
        front = got;
        later = [];
        whole = sym (append-nil got);
        passed = (drop n bytes, now, t.2, pending.here);
        some = let e = ap length left in omega (arith, e, more);
        full = let e = ap length left in omega (arith, e, more);
        more = let e = ap length left in omega (arith, e, more);
      }
