-- A module whose pieces are handed over: what one piece more leads to.
use Rattle.std.proofs.Common.{◌≡◌, ◌∙◌, ◌<◌, ◌≤◌, ◌+◌, ◌^◌, inl, inr, ℕ, false, List, [], ◌++◌, length, Some, None, Err, vec_len, sym, ap, subst, arith, append-nil, append_assoc, length-append}
use Rattle.std.proofs.lemmas.Bool.{false≢true}
use Rattle.wasm_types.specs.decoding.Denials.{Denies}
use Rattle.wasm_types.specs.decoding.ErrorValue.{ErrorValue}
use Rattle.wasm_types.specs.decoding.declared.error.ErrorKind.{ErrorKind}
use Rattle.wasm_types.specs.settings.Settings.{Settings}
use Rattle.wasm_module_validator_index_spaces.specs.declared.view.validator_id.ValidatorId.{ValidatorId}
use Rattle.wasm_module_validator.specs.Shown.{Learned}
use Rattle.wasm_module_validator_section_order.specs.rules.Accepts.{AcceptsUnder}
use Rattle.wasm_module_validator_streaming.specs.declared.handing.PieceError.{PieceError}
use Rattle.wasm_module_validator_streaming.specs.declared.handing.PieceError.TheVariants as errors
use Rattle.wasm_module_validator_streaming.specs.declared.judging.Judging.{Judging}
use Rattle.wasm_module_validator_streaming.specs.declared.pieces.ModuleInPieces.{ModuleInPieces}
use Rattle.wasm_module_validator_streaming.specs.Awaiting.{IsNotRefused}
use Rattle.wasm_module_validator_streaming.specs.HandedOver.{DeniesAll, HasLongItem, RefusesFrom, IsJudged, IsJudgedOr, Came, IsUnderWay, TellsModule, IsAgain}
use Rattle.wasm_module_validator_streaming.specs.Handing.{HasRoom, Follows, DeniesBehind, IsOverlong, LongBehind, Says}
use Rattle.wasm_module_validator_streaming.specs.Taking.{IsMidst, IsPending}
use Rattle.wasm_module_validator_streaming.specs.Verdicts.{IsRefusal, IsVerdict, StandsAt, ShownAt, DeniedAt, WaitsAt}
use Rattle.wasm_module_validator_streaming.proofs.Stepping.{left_here, passed_here}
use Rattle.wasm_module_validator_streaming.proofs.Waiting.{none_pending}

-- ---- what is known of one that is not refused

module _ (z : Settings) (id : ValidatorId) (got : List ℕ) (p : ModuleInPieces) where
  pub judged_of : p.refused ≡ None → Came z id got p → IsJudged z id got p
  judged_of none c = subst (IsJudgedOr z id got p) none c.judged

  pub came_of : p.refused ≡ None → IsJudged z id got p → vec_len p.pending.bytes ≤ p.most → Came z id got p
  came_of none j held = record { judged = subst (IsJudgedOr z id got p) (sym none) j; held = held }

  -- each whole item of what came was judged, and none is refused
  pub not_refused_of : p.refused ≡ None → Came z id got p → IsNotRefused z got
  not_refused_of none c =
      let j = judged_of none c in
      subst (λ (y : Settings). IsNotRefused y got) j.settings (passed_here j.first got (p.pending.bytes.items, p.judging, j.there, j.pending.here))

  pub refusal_of : (e : PieceError) → p.refused ≡ Some e → Came z id got p → RefusesFrom z p.most got e
  refusal_of e some c = subst (IsJudgedOr z id got p) some c.judged

  -- what is refused stays so, whatever comes, and so does what is too long
  pub still_refused : (e : PieceError) → (most : ℕ) → (bytes : List ℕ) → RefusesFrom z most got e → RefusesFrom z most (got ++ bytes) e
  still_refused (errors.Refused e) most bytes h = λ more room. subst (λ (l : List ℕ). IsRefusal z l e) (sym (append_assoc got bytes more))
      (h (bytes ++ more) (subst (λ (l : List ℕ). length l < 2 ^ 64) (append_assoc got bytes more) room))
  still_refused errors.TooLong most bytes (inl h) = inl (record {
    front = h.front;
    later = h.later ++ bytes;
    whole = ap (λ (l : List ℕ). l ++ bytes) h.whole ∙ append_assoc h.front h.later bytes;
    judged = h.judged;
    other = h.other;
    full = h.full;
    more = let more = h.more in let all = length-append h.later bytes in omega (arith, more, all);
  })
  still_refused errors.TooLong most bytes (inr h) = inr (let all = length-append got bytes in omega (arith, all, h))

  pub refused_came : (e : PieceError) (q : ModuleInPieces) → q.refused ≡ Some e → RefusesFrom z q.most got e → vec_len q.pending.bytes ≤ q.most → Came z id got q
  refused_came e q some h held = record { judged = subst (IsJudgedOr z id got q) (sym some) h; held = held }

  -- and so it is where nothing else changes
  pub still_came : (e : PieceError) → (bytes : List ℕ) → p.refused ≡ Some e → Came z id got p → Came z id (got ++ bytes) p
  still_came e bytes some c = record { judged = subst (IsJudgedOr z id (got ++ bytes) p) (sym some) (still_refused e p.most bytes (refusal_of e some c)); held = c.held }

-- an error of the same kind refuses the same
pub same_refuses : (z : Settings) (most : ℕ) (got : List ℕ) (e k : PieceError) → IsAgain e k → RefusesFrom z most got e → RefusesFrom z most got k
same_refuses z most got (errors.Refused e) (errors.Refused k) same h = λ more room. subst (λ (kind : ErrorKind). Denies kind (AcceptsUnder z (got ++ more))) (sym same.0) (h more room)
same_refuses z most got (errors.Refused e) errors.TooLong same h = absurd same
same_refuses z most got errors.TooLong (errors.Refused k) same h = absurd same
same_refuses z most got errors.TooLong errors.TooLong same h = h

-- ---- one piece more

module _ (p : ModuleInPieces) (none : p.refused ≡ None) (way : IsUnderWay p) (bytes : List ℕ) (few : p.came + length bytes < 2 ^ 64) where
  here : IsJudged way.settings way.id way.got p
  here = judged_of way.settings way.id way.got p none way.came

  pub has_room : HasRoom StandsAt p.pending.bytes.items p.judging (length bytes)
  has_room = record {
    first = here.first;
    got = way.got;
    there = here.there;
    room = let counted = here.counted in omega (arith, few, counted);
  }

  pub is_pending : IsPending WaitsAt p.pending.needed p.pending.bytes.items p.judging
  is_pending = here.pending

module _ (z : Settings) (id : ValidatorId) (got : List ℕ) (p : ModuleInPieces) (j : IsJudged z id got p) (bytes : List ℕ) (few : p.came + length bytes < 2 ^ 64) where
  fits : length (got ++ bytes) < 2 ^ 64
  fits = let all = length-append got bytes in let counted = j.counted in omega (arith, all, counted, few)

  pub piece_judged : (q : ModuleInPieces) → q.came ≡ p.came + length bytes → Follows StandsAt p.pending.bytes.items p.judging bytes q.pending.bytes.items q.judging
      → IsPending WaitsAt q.pending.needed q.pending.bytes.items q.judging → IsJudged z id (got ++ bytes) q
  piece_judged q came follows pending = record {
    first = j.first;
    settings = j.settings;
    own = j.own;
    there = follows j.first got j.there fits;
    pending = pending;
    counted = let all = length-append got bytes in let counted = j.counted in omega (arith, all, counted, came);
    room = fits;
  }

  piece_denied : (e : ErrorValue) → DeniesBehind StandsAt DeniedAt p.pending.bytes.items p.judging bytes e → DeniesAll z (got ++ bytes) e
  piece_denied e h = λ more room. subst (λ (y : Settings). IsRefusal y ((got ++ bytes) ++ more) e) j.settings (h j.first got j.there fits more (λ t. absurd (false≢true t)) room)

  long_item : (first : Judging) (most : ℕ) → IsOverlong StandsAt WaitsAt first most (got ++ bytes) → HasLongItem first.validator.settings most (got ++ bytes)
  long_item first most h =
      let passed = h.passed in
      let left = left_here first h.front passed.0 passed.1 passed.2 passed.3 in
      let few = left.left in
      let full = h.full in
      let more = h.more in
      record { front = h.front; later = h.later; whole = h.whole; judged = left.judged; other = left.other h.some; full = omega (arith, few, full); more = omega (arith, few, more) }

  pub piece_refused : (most : ℕ) (e : PieceError) → Says (DeniesBehind StandsAt DeniedAt p.pending.bytes.items p.judging bytes) (LongBehind StandsAt WaitsAt most p.pending.bytes.items p.judging bytes) e
      → RefusesFrom z most (got ++ bytes) e
  piece_refused most (errors.Refused e) h = piece_denied e h
  piece_refused most errors.TooLong h = inl (subst (λ (y : Settings). HasLongItem y most (got ++ bytes)) j.settings (long_item j.first most (h j.first got j.there fits)))

-- offsets end before a module of so many bytes does
pub too_many : (z : Settings) (id : ValidatorId) (got : List ℕ) (p : ModuleInPieces) → p.refused ≡ None → Came z id got p → (bytes : List ℕ) → 2 ^ 64 ≤ p.came + length bytes
    → RefusesFrom z p.most (got ++ bytes) errors.TooLong
too_many z id got p none c bytes many =
    let counted = (judged_of z id got p none c).counted in
    inr (let all = length-append got bytes in omega (arith, all, counted, many))

-- ---- the end

pub last_midst : (p : ModuleInPieces) → p.refused ≡ None → IsUnderWay p → IsMidst StandsAt false p.pending.bytes.items p.judging
last_midst p none way =
    let j = judged_of way.settings way.id way.got p none way.came in
    record { first = j.first; got = way.got; there = j.there; room = j.room }

pub end_accepted : (z : Settings) (id : ValidatorId) (got : List ℕ) (p : ModuleInPieces) → p.refused ≡ None → Came z id got p → (t : Learned)
    → ((first : Judging) (got : List ℕ) → StandsAt first got false p.pending.bytes.items p.judging → length got < 2 ^ 64 → ShownAt first got t) → IsVerdict z id got t
end_accepted z id got p none c t h =
    let j = judged_of z id got p none c in
    subst (λ (y : Settings). IsVerdict y id got t) j.settings (subst (λ (i : ValidatorId). IsVerdict j.first.validator.settings i got t) j.own (h j.first got j.there j.room))

pub end_denied : (z : Settings) (id : ValidatorId) (got : List ℕ) (p : ModuleInPieces) → p.refused ≡ None → Came z id got p → (e : ErrorValue)
    → ((first : Judging) (got : List ℕ) → StandsAt first got false p.pending.bytes.items p.judging → length got < 2 ^ 64 → DeniedAt first got e) → IsRefusal z got e
end_denied z id got p none c e h =
    let j = judged_of z id got p none c in
    subst (λ (y : Settings). IsRefusal y got e) j.settings (h j.first got j.there j.room)

pub end_refused : (z : Settings) (id : ValidatorId) (most : ℕ) (got : List ℕ) (e : PieceError) → length got < 2 ^ 64 → RefusesFrom z most got e → TellsModule z id most got (Err e)
end_refused z id most got (errors.Refused e) room h = subst (λ (l : List ℕ). IsRefusal z l e) (append-nil got) (h [] (subst (λ (l : List ℕ). length l < 2 ^ 64) (sym (append-nil got)) room))
end_refused z id most got errors.TooLong room h = h

-- ---- the beginning

pub none_came : (z : Settings) (id : ValidatorId) (p : ModuleInPieces) → p.judging.validator.settings ≡ z → p.judging.validator.id ≡ id → StandsAt p.judging [] false [] p.judging → WaitsAt p.judging []
    → p.pending.bytes.items ≡ [] → p.pending.needed ≡ 1 → p.came ≡ 0 → p.refused ≡ None → Came z id [] p
none_came z id p same own there waits empty one zero none = came_of z id [] p none (record {
  first = p.judging;
  settings = same;
  own = own;
  there = subst (λ (l : List ℕ). StandsAt p.judging [] false l p.judging) (sym empty) there;
  pending = subst (λ (n : ℕ). IsPending WaitsAt n p.pending.bytes.items p.judging) (sym one) (none_pending WaitsAt p.pending.bytes.items p.judging empty waits);
  counted = sym zero;
  room = omega arith;
}) (let counted = p.pending.bytes.ok.0 in let nothing = ap length empty in omega (arith, counted, nothing))
