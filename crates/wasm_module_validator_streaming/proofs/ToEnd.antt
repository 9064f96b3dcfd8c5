-- A module that is judged to its end: what one piece more leads to.
use Rattle.std.proofs.Common.{◌≡◌, ◌<◌, ◌+◌, ◌^◌, ℕ, false, List, [], ◌++◌, length, Some, None, Result, Ok, Err, sym, subst, arith, append-nil, append_assoc, length-append}
use Rattle.std.proofs.lemmas.Bool.{false≢true}
use Rattle.wasm_types.specs.decoding.ErrorValue.{ErrorValue}
use Rattle.wasm_types.specs.settings.Settings.{Settings}
use Rattle.wasm_module_validator_index_spaces.specs.declared.view.validator_id.ValidatorId.{ValidatorId}
use Rattle.wasm_module_validator.specs.Shown.{Learned}
use Rattle.wasm_module_validator_streaming.specs.declared.going_on.GoingOn.{GoingOn}
use Rattle.wasm_module_validator_streaming.specs.declared.to_end.ModuleToEnd.{ModuleToEnd}
use Rattle.wasm_module_validator_streaming.specs.GoingOn.{GoesOnBy, GoesOnAt, ShownOn, DeniedOn, WaitsOn}
use Rattle.wasm_module_validator_streaming.specs.HandedOver.{DeniesAll}
use Rattle.wasm_module_validator_streaming.specs.Handing.{HasRoom, Follows, DeniesBehind, TellsLast}
use Rattle.wasm_module_validator_streaming.specs.Taking.{IsMidst, IsPending}
use Rattle.wasm_module_validator_streaming.specs.ToEnd.{IsGoingOn, GoesOnOr, CameToEnd, HasBegun, TellsVerdict}
use Rattle.wasm_module_validator_streaming.specs.Verdicts.{IsRefusal, IsVerdict, StandsAt}
use Rattle.wasm_module_validator_streaming.proofs.Waiting.{none_pending}

-- ---- what is known of one

module _ (z : Settings) (id : ValidatorId) (got : List ℕ) (p : ModuleToEnd) where
  pub going_of : p.refused ≡ None → CameToEnd z id got p → IsGoingOn z id got p
  going_of none c = subst (GoesOnOr z id got p) none c

  pub came_of : p.refused ≡ None → IsGoingOn z id got p → CameToEnd z id got p
  came_of none g = subst (GoesOnOr z id got p) (sym none) g

  pub refusal_of : (e : ErrorValue) → p.refused ≡ Some e → CameToEnd z id got p → DeniesAll z got e
  refusal_of e some c = subst (GoesOnOr z id got p) some c

  -- what is refused stays so, whatever comes
  pub still_came : (e : ErrorValue) → p.refused ≡ Some e → (bytes : List ℕ) → CameToEnd z id got p → CameToEnd z id (got ++ bytes) p
  still_came e some bytes c = subst (GoesOnOr z id (got ++ bytes) p) (sym some) (λ more room. subst (λ (l : List ℕ). IsRefusal z l e) (sym (append_assoc got bytes more))
      (refusal_of e some c (bytes ++ more) (subst (λ (l : List ℕ). length l < 2 ^ 64) (append_assoc got bytes more) room)))

-- ---- one piece more

module _ (p : ModuleToEnd) (none : p.refused ≡ None) (way : HasBegun p) (bytes : List ℕ) (few : p.came + length bytes < 2 ^ 64) where
  here : IsGoingOn way.settings way.id way.got p
  here = going_of way.settings way.id way.got p none way.came

  pub has_room : HasRoom GoesOnAt p.pending.bytes.items p.going (length bytes)
  has_room = record {
    first = here.first;
    got = way.got;
    there = here.there;
    room = let counted = here.counted in omega (arith, few, counted);
  }

  pub is_pending : IsPending WaitsOn p.pending.needed p.pending.bytes.items p.going
  is_pending = here.pending

module _ (z : Settings) (id : ValidatorId) (got : List ℕ) (p : ModuleToEnd) (g : IsGoingOn z id got p) (bytes : List ℕ) (few : p.came + length bytes < 2 ^ 64) where
  fits : length (got ++ bytes) < 2 ^ 64
  fits = let all = length-append got bytes in let counted = g.counted in omega (arith, all, counted, few)

  pub piece_goes : (q : ModuleToEnd) → q.came ≡ p.came + length bytes → Follows GoesOnAt p.pending.bytes.items p.going bytes q.pending.bytes.items q.going
      → IsPending WaitsOn q.pending.needed q.pending.bytes.items q.going → IsGoingOn z id (got ++ bytes) q
  piece_goes q came follows pending = record {
    first = g.first;
    settings = g.settings;
    own = g.own;
    there = follows g.first got g.there fits;
    pending = pending;
    counted = let all = length-append got bytes in let counted = g.counted in omega (arith, all, counted, came);
    room = fits;
  }

  pub piece_denied : (e : ErrorValue) → DeniesBehind GoesOnAt DeniedOn p.pending.bytes.items p.going bytes e → DeniesAll z (got ++ bytes) e
  piece_denied e h = λ more room. subst (λ (y : Settings). IsRefusal y ((got ++ bytes) ++ more) e) g.settings (h g.first got g.there fits more (λ t. absurd (false≢true t)) room)

-- ---- the end

pub last_midst : (p : ModuleToEnd) → p.refused ≡ None → HasBegun p → IsMidst GoesOnAt false p.pending.bytes.items p.going
last_midst p none way =
    let g = going_of way.settings way.id way.got p none way.came in
    record { first = g.first; got = way.got; there = g.there; room = g.room }

end_accepted : (z : Settings) (id : ValidatorId) (got : List ℕ) (p : ModuleToEnd) → p.refused ≡ None → CameToEnd z id got p → (t : Learned)
    → ((first : GoingOn) (got : List ℕ) → GoesOnAt first got false p.pending.bytes.items p.going → length got < 2 ^ 64 → ShownOn first got t) → IsVerdict z id got t
end_accepted z id got p none c t h =
    let g = going_of z id got p none c in
    subst (λ (y : Settings). IsVerdict y id got t) g.settings (subst (λ (i : ValidatorId). IsVerdict g.first.judging.validator.settings i got t) g.own (h g.first got g.there g.room))

end_denied : (z : Settings) (id : ValidatorId) (got : List ℕ) (p : ModuleToEnd) → p.refused ≡ None → CameToEnd z id got p → (e : ErrorValue)
    → ((first : GoingOn) (got : List ℕ) → GoesOnAt first got false p.pending.bytes.items p.going → length got < 2 ^ 64 → DeniedOn first got e) → IsRefusal z got e
end_denied z id got p none c e h =
    let g = going_of z id got p none c in
    subst (λ (y : Settings). IsRefusal y got e) g.settings (h g.first got g.there g.room)

-- what is concluded is told
pub end_told : (z : Settings) (id : ValidatorId) (got : List ℕ) (p : ModuleToEnd) → p.refused ≡ None → CameToEnd z id got p → (r : Result Learned ErrorValue)
    → ((first : GoingOn) (got : List ℕ) → GoesOnAt first got false p.pending.bytes.items p.going → length got < 2 ^ 64 → TellsLast ShownOn DeniedOn first got r) → TellsVerdict z id got r
end_told z id got p none c (Ok t) h = end_accepted z id got p none c t h
end_told z id got p none c (Err e) h = end_denied z id got p none c e h

pub end_refused : (z : Settings) (got : List ℕ) (e : ErrorValue) → length got < 2 ^ 64 → DeniesAll z got e → IsRefusal z got e
end_refused z got e room h = subst (λ (l : List ℕ). IsRefusal z l e) (append-nil got) (h [] (subst (λ (l : List ℕ). length l < 2 ^ 64) (sym (append-nil got)) room))

-- ---- the beginning

pub none_came : (z : Settings) (id : ValidatorId) (p : ModuleToEnd) → p.going.judging.validator.settings ≡ z → p.going.judging.validator.id ≡ id → p.going.refused ≡ None
    → StandsAt p.going.judging [] false [] p.going.judging → p.pending.bytes.items ≡ [] → p.pending.needed ≡ 1 → p.came ≡ 0 → p.refused ≡ None → CameToEnd z id [] p
none_came z id p same own sound there empty one zero none = came_of z id [] p none (record {
  first = p.going;
  settings = same;
  own = own;
  there = subst (λ (l : List ℕ). GoesOnAt p.going [] false l p.going) (sym empty) (subst (GoesOnBy p.going [] false [] p.going) (sym sound) there);
  pending = subst (λ (n : ℕ). IsPending WaitsOn n p.pending.bytes.items p.going) (sym one) (none_pending WaitsOn p.pending.bytes.items p.going empty tt);
  counted = sym zero;
  room = omega arith;
})
