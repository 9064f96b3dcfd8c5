-- Ids added one by one, and the form of a group in a list.
use Rattle.std.proofs.Common.{true, ◌≡◌, ◌∙◌, ℕ, suc, ◌+◌, ◌-◌, ◌<◌, List, [], ◌∷◌, ◌++◌, ap, sym, arith}
use Rattle.std.proofs.lemmas.List.{append_assoc}
use Rattle.wasm_types.specs.settings.Features.{needs_canonical_types}
use Rattle.wasm_types.specs.trees.declared.index.CoreTypeId.{CoreTypeId}
use Rattle.wasm_types.specs.Entries.{Declared}
use Rattle.wasm_module_validator_canonical_types.specs.Canonical.{canonical_types}
use Rattle.wasm_module_validator_type_groups.specs.adding.Interned.{kept_types, ids_from}

pub ids_step : (ids : List CoreTypeId) (id : CoreTypeId) (n end : ℕ) → n < end → id.0 ≡ n
    → ids ++ ids_from n (end - n) ≡ (ids ++ id ∷ []) ++ ids_from (n + 1) (end - (n + 1))
ids_step ids id n end lt e =
    let left : end - n ≡ suc (end - (n + 1)) = omega arith in
    let next : suc n ≡ n + 1 = omega arith in
    let same : record { 0 = n } ≡ id = ap (λ (m : ℕ). record { 0 = m }) (sym e) in
    ap (λ k. ids ++ ids_from n k) left
    ∙ ap (λ k. ids ++ record { 0 = n } ∷ ids_from k (end - (n + 1))) next
    ∙ ap (λ (i : CoreTypeId). ids ++ i ∷ ids_from (n + 1) (end - (n + 1))) same
    ∙ sym (append_assoc ids (id ∷ []) (ids_from (n + 1) (end - (n + 1))))

-- a canonical form is what a list keeps where the features ask for it
pub kept_on : (bits : ℕ) (ids was : List CoreTypeId) (ds ts : List Declared) → needs_canonical_types bits ≡ true → was ≡ ids → ts ≡ canonical_types was ds
    → ts ≡ kept_types (needs_canonical_types bits) ids ds
kept_on bits ids was ds ts on e f = f ∙ ap (λ l. canonical_types l ds) e ∙ ap (λ b. kept_types b ids ds) (sym on)
