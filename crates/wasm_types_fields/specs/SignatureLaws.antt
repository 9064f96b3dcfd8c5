-- The laws of `==`, `cmp` and `hash` of functions, from those of values.
use Rattle.std.proofs.Common.{◌≡◌, true, refl}
use Rattle.std.specs.Cmp.{IsPartialEquivalence, IsEquivalence, IsPartialOrder, IsTotalOrder, partial_equiv_from_equiv, partial_order_from_agreeing_total}
use Rattle.std.specs.Cmp.{and_equiv, on_equiv, then_total, on_total, both_tied}
use Rattle.std.specs.Cmp.Lexicographic.{slice_cmp, lists_equiv, lists_total, lists_ties}
use Rattle.std.specs.Hash.{on_Alike, items_Alike, and-Alike}
use Rattle.std.specs.Ordering.{as_partial_cmp, eq_by_cmp}
use Rattle.wasm_types_values.specs.contracts.value.ValTypeEq.TheImpl.Laws as equal_laws
use Rattle.wasm_types_values.specs.contracts.value.ValTypeOrd.TheImpl as order
use Rattle.wasm_types_values.specs.contracts.value.ValTypeOrd.TheImpl.Laws as order_laws
use Rattle.wasm_types_values.specs.contracts.value.ValTypeHash.TheImpl.Laws as hash_laws
use Rattle.wasm_types_fields.specs.Signatures.{Signature, signature_eq, signature_cmp, signature_writes}

pub signature_equiv : IsEquivalence signature_eq
signature_equiv = and_equiv (on_equiv (λ f. f.params) (lists_equiv equal_laws.laws-law)) (on_equiv (λ f. f.results) (lists_equiv equal_laws.laws-law))

pub signature_per : IsPartialEquivalence signature_eq
signature_per = partial_equiv_from_equiv signature_equiv

pub signature_total : IsTotalOrder signature_cmp
signature_total = then_total (on_total (λ f. f.params) (lists_total order_laws.total-law)) (on_total (λ f. f.results) (lists_total order_laws.total-law))

-- `cmp` answers that two functions are equal exactly where `==` holds of them
pub signature_ties : (f g : Signature) → signature_eq f g ≡ eq_by_cmp signature_cmp f g
signature_ties f g = both_tied _ _ (slice_cmp order.ghosts.cmp f.params g.params) (slice_cmp order.ghosts.cmp f.results g.results)
    (lists_ties order.ghosts.cmp order_laws.matches_eq-law f.params g.params) (lists_ties order.ghosts.cmp order_laws.matches_eq-law f.results g.results)

pub signature_po : IsPartialOrder signature_eq (as_partial_cmp signature_cmp)
signature_po = partial_order_from_agreeing_total signature_cmp signature_total (λ f g. refl) signature_ties

-- equal functions are hashed alike
pub signature_alike : (f g : Signature) → signature_eq f g ≡ true → signature_writes f ≡ signature_writes g
signature_alike = (and-Alike (on_Alike (λ f. f.params) (items_Alike (record { fed = hash_laws.respects_eq-law })))
    (on_Alike (λ f. f.results) (items_Alike (record { fed = hash_laws.respects_eq-law })))).fed
