-- An item more behind a list.
use Rattle.std.proofs.Common.{◌≡◌, ◌↔◌, ◌+◌, ◌<◌, ℕ, List, [], ◌∷◌, ◌++◌, map, sum, sym, arith}
use Rattle.std.proofs.lemmas.List.Sums.{sum_by-cons}
use Rattle.wasm_sections_items.specs.imports.Spells.{ExportTree}
use Rattle.wasm_module_validator_checks.specs.rules.Valid.{Each, HaveOwnNames, SumsBelow}
use Rattle.wasm_module_validator_exports.specs.names.Exports.{IsNew}

each_after : {A : Type 0} (P : A → Type 0) (xs : List A) (x : A) → Each P (xs ++ x ∷ []) ↔ (Each P xs × P x)
each_after P [] x = (λ h. (tt, h.0), λ h. (h.1, tt))
each_after P (y ∷ ys) x =
    let r = each_after P ys x in
    (λ h. ((h.0, (r.0 h.1).0), (r.0 h.1).1), λ h. (h.0.0, r.1 (h.0.1, h.1)))

pub own_after : (es : List ExportTree) (e : ExportTree) → HaveOwnNames (es ++ e ∷ []) ↔ (HaveOwnNames es × IsNew e.name (map (λ (x : ExportTree). x.name) es))
own_after [] e = (λ h. (tt, tt), λ h. (tt, tt))
own_after (x ∷ xs) e =
    let r = own_after xs e in
    let s = each_after (λ (f : ExportTree). x.name ≡ f.name → ⊥) xs e in (
      λ h. (((s.0 h.0).0, (r.0 h.1).0), ((λ q. (s.0 h.0).1 (sym q)), (r.0 h.1).1)),
      λ h. (s.1 (h.0.0, λ q. h.1.0 (sym q)), r.1 (h.0.1, h.1.1)),
    )

pub sums_after : (limit before : ℕ) (ns : List ℕ) (n : ℕ) → SumsBelow limit before (ns ++ n ∷ []) ↔ (SumsBelow limit before ns × (before + sum ns + n < limit))
sums_after limit before [] n = (λ h. (tt, omega (arith, h.0)), λ h. (omega (arith, h.1), tt))
sums_after limit before (m ∷ ms) n =
    let e : sum (m ∷ ms) ≡ m + sum ms = sum_by-cons (λ (x : ℕ). x) m ms in
    let r = sums_after limit (before + m) ms n in
    (λ h. ((h.0, (r.0 h.1).0), omega (arith, e, (r.0 h.1).1)), λ h. (h.0.0, r.1 (h.0.1, omega (arith, e, h.1))))
