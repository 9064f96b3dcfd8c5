-- A function to which code may refer.
use Rattle.std.proofs.Common.{◌≡◌, ℕ, zero, suc, ◌<◌, ◌≤◌, true, List, [], ◌∷◌, length, get_or, set, refl, ap, arith}
use Rattle.wasm_module_validator_index_spaces.specs.declared.module.Function.{Function}
use Rattle.wasm_module_validator_index_spaces.specs.Spaces.{Spaces, referring_to}

abbrev pub noted : Function → Function
noted f = record { type_index = f.type_index; is_exact = f.is_exact; is_referenced = true }

pub set_noted : (fs : List Function) (n : ℕ) (x : Function) → n < length fs → x ≡ get_or fs n x → set fs n (noted x) ≡ referring_to n fs
set_noted [] n x lt e = absurd (omega arith)
set_noted (f ∷ fs) zero x lt e = ap (λ (y : Function). noted y ∷ fs) e
set_noted (f ∷ fs) (suc n) x lt e = ap (λ (l : List Function). f ∷ l) (set_noted fs n x (omega arith) e)

pub past_all : (fs : List Function) (n : ℕ) → length fs ≤ n → fs ≡ referring_to n fs
past_all [] n le = refl
past_all (f ∷ fs) zero le = absurd (omega arith)
past_all (f ∷ fs) (suc n) le = ap (λ (l : List Function). f ∷ l) (past_all fs n (omega arith))

pub with_functions : (m : Spaces) (fs gs : List Function) → fs ≡ gs → record m { functions = fs } ≡ record m { functions = gs }
with_functions m fs gs e = ap (λ (l : List Function). record m { functions = l }) e
