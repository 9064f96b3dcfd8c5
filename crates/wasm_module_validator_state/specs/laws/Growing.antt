-- Lists with an item more: functions that are so by their places, functions to which code may refer, types by their indices.
use Rattle.std.proofs.Common.{◌≡◌, ◌∙◌, ◌↔◌, ◌⊎◌, inl, inr, ⊎_elim, ℕ, zero, suc, ◌+◌, ◌<◌, Bool, true, false, List, [], ◌∷◌, ◌++◌, length, map, refl, ap, sym, arith}
use Rattle.std.specs.Prelude.{All, if◌then◌else◌}
use Rattle.std.proofs.lemmas.List.{append-nil, get_or_append_left}
use Rattle.wasm_types.specs.trees.Trees.{TypeTree, group_tree}
use Rattle.wasm_types.specs.trees.ValidGroup.{type_at}
use Rattle.wasm_operator_validator_rules.specs.Row.{IsOneOf}
use Rattle.wasm_module_validator_resources.specs.index_spaces.declared.module.Function.{Function}
use Rattle.wasm_module_validator_resources.specs.index_spaces.Spaces.{referring_to}
use Rattle.wasm_module_validator_resources.specs.Reading.{places}

-- ---- the places of functions that are so

step : (b : Bool) (i : ℕ) (xs ys zs : List ℕ) → xs ≡ ys ++ zs → (if b then i ∷ xs else xs) ≡ (if b then i ∷ ys else ys) ++ zs
step true i xs ys zs e = ap (λ (l : List ℕ). i ∷ l) e
step false i xs ys zs e = e

-- one function more is so or not
pub places_more : (p : Function → Bool) (b : Bool) (i : ℕ) (fs : List Function) (f : Function) → p f ≡ b
    → places p i (fs ++ f ∷ []) ≡ places p i fs ++ (if b then (i + length fs) ∷ [] else [])
places_more p b i [] f e =
    let same : i + 0 ≡ i = omega arith in
    ap (λ (c : Bool). if c then i ∷ [] else []) e ∙ ap (λ (n : ℕ). if b then n ∷ [] else []) (sym same)
places_more p b i (g ∷ fs) f e =
    let same : suc i + length fs ≡ i + suc (length fs) = omega arith in
    step (p g) i (places p (suc i) (fs ++ f ∷ [])) (places p (suc i) fs) _
    (places_more p b (suc i) fs f e ∙ ap (λ (n : ℕ). places p (suc i) fs ++ (if b then n ∷ [] else [])) same)

-- a function that is not so
pub places_same : (p : Function → Bool) (i : ℕ) (fs : List Function) (f : Function) → p f ≡ false → places p i (fs ++ f ∷ []) ≡ places p i fs
places_same p i fs f e = places_more p false i fs f e ∙ append-nil (places p i fs)

-- ---- a function to which code may refer

-- nothing else of the functions changes
pub referring_map : {A : Type 0} (h : Function → A) → ((f : Function) → h (record f { is_referenced = true }) ≡ h f) → (n : ℕ) (fs : List Function)
    → map h (referring_to n fs) ≡ map h fs
referring_map h same n [] = refl
referring_map h same zero (f ∷ fs) = ap (λ x. x ∷ map h fs) (same f)
referring_map h same (suc n) (f ∷ fs) = ap (λ l. h f ∷ l) (referring_map h same n fs)

pub referring_places : (p : Function → Bool) → ((f : Function) → p (record f { is_referenced = true }) ≡ p f) → (n i : ℕ) (fs : List Function)
    → places p i (referring_to n fs) ≡ places p i fs
referring_places p same n i [] = refl
referring_places p same zero i (f ∷ fs) = ap (λ (b : Bool). if b then i ∷ places p (suc i) fs else places p (suc i) fs) (same f)
referring_places p same (suc n) i (f ∷ fs) = ap (λ (l : List ℕ). if p f then i ∷ l else l) (referring_places p same n (suc i) fs)

-- the places of those to which code may refer
abbrev referenced_from : ℕ → List Function → List ℕ
referenced_from i fs = places (λ (f : Function). f.is_referenced) i fs

with_first : (b : Bool) (y i : ℕ) (xs : List ℕ) → IsOneOf y (i ∷ xs) ↔ (IsOneOf y (if b then i ∷ xs else xs) ⊎ (y ≡ i))
with_first true y i xs = (λ h. inl h, λ h. ⊎_elim (λ w. w) (λ e. inl e) h)
with_first false y i xs = (λ h. ⊎_elim (λ e. inr e) (λ w. inl w) h, λ h. ⊎_elim (λ w. inr w) (λ e. inl e) h)

behind : (b : Bool) (y i : ℕ) (xs zs : List ℕ) (P : Type 0) → (IsOneOf y xs ↔ (IsOneOf y zs ⊎ P))
    → IsOneOf y (if b then i ∷ xs else xs) ↔ (IsOneOf y (if b then i ∷ zs else zs) ⊎ P)
behind true y i xs zs P w = (
  λ h. ⊎_elim (λ e. inl (inl e)) (λ r. ⊎_elim (λ l. inl (inr l)) (λ q. inr q) (w.0 r)) h,
  λ h. ⊎_elim (λ r. ⊎_elim (λ e. inl e) (λ l. inr (w.1 (inl l))) r) (λ q. inr (w.1 (inr q))) h,
)
behind false y i xs zs P w = w

pub referring_more : (n i : ℕ) (fs : List Function) (y : ℕ)
    → IsOneOf y (referenced_from i (referring_to n fs)) ↔ (IsOneOf y (referenced_from i fs) ⊎ ((y ≡ i + n) × (n < length fs)))
referring_more n i [] y = (λ h. inl h, λ h. ⊎_elim (λ w. w) (λ e. let past = e.1 in absurd (omega arith)) h)
referring_more zero i (f ∷ fs) y =
    let w = with_first f.is_referenced y i (referenced_from (suc i) fs) in
    let at : i + 0 ≡ i = omega arith in (
      λ h. ⊎_elim (λ r. inl r) (λ e. inr (e ∙ sym at, omega arith)) (w.0 h),
      λ h. w.1 (⊎_elim (λ r. inl r) (λ e. inr (e.0 ∙ at)) h),
    )
referring_more (suc n) i (f ∷ fs) y =
    let next = referring_more n (suc i) fs y in
    let at : suc i + n ≡ i + suc n = omega arith in
    behind f.is_referenced y i (referenced_from (suc i) (referring_to n fs)) (referenced_from (suc i) fs) ((y ≡ i + suc n) × (suc n < suc (length fs))) (
      λ h. ⊎_elim (λ r. inl r) (λ e. let l = e.1 in inr (e.0 ∙ at, omega arith)) (next.0 h),
      λ h. next.1 (⊎_elim (λ r. inl r) (λ e. let l = e.1 in inr (e.0 ∙ sym at, omega arith)) h),
    )

-- ---- types by their indices

-- what is below the end keeps its type, where types stand behind
pub type_kept : (space more : List TypeTree) (n : ℕ) → n < length space → type_at (space ++ more) n ≡ type_at space n
type_kept space more n lt = get_or_append_left space more (record { group = group_tree []; place = n }) n lt

-- each item gives the same
pub map_same : {A B : Type 0} (P : A → Type 0) (f h : A → B) → ((x : A) → P x → f x ≡ h x) → (xs : List A) → All P xs → map f xs ≡ map h xs
map_same P f h same [] all = refl
map_same P f h same (x ∷ xs) all =
    let first = same x (all 0 x (omega arith)) in
    let rest = map_same P f h same xs (λ k d lt. all (suc k) d (omega arith)) in
    cc
