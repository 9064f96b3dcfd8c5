-- The functions that are marked stay those that the tree refers to, item by item.
use Rattle.std.proofs.Common.{◌≡◌, ◌∙◌, ◌↔◌, ◌⊎◌, inl, inr, ⊎_elim, ℕ, zero, suc, Bool, true, false, List, [], ◌∷◌, ◌++◌, flat_map, Some, slice_get, refl, sym, ap, subst, arith}
use Rattle.wasm_types.specs.settings.Settings.{Settings}
use Rattle.wasm_sections_items.specs.imports.Spells.{ExportTree}
use Rattle.wasm_sections_items.specs.segments.Spells.{GlobalTree}
use Rattle.wasm_sections_items.specs.segments.Tables.{TableTree}
use Rattle.wasm_sections_items.specs.elements.Spells.{ElementTree}
use Rattle.wasm_operators_encoding.specs.expressions.Code.{Code}
use Rattle.wasm_operator_validator_rules.specs.Row.{IsOneOf}
use Rattle.wasm_module_validator_checks.specs.rules.Syntax.{ModuleTree}
use Rattle.wasm_module_validator_checks.specs.rules.Spaces.{referred_in, referred_in_option, exported_function, referred_in_mode, referred_in_items, referenced_in}
use Rattle.wasm_module_validator_resources.specs.rules_in_order.contexts.InOrder.{no_items}
use Rattle.wasm_module_validator_resources.specs.rules_in_order.contexts.laws.Lists.{one_left, one_right}
use Rattle.wasm_module_validator_resources.specs.index_spaces.declared.module.Function.{Function}
use Rattle.wasm_module_validator_resources.specs.index_spaces.Spaces.{Spaces, nothing_read, own_function, referring_to}
use Rattle.wasm_module_validator_state.specs.invariant.so_far.Referring.{AreMarked, IsReferredAs, referring_to_each}

-- ---- numbers of lists

-- the last has what the others have
abbrev pub HasBoth : List ℕ → List ℕ → List ℕ → Type 0
HasBoth ys xs zs = (x : ℕ) → IsOneOf x zs ↔ (IsOneOf x ys ⊎ IsOneOf x xs)

one_in_either : (x : ℕ) (xs ys : List ℕ) → IsOneOf x (xs ++ ys) → IsOneOf x xs ⊎ IsOneOf x ys
one_in_either x [] ys h = inr h
one_in_either x (z ∷ xs) ys h = ⊎_elim (λ e. inl (inl e)) (λ t. ⊎_elim (λ l. inl (inr l)) (λ r. inr r) (one_in_either x xs ys t)) h

-- with more behind it, and before it
both_before : (ys xs zs more : List ℕ) → HasBoth ys xs zs → HasBoth ys (xs ++ more) (zs ++ more)
both_before ys xs zs more h x = (
  λ k. ⊎_elim (λ z. ⊎_elim (λ y. inl y) (λ w. inr (one_left x xs more w)) ((h x).0 z)) (λ r. inr (one_right x xs more r)) (one_in_either x zs more k),
  λ k. ⊎_elim (λ y. one_left x zs more ((h x).1 (inl y)))
      (λ w. ⊎_elim (λ l. one_left x zs more ((h x).1 (inr l))) (λ r. one_right x zs more r) (one_in_either x xs more w)) k,
)

both_behind : (ys xs zs more : List ℕ) → HasBoth ys xs zs → HasBoth ys (more ++ xs) (more ++ zs)
both_behind ys xs zs more h x = (
  λ k. ⊎_elim (λ l. inr (one_left x more xs l)) (λ z. ⊎_elim (λ y. inl y) (λ w. inr (one_right x more xs w)) ((h x).0 z)) (one_in_either x more zs k),
  λ k. ⊎_elim (λ y. one_right x more zs ((h x).1 (inl y)))
      (λ w. ⊎_elim (λ l. one_left x more zs l) (λ r. one_right x more zs ((h x).1 (inr r))) (one_in_either x more xs w)) k,
)

-- of items, with one more
both_items : {A : Type 0} (f : A → List ℕ) (xs : List A) (x : A) → HasBoth (f x) (flat_map f xs) (flat_map f (xs ++ x ∷ []))
both_items f [] x = λ n. (λ k. ⊎_elim (λ l. inl l) (λ r. absurd r) (one_in_either n (f x) [] k), λ k. ⊎_elim (λ l. one_left n (f x) [] l) (λ r. absurd r) k)
both_items f (y ∷ xs) x = both_behind (f x) (flat_map f xs) (flat_map f (xs ++ x ∷ [])) (f y) (both_items f xs x)

-- the same in another order
both_later : (y : ℕ) (ys xs zs : List ℕ) → HasBoth (y ∷ ys) xs zs → HasBoth ys (y ∷ xs) zs
both_later y ys xs zs h x = (
  λ k. ⊎_elim (λ l. ⊎_elim (λ e. inr (inl e)) (λ r. inl r) l) (λ r. inr (inr r)) ((h x).0 k),
  λ k. ⊎_elim (λ l. (h x).1 (inl (inr l))) (λ r. ⊎_elim (λ e. (h x).1 (inl (inl e))) (λ w. (h x).1 (inr w)) r) k,
)

-- ---- functions that are marked

-- what is there of a function, where the one at a place is marked
abbrev Marks : ℕ → List Function → ℕ → Function → Type 0
Marks n fs x f = (g : Function) × (slice_get fs x ≡ Some g) × ((f.is_referenced ≡ true) ↔ ((x ≡ n) ⊎ (g.is_referenced ≡ true)))

not_both : (b : Bool) → b ≡ false → b ≡ true → ⊥
not_both b f t = let x : false ≡ true = sym f ∙ t in cc

some_is : (f g : Function) → Some f ≡ Some g → f ≡ g
some_is f g e = cc

-- the first one, marked, and another
marked_first : (g f : Function) → Some (record g { is_referenced = true }) ≡ Some f → f.is_referenced ≡ true
marked_first g f e = sym (ap (λ (h : Function). h.is_referenced) (some_is (record g { is_referenced = true }) f e))

other_first : (n : ℕ) (g f : Function) → Some g ≡ Some f → (f.is_referenced ≡ true) ↔ ((zero ≡ suc n) ⊎ (g.is_referenced ≡ true))
other_first n g f e =
    let same : g.is_referenced ≡ f.is_referenced = ap (λ (h : Function). h.is_referenced) (some_is g f e) in
    (λ h. inr (subst (λ (b : Bool). b ≡ true) (sym same) h), λ h. ⊎_elim (λ k. absurd (omega (arith, k))) (λ k. subst (λ (b : Bool). b ≡ true) same k) h)

marks_one : (n : ℕ) (fs : List Function) (x : ℕ) (f : Function) → slice_get (referring_to n fs) x ≡ Some f → Marks n fs x f
marks_one n [] x f e = absurd cc
marks_one zero (g ∷ fs) zero f e = (g, refl, (λ h. inl refl, λ h. marked_first g f e))
marks_one zero (g ∷ fs) (suc x) f e = (f, e, (λ h. inr h, λ h. ⊎_elim (λ k. absurd (omega (arith, k))) (λ k. k) h))
marks_one (suc n) (g ∷ fs) zero f e = (g, refl, other_first n g f e)
marks_one (suc n) (g ∷ fs) (suc x) f e =
    let (h, at, both) = marks_one n fs x f e in
    (h, at, (λ k. ⊎_elim (λ l. inl (ap suc l)) (λ r. inr r) (both.0 k), λ k. both.1 (⊎_elim (λ l. inl (omega (arith, l))) (λ r. inr r) k)))

one_is_marked : (n : ℕ) (fs : List Function) (xs : List ℕ) → AreMarked fs xs → AreMarked (referring_to n fs) (n ∷ xs)
one_is_marked n fs xs m x f e =
    let (g, at, both) = marks_one n fs x f e in
    (λ k. ⊎_elim (λ l. inl l) (λ r. inr ((m x g at).0 r)) (both.0 k), λ k. both.1 (⊎_elim (λ l. inl l) (λ r. inr ((m x g at).1 r)) k))

pub each_is_marked : (ys : List ℕ) (fs : List Function) (xs zs : List ℕ) → AreMarked fs xs → HasBoth ys xs zs → AreMarked (referring_to_each ys fs) zs
each_is_marked [] fs xs zs m h = λ x f e. (λ k. (h x).1 (inr ((m x f e).0 k)), λ k. (m x f e).1 (⊎_elim (λ l. absurd l) (λ r. r) ((h x).0 k)))
each_is_marked (y ∷ ys) fs xs zs m h = each_is_marked ys (referring_to y fs) (y ∷ xs) zs (one_is_marked y fs xs m) (both_later y ys xs zs h)

-- one function more that is not marked, where nothing is referred to
none_is_marked : (fs : List Function) (g : Function) → AreMarked fs [] → g.is_referenced ≡ false → AreMarked (fs ++ g ∷ []) []
none_is_marked [] g m n (suc x) f e = absurd cc
none_is_marked [] g m n zero f e =
    let b : f.is_referenced ≡ false = sym (ap (λ (h : Function). h.is_referenced) (some_is g f e)) ∙ n in
    (λ h. not_both f.is_referenced b h, λ h. absurd h)
none_is_marked (h ∷ fs) g m n zero f e = m zero f e
none_is_marked (h ∷ fs) g m n (suc x) f e = none_is_marked fs g (λ y k d. m (suc y) k d) n x f e

-- ---- modules

pub none_are_referred_to : (z : Settings) → IsReferredAs (nothing_read z) no_items
none_are_referred_to z x f e = absurd cc

-- while nothing refers to a function, each that is added is not marked
pub function_is_not_referred_to : (s t : Spaces) (m n : ModuleTree) (f : Function) → IsReferredAs s m → referenced_in m ≡ [] → referenced_in n ≡ [] → f.is_referenced ≡ false
    → t.functions ≡ s.functions ++ f ∷ [] → IsReferredAs t n
function_is_not_referred_to s t m n f r none still unmarked e =
    let before : AreMarked s.functions [] = subst (AreMarked s.functions) none r in
    subst (λ fs. AreMarked fs (referenced_in n)) (sym e) (subst (AreMarked (s.functions ++ f ∷ [])) (sym still) (none_is_marked s.functions f before unmarked))

-- what refers to no function
pub others_refer_to_none : (s t : Spaces) (m n : ModuleTree) → IsReferredAs s m → t.functions ≡ s.functions → referenced_in n ≡ referenced_in m → IsReferredAs t n
others_refer_to_none s t m n r e k = subst (λ fs. AreMarked fs (referenced_in n)) (sym e) (subst (AreMarked s.functions) (sym k) r)

module _ (s : Spaces) (m : ModuleTree) (r : IsReferredAs s m) (t : Spaces) where
  abbrev table_names : TableTree Code → List ℕ
  table_names x = referred_in_option x.init

  abbrev global_names : GlobalTree Code → List ℕ
  global_names x = referred_in x.init

  abbrev export_names : ExportTree → List ℕ
  export_names x = exported_function x.kind x.index

  abbrev element_names : ElementTree Code → List ℕ
  element_names x = referred_in_mode x.mode ++ referred_in_items x.items

  marked : (ys : List ℕ) (n : ModuleTree) → HasBoth ys (referenced_in m) (referenced_in n) → t.functions ≡ referring_to_each ys s.functions → IsReferredAs t n
  marked ys n h e = subst (λ fs. AreMarked fs (referenced_in n)) (sym e) (each_is_marked ys s.functions (referenced_in m) (referenced_in n) r h)

  pub table_refers : (x : TableTree Code) → t.functions ≡ referring_to_each (referred_in_option x.init) s.functions → IsReferredAs t (record m { tables = m.tables ++ x ∷ [] })
  table_refers x = marked (table_names x) (record m { tables = m.tables ++ x ∷ [] }) (both_before (table_names x) _ _ _ (both_items table_names m.tables x))

  pub global_refers : (x : GlobalTree Code) → t.functions ≡ referring_to_each (referred_in x.init) s.functions → IsReferredAs t (record m { globals = m.globals ++ x ∷ [] })
  global_refers x = marked (global_names x) (record m { globals = m.globals ++ x ∷ [] })
      (both_behind (global_names x) _ _ (flat_map table_names m.tables) (both_before (global_names x) _ _ _ (both_items global_names m.globals x)))

  pub export_refers : (x : ExportTree) → t.functions ≡ referring_to_each (exported_function x.kind x.index) s.functions → IsReferredAs t (record m { exports = m.exports ++ x ∷ [] })
  export_refers x = marked (export_names x) (record m { exports = m.exports ++ x ∷ [] })
      (both_behind (export_names x) _ _ (flat_map table_names m.tables) (both_behind (export_names x) _ _ (flat_map global_names m.globals)
      (both_before (export_names x) _ _ _ (both_items export_names m.exports x))))

  pub element_refers : (x : ElementTree Code) → t.functions ≡ referring_to_each (referred_in_mode x.mode ++ referred_in_items x.items) s.functions
      → IsReferredAs t (record m { element_segments = m.element_segments ++ x ∷ [] })
  element_refers x = marked (element_names x) (record m { element_segments = m.element_segments ++ x ∷ [] })
      (both_behind (element_names x) _ _ (flat_map table_names m.tables) (both_behind (element_names x) _ _ (flat_map global_names m.globals)
      (both_behind (element_names x) _ _ (flat_map export_names m.exports) (both_items element_names m.element_segments x))))

-- ---- worked functions

abbrev pub marked_function : Function
marked_function = record (own_function 0) { is_referenced = true }

-- the first is marked and the second is not; a number past the last function asks for nothing
pub worked_marks : AreMarked (marked_function ∷ own_function 0 ∷ []) (5 ∷ 0 ∷ [])
worked_marks zero f e = (λ h. inr (inl refl), λ h. sym (ap (λ (g : Function). g.is_referenced) (some_is marked_function f e)))
worked_marks (suc zero) f e =
    let same : f.is_referenced ≡ false = sym (ap (λ (g : Function). g.is_referenced) (some_is (own_function 0) f e)) in
    (λ h. absurd (not_both f.is_referenced same h), λ h. ⊎_elim (λ k. absurd (omega (arith, k))) (λ t. ⊎_elim (λ k. absurd (omega (arith, k))) (λ n. absurd n) t) h)
worked_marks (suc (suc x)) f e = absurd cc

-- one that is named is not marked, and one that is marked is not named
pub worked_unmarked : AreMarked (own_function 0 ∷ []) (0 ∷ []) → ⊥
worked_unmarked m = not_both false refl ((m 0 (own_function 0) refl).1 (inl refl))

pub worked_unnamed : AreMarked (marked_function ∷ []) [] → ⊥
worked_unnamed m = (m 0 marked_function refl).0 refl
