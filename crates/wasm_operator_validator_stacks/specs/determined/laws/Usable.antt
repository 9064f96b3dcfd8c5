-- What an index names, and whether the function may use it.
use Rattle.std.proofs.Common.{◌≡◌, ◌↔◌, ◌∙◌, Bool, true, false, IsTrue, Option, Some, None, refl, sym, ap, subst}
use Rattle.std.specs.Prelude.{if◌then◌else◌}
use Rattle.wasm_types.specs.decoding.declared.error.ErrorKind.{ErrorKind}
use Rattle.wasm_types.specs.decoding.declared.error.ErrorKind.TheVariants as kinds
use Rattle.wasm_types.specs.decoding.Denials.{Denies}
use Rattle.wasm_operator_validator_rules.specs.Context.{Context, MayUse, may_use}
use Rattle.wasm_operator_validator_rules.specs.InstructionTypes.{InstructionType, named}
use Rattle.wasm_operator_validator_state.specs.State.{State}
use Rattle.wasm_operator_validator_stacks.specs.determined.Operators.{MayUseIn, IsUsable, refusal_kind}

-- a test that fails
pub fails : {P : Type 0} (b : Bool) → IsTrue b ↔ P → b ≡ false → P → ⊥
fails b i e h = let x : b ≡ true = i.1 h in let y : false ≡ true = sym e ∙ x in cc

-- ---- look-ups

-- nothing was named
pub none_usable : {A : Type 0} (σ : State) (shared : A → Bool) (o : Option A) → None ≡ o → (v : A) → IsUsable σ shared o v → ⊥
none_usable {A} σ shared o e v (f, u) = let x : ◌≡◌ {A = Option A} None (Some v) = e ∙ f in cc

-- what was named may not be used
pub not_usable : {A : Type 0} (σ : State) (shared : A → Bool) (o : Option A) (w : A) (b : Bool) → Some w ≡ o → IsTrue b ↔ MayUseIn σ (shared w) → b ≡ false
    → (v : A) → IsUsable σ shared o v → ⊥
not_usable {A} σ shared o w b e i n v (f, u) =
    let x : ◌≡◌ {A = Option A} (Some w) (Some v) = e ∙ f in
    let y : w ≡ v = cc in
    let z : b ≡ true = i.1 (subst (λ (k : A). MayUseIn σ (shared k)) (sym y) u) in
    let t : false ≡ true = sym n ∙ z in cc

pub usable : {A : Type 0} (σ : State) (shared : A → Bool) (o : Option A) (w : A) (b : Bool) → Some w ≡ o → IsTrue b ↔ MayUseIn σ (shared w) → b ≡ true → IsUsable σ shared o w
usable σ shared o w b e i y = (sym e, i.0 y)

-- what an index names is one thing
pub same_usable : {A : Type 0} (σ : State) (shared : A → Bool) (o : Option A) (v w : A) → IsUsable σ shared o v → o ≡ Some w → w ≡ v
same_usable {A} σ shared o v w (e, u) f = let x : ◌≡◌ {A = Option A} (Some w) (Some v) = sym f ∙ e in cc

-- ---- the table of instruction types

if_inside : (inside : Bool) → (IsTrue inside → IsTrue false) → (if inside then false else true) ≡ true
if_inside true u = let x : false ≡ true = u refl in cc
if_inside false u = refl

if_not_inside : (inside : Bool) → ((IsTrue inside → IsTrue false) → ⊥) → (if inside then false else true) ≡ false
if_not_inside true n = refl
if_not_inside false n = absurd (n (λ x. let y : false ≡ true = x in cc))

pub may : (g : Context) (s : Bool) → MayUse g s → may_use g s ≡ true
may g true u = refl
may g false u = if_inside g.shared u

pub may_not : (g : Context) (s : Bool) → (MayUse g s → ⊥) → may_use g s ≡ false
may_not g true n = absurd (n (λ x. refl))
may_not g false n = if_not_inside g.shared n

-- what may be used of the type that the table gives for it
abbrev used : {A : Type 0} → Context → (A → Bool) → (A → Option InstructionType) → A → Option InstructionType
used g shared f v = if may_use g (shared v) then f v else None

pub named_usable : {A : Type 0} (g : Context) (shared : A → Bool) (f : A → Option InstructionType) (o : Option A) (v : A) → o ≡ Some v → MayUse g (shared v)
    → named o (used g shared f) ≡ f v
named_usable {A} g shared f o v e u =
    ap (λ (x : Option A). named x (used g shared f)) e ∙ ap (λ (b : Bool). if b then f v else None) (may g (shared v) u)

pub named_unusable : {A : Type 0} (g : Context) (shared : A → Bool) (f : A → Option InstructionType) (o : Option A) → ((v : A) → (o ≡ Some v) × MayUse g (shared v) → ⊥)
    → named o (used g shared f) ≡ None
named_unusable g shared f None n = refl
named_unusable g shared f (Some v) n = ap (λ (b : Bool). if b then f v else None) (may_not g (shared v) (λ u. n v (refl, u)))

-- ---- errors of what a module is asked

pub denies_as : (k : ErrorKind) (P : Type 0) → Denies k P → Denies (refusal_kind k) P
denies_as (kinds.EndOfData h) P d = d
denies_as (kinds.MissingFeature f) P d = d
denies_as kinds.OutOfMemory P d = d
denies_as kinds.Failed P d = d
denies_as kinds.Other P d = d
