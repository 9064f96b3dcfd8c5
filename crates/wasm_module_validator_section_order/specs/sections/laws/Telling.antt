-- What the answer of a walk over the items of a section tells, as the contract of `add_items` says it.
use Rattle.std.proofs.Common.{◌≡◌, ℕ, List, Result, Ok, Err, refl, sym, ap, subst}
use Rattle.std.specs.Prelude.{◌↔◌, ◌<◌, OnOk, IfErr}
use Rattle.wasm_types.specs.decoding.Decoder.{State, Decoder, Grammar}
use Rattle.wasm_types.specs.decoding.ErrorValue.{ErrorValue}
use Rattle.wasm_types.specs.decoding.declared.error.ErrorKind.{ErrorKind}
use Rattle.wasm_types.specs.decoding.Denials.{Denies, Tells}
use Rattle.wasm_types.specs.decoding.DenialLaws.{denies_from}
use Rattle.wasm_types.specs.settings.Settings.{Settings}
use Rattle.wasm_sections_parser.specs.Steps as frame
use Rattle.wasm_module_validator_section_order.specs.items.Adding.{Spelled, AreAdded, StopsAdding}
use Rattle.wasm_module_validator_rules_in_order.specs.rules.Syntax.{ModuleTree}
use Rattle.wasm_module_validator_rules_in_order.specs.Sections.{Section, Item, number, place}
use Rattle.wasm_module_validator_rules_in_order.specs.Adding.{Fits, Adds}
use Rattle.wasm_module_validator_rules_in_order.specs.Texts.{ItemRead, AddsRead}
use Rattle.wasm_module_validator_rules_in_order.specs.Steps.{SoFar, JudgesSection, JudgesShape}
use Rattle.wasm_module_validator_section_order.specs.sections.Sections.{Reading, reading, AddsIn, RefusesIn, MayBegin, AddsNumber, behind}
use Rattle.wasm_module_validator_section_order.specs.sections.Kinds.{AreTold}
use Rattle.wasm_module_validator_section_order.specs.sections.laws.Shapes.{shape_judged}

-- ---- answers

-- what an answer tells of one fact it tells of another that holds just where the first does
pub tells_same : {X : Type 0} (result : Result X ErrorValue) (P Q : Type 0) → (P → Q) → (Q → P) → Tells result P → Tells result Q
tells_same (Ok x) P Q to from h = to h
tells_same (Err e) P Q to from h = denies_from e.kind P Q from h

-- ---- one item

-- an item that is added to a tree is added under the settings that stay
pub added_in : (s : Section) (u : Reading) (t : ItemRead s)
    → ((n : ModuleTree) × AddsRead u.settings s u.tree t n) ↔ ((v : Reading) × AddsIn s u t v)
added_in s u t = (λ h. (reading u.settings h.0, (h.1, refl)), λ h. (h.0.tree, h.1.0))

-- so what an answer tells of the one it tells of the other
pub tells_in : {X : Type 0} (s : Section) (u : Reading) (t : ItemRead s) (result : Result X ErrorValue)
    → Tells result ((n : ModuleTree) × AddsRead u.settings s u.tree t n) → Tells result ((v : Reading) × AddsIn s u t v)
tells_in s u t result h =
    let both = added_in s u t in
    tells_same result ((n : ModuleTree) × AddsRead u.settings s u.tree t n) ((v : Reading) × AddsIn s u t v) both.0 both.1 h

-- ---- frames

-- a frame of the id of a section is told of as the section
pub shape_told : {X : Type 0} (z : Settings) (s : Section) (p : SoFar) (text : List ℕ) (result : Result X ErrorValue)
    → Tells result ((q : SoFar) × JudgesSection z p s text q)
    → Tells result ((q : SoFar) × JudgesShape z p (frame.section (number s) text) q)
shape_told z s p text result h =
    tells_same result ((q : SoFar) × JudgesSection z p s text q) ((q : SoFar) × JudgesShape z p (frame.section (number s) text) q)
    (λ j. (j.0, (shape_judged z s p j.0 text).1 j.1)) (λ j. (j.0, (shape_judged z s p j.0 text).0 j.1)) h

-- and is refused for whatever holds of each section that is judged
pub shape_denied : (z : Settings) (s : Section) (p : SoFar) (text : List ℕ) (k : ErrorKind) (P : Type 0)
    → ((q : SoFar) → JudgesSection z p s text q → P) → Denies k P
    → Denies k ((q : SoFar) × JudgesShape z p (frame.section (number s) text) q)
shape_denied z s p text k P f d =
    denies_from k P ((q : SoFar) × JudgesShape z p (frame.section (number s) text) q) (λ j. f j.0 ((shape_judged z s p j.0 text).0 j.1)) d

-- ---- a section that is one number

pub number_told : {X : Type 0} (z : Settings) (s : Section) (p : SoFar) (text : List ℕ) (n : Item s)
    → ((q : SoFar) → JudgesSection z p s text q ↔ AddsNumber z s p n q) → (result : Result X ErrorValue) → p.last < place s
    → Tells result ((m : ModuleTree) × Adds z s p.tree n m) → Tells result ((q : SoFar) × JudgesSection z p s text q)
number_told z s p text n judged result l h =
    tells_same result ((m : ModuleTree) × Adds z s p.tree n m) ((q : SoFar) × JudgesSection z p s text q)
    (λ a. (behind s p a.0, (judged (behind s p a.0)).1 (record { ordered = l; added = a.1; last = refl; bodies = refl })))
    (λ j. (j.0.tree, ((judged j.0).0 j.1).added)) h

-- ---- a section of them

module _ {s : Section} {T V : Type 0} {view : T → V} {of : T → ItemRead s} {d : Settings → Decoder V} {g : Settings → Grammar V}
    {z : Settings} {p : SoFar} {b r : State} {n : ℕ} (told : AreTold s view of d g z p b r n) where
  abbrev Added : Reading → Type 0
  Added u = AreAdded (Spelled view of (g r.settings)) (AddsIn s) n r.rest (reading z p.tree) u

  -- where the section may begin, the answer tells whether it is judged
  pub section_told : {X : Type 0} (result : Result X ErrorValue) → p.last < place s → MayBegin z s → Fits z s p.tree n
      → Tells result ((u : Reading) × Added u)
      → IfErr result (λ e. StopsAdding view of (d r.settings) (AddsIn s) (RefusesIn s) n r (reading z p.tree) e)
      → Tells result ((q : SoFar) × JudgesSection z p s b.rest q)
  section_told (Ok x) l m f h k = (behind s p h.0.tree, (told.added l m f h.0 h.1).0)
  section_told (Err e) l m f h k = told.refused e k

  -- and what holds of whatever the items lead to holds of all that is judged
  pub each_told : {X : Type 0} (P : Reading → Type 0) (result : Result X ErrorValue) → p.last < place s → MayBegin z s → Fits z s p.tree n
      → Tells result ((u : Reading) × Added u)
      → OnOk result ((u : Reading) → Added u → P u) → OnOk result ((q : SoFar) → JudgesSection z p s b.rest q → P (reading z q.tree))
  each_told P (Ok x) l m f h k = λ q j.
      let settings : h.0.settings ≡ z = (told.added l m f h.0 h.1).1 in
      let tree : q.tree ≡ h.0.tree = ap (λ (o : SoFar). o.tree) (told.one h.0 q h.1 j) in
      let same : h.0 ≡ reading z q.tree = (λ i. record { settings = settings i; tree = sym tree i }) in
      subst P same (k h.0 h.1)
  each_told P (Err e) l m f h k = tt
