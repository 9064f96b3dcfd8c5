-- The bodies that were kept are judged valid exactly where those of what was read are valid.
use Rattle.std.proofs.Common.{◌≡◌, ◌∙◌, ℕ, List, [], ◌∷◌, length, map, take, Result, Ok, Err, sym, ap, subst}
use Rattle.std.specs.Prelude.{◌↔◌}
use Rattle.std.specs.List.{AllZip}
use Rattle.std.proofs.Math.Seq.{take-length}
use Rattle.std.proofs.lemmas.List.{length-map}
use Rattle.wasm_types.specs.decoding.Denials.{Tells}
use Rattle.wasm_types.specs.decoding.DenialLaws.{denies_from}
use Rattle.wasm_types.specs.decoding.ErrorValue.{ErrorValue}
use Rattle.wasm_types.specs.settings.Settings.{Settings}
use Rattle.wasm_operator_validator_rules.specs.Context.{Module}
use Rattle.wasm_module_validator_resources.specs.Reading.{context_of}
use Rattle.wasm_module_validator_payloads.specs.state.invariant.so_far.laws.Judging.{body_is_judged}
use Rattle.wasm_module_validator_function_bodies.specs.code.Code.{IsFunctionOf}
use Rattle.wasm_module_validator_section_order.specs.declared.items.bodies.Body.{Body}
use Rattle.wasm_module_validator_section_order.specs.rules.Syntax.{Function}
use Rattle.wasm_module_validator_section_order.specs.rules.Spaces.{module_of}
use Rattle.wasm_module_validator_section_order.specs.rules.Binary.{SpelledFunction}
use Rattle.wasm_module_validator_section_order.specs.rules.Valid.{Each, HasValidBody}
use Rattle.wasm_module_validator_section_order.specs.rules_in_order.Steps.{SoFar}
use Rattle.wasm_module_validator_payloads.specs.Progress.{Progress, IsAt, text_of, type_of}
use Rattle.wasm_module_validator_drivers.specs.judging.Bodies.{AreBodies}

-- what tells of a fact tells of what holds exactly where that does
pub tells_same : {X : Type 0} (answer : Result X ErrorValue) (P Q : Type 0) → P ↔ Q → Tells answer P → Tells answer Q
tells_same (Ok x) P Q f h = f.0 h
tells_same (Err e) P Q f h = denies_from e.kind P Q f.1 h

-- ---- bodies that were kept

module _ (z : Settings) (g h : Module) (alike : (x : ℕ) (f : Function) → HasValidBody z g x f ↔ HasValidBody z h x f) where
  -- a body of a valid function of this type
  abbrev pub IsBody : ℕ → List ℕ → Type 0
  IsBody x text = (f : Function) × SpelledFunction z f text × HasValidBody z h x f

  -- each body spells a valid function of its type
  abbrev AreFunctions : List Body → Type 0
  AreFunctions bodies = Each (λ (b : Body). IsFunctionOf z g b.type_index b.body.rest) bodies

  zip_of : (bodies : List Body) → AreFunctions bodies → AllZip IsBody (map type_of bodies) (map text_of bodies)
  zip_of [] e = tt
  zip_of (b ∷ bs) e = ((e.0.0, e.0.1, (alike b.type_index e.0.0).0 e.0.2), zip_of bs e.1)

  of_zip : (bodies : List Body) → AllZip IsBody (map type_of bodies) (map text_of bodies) → AreFunctions bodies
  of_zip [] e = tt
  of_zip (b ∷ bs) e = ((e.0.0, e.0.1, (alike b.type_index e.0.0).1 e.0.2), of_zip bs e.1)

module _ (z : Settings) (r : Progress) (bodies : List Body) (q : SoFar) (at : IsAt z r bodies q)
    (as_many : length q.bodies ≡ length q.tree.functions) where
  abbrev pub here : Module
  here = context_of r.kept.groups r.kept.items.spaces

  abbrev IsOne : ℕ → List ℕ → Type 0
  IsOne x text = (f : Function) × SpelledFunction z f text × HasValidBody z (module_of q.tree) x f

  pub types_are : map type_of bodies ≡ q.tree.functions
  types_are =
      let count : length bodies ≡ length q.tree.functions = sym (length-map bodies text_of) ∙ (ap length at.bodies ∙ as_many) in
      at.types ∙ (ap (λ (n : ℕ). take n q.tree.functions) count ∙ take-length q.tree.functions)

  pub are_alike : (x : ℕ) (f : Function) → HasValidBody z here x f ↔ HasValidBody z (module_of q.tree) x f
  are_alike x f = body_is_judged r.kept.groups r.kept.items.spaces q.tree at.stands.read at.stands.referred z x f

  abbrev AreThose : List ℕ → List (List ℕ) → Type 0
  AreThose xs ts = AllZip IsOne xs ts

  -- the bodies that were kept are judged valid exactly where those of what was read are
  pub bodies_are : Each (λ (b : Body). IsFunctionOf z here b.type_index b.body.rest) bodies ↔ AreBodies z q
  bodies_are = (
    λ e. subst (λ ts. AreThose q.tree.functions ts) at.bodies
        (subst (λ xs. AreThose xs (map text_of bodies)) types_are (zip_of z here (module_of q.tree) are_alike bodies e)),
    λ e. of_zip z here (module_of q.tree) are_alike bodies
        (subst (λ xs. AreThose xs (map text_of bodies)) (sym types_are) (subst (λ ts. AreThose q.tree.functions ts) (sym at.bodies) e)),
  )
