-- All parts of a module together are the whole; and what is told of a part.
use Rattle.std.proofs.Common.{◌≡◌, ◌<◌, ℕ, List, length, Result, Ok, Err, OnOk, IfErr}
use Rattle.wasm_types.specs.decoding.Denials.{Denies, Tells}
use Rattle.wasm_types.specs.decoding.ErrorValue.{ErrorValue}
use Rattle.wasm_types.specs.settings.Settings.{Settings}
use Rattle.wasm_module_validator_section_order.specs.items.AddingLaws.{denies_each}
use Rattle.wasm_module_validator_section_order.specs.declared.items.bodies.Body.{Body}
use Rattle.wasm_module_validator_section_order.specs.rules_in_order.Steps.{SoFar}
use Rattle.wasm_module_validator_rules.specs.Accepts.{AcceptsUnder}
use Rattle.wasm_module_validator_drivers.specs.payloads.Progress.{Progress, IsAt}
use Rattle.wasm_module_validator_drivers.specs.judging.Bodies.{ArePartBodies}
use Rattle.wasm_module_validator_drivers.specs.judging.laws.Parts.{part_of_whole, whole_of_parts}
use Rattle.wasm_module_validator_drivers.specs.reading.Reading.{IsReadAs}
use Rattle.wasm_module_validator.specs.Parts.{AcceptsPart}
use Rattle.wasm_module_validator.specs.laws.Verdict.{accepted_is_read, read_is_accepted, outside_is_read, as_many_bodies}

-- all parts together are the whole
pub whole_is_accepted : (z : Settings) (parts : ℕ) (bytes : List ℕ) → 0 < parts
    → ((part : ℕ) → part < parts → AcceptsPart z part parts bytes) → AcceptsUnder z bytes
whole_is_accepted z parts bytes some each =
    let (q, read) = (outside_is_read z bytes).0 (each 0 some).0 in
    read_is_accepted z bytes q read (whole_of_parts _ parts 0 some q.tree.functions q.bodies (λ part l. (each part l).1 q read))

-- What is kept of a module that was read, and an answer that tells of each reading whether the bodies of the part are valid: an Ok says that
-- the part is accepted, and a refusal denies that the module is.
module _ (z : Settings) (bytes : List ℕ) (part parts : ℕ) (r : Progress) (bodies : List Body) (read : (q : SoFar) × IsReadAs z bytes q)
    (stands : (q : SoFar) → IsReadAs z bytes q → IsAt z r bodies q) where
  pub part_told : {X : Type 0} (answer : Result X ErrorValue)
      → ((q : SoFar) → IsAt z r bodies q → length q.bodies ≡ length q.tree.functions → Tells answer (ArePartBodies z part parts q))
      → OnOk answer (AcceptsPart z part parts bytes) × IfErr answer (λ e. Denies e.kind (AcceptsUnder z bytes))
  part_told (Ok x) told =
      (((outside_is_read z bytes).1 read, λ q reads. told q (stands q reads) (as_many_bodies z bytes q reads)), tt)
  part_told (Err e) told = (
    tt,
    denies_each {X = (q : SoFar) × IsReadAs z bytes q} e.kind (λ q. ArePartBodies z part parts q.0) (AcceptsUnder z bytes)
        (λ a. let h = accepted_is_read z bytes a in ((h.0, h.1), part_of_whole _ part parts 0 h.0.tree.functions h.0.bodies h.2))
        (λ q. told q.0 (stands q.0 q.1) (as_many_bodies z bytes q.0 q.1)),
  )
