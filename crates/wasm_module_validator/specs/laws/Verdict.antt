-- A module is accepted exactly where it is read and each of its bodies is judged valid.
use Rattle.std.proofs.Common.{◌≡◌, ◌∙◌, ◌⊎◌, ◌<◌, ◌≤◌, ℕ, Bool, true, false, if◌then◌else◌, List, [], length, Result, Ok, Err, refl, sym, ap, subst, arith, inl, inr}
use Rattle.std.proofs.lemmas.List.{length-map}
use Rattle.std.specs.Prelude.{◌↔◌, Contains}
use Rattle.wasm_types.specs.decoding.Denials.{Denies, Tells}
use Rattle.wasm_types.specs.decoding.DenialLaws.{denies_from}
use Rattle.wasm_types.specs.decoding.ErrorValue.{ErrorValue}
use Rattle.wasm_types.specs.decoding.declared.error.ErrorKind.{ErrorKind}
use Rattle.wasm_types.specs.decoding.declared.error.ErrorKind.TheVariants.{EndOfData, MissingFeature, OutOfMemory, Failed, Other}
use Rattle.wasm_types.specs.trees.declared.index.CoreTypeId.{CoreTypeId}
use Rattle.wasm_types.specs.trees.Trees.{TypeTree}
use Rattle.wasm_types.specs.settings.Limits.{IsWithinCeilings}
use Rattle.wasm_types.specs.settings.Settings.{Settings}
use Rattle.wasm_types.specs.reader.Reading.{IsNotMemory}
use Rattle.wasm_module_validator_section_order.specs.items.AddingLaws.{denies_each}
use Rattle.wasm_module_validator_section_order.specs.declared.items.bodies.Body.{Body}
use Rattle.wasm_module_validator_rules.specs.Accepts.{AcceptsUnder, IsValidOutsideBodies, Judges}
use Rattle.wasm_module_validator_rules.specs.Spaces.{types_behind}
use Rattle.wasm_module_validator_rules.specs.Syntax.{ModuleTree}
use Rattle.wasm_module_validator_section_order.specs.rules_in_order.Steps.{SoFar}
use Rattle.wasm_module_validator_drivers.specs.state.invariant.Standing.{Stands}
use Rattle.wasm_module_validator_drivers.specs.state.Items.{no_items}
use Rattle.wasm_module_validator_type_storage.specs.trees.Groups.{Group, count, tree_of}
use Rattle.wasm_module_validator_drivers.specs.declarations.Total.{IsPastTotal, TellsWithinTotal}
use Rattle.wasm_module_validator_drivers.specs.declarations.TotalLaws.{type_there, within_total}
use Rattle.wasm_module_validator_section_order.specs.frames.framed.laws.Complete.{module_comes}
use Rattle.wasm_module_validator_section_order.specs.frames.framed.laws.Accepted.{accepted_comes, accepted_exactly, bodies_of_functions}
use Rattle.wasm_module_validator_section_order.specs.frames.framed.laws.Outside.{outside_exactly}
use Rattle.wasm_module_validator_drivers.specs.payloads.Progress.{Kept, Progress, Grows, IsAt, are_same, kept_groups, nothing_over}
use Rattle.wasm_module_validator_drivers.specs.reading.Reading.{HasGroupIn, IsReadAs}
use Rattle.wasm_module_validator_drivers.specs.judging.Bodies.{AreBodies}
use Rattle.wasm_module_validator.specs.declared.validator.State.{State}
use Rattle.wasm_module_validator.specs.declared.validator.State.TheVariants as states
use Rattle.wasm_module_validator.specs.Lists.{TakesNoMore}
use Rattle.wasm_module_validator.specs.States.{IsLeft, Leaves}

-- what is not for memory tells it
pub denied : (k : ErrorKind) (P : Type 0) → IsNotMemory k → Denies k P → P → ⊥
denied (EndOfData h) P n d = d
denied (MissingFeature h) P n d = d
denied OutOfMemory P n d = absurd n
denied Failed P n d = d
denied Other P n d = d

-- ---- modules

module _ (z : Settings) (text : List ℕ) where
  -- bytes are valid outside their bodies exactly if they are read
  pub outside_is_read : IsValidOutsideBodies z text ↔ ((q : SoFar) × IsReadAs z text q)
  outside_is_read = (
    λ a. let (q, xs, is, judged) = (outside_exactly z text).0 a in (q, (xs, is, judged)),
    λ (q, (xs, is, judged)). (outside_exactly z text).1 (q, xs, is, judged),
  )

  pub as_many_bodies : (q : SoFar) → IsReadAs z text q → length q.bodies ≡ length q.tree.functions
  as_many_bodies q (xs, is, judged) = bodies_of_functions z text xs q is judged

  pub accepted_is_read : AcceptsUnder z text → (q : SoFar) × IsReadAs z text q × AreBodies z q
  accepted_is_read a = let h = accepted_comes z text a in (h.2.0, (h.0, h.1, h.2.1), h.2.2)

  pub read_is_accepted : (q : SoFar) → IsReadAs z text q → AreBodies z q → AcceptsUnder z text
  read_is_accepted q (xs, is, judged) bodies = (accepted_exactly z text xs is).1 (q, judged, bodies)

-- What is kept of a module that was read; and an answer that tells whether bodies that were read are valid.
module _ (z : Settings) (text : List ℕ) (r : Progress) (bodies : List Body) (read : (q : SoFar) × IsReadAs z text q)
    (stands : (q : SoFar) → IsReadAs z text q → IsAt z r bodies q) where
  -- it tells whether the module is accepted
  pub tells_accepted : {X : Type 0} (answer : Result X ErrorValue)
      → ((q : SoFar) → IsAt z r bodies q → length q.bodies ≡ length q.tree.functions → Tells answer (AreBodies z q))
      → Tells answer (AcceptsUnder z text)
  tells_accepted (Ok x) told =
      read_is_accepted z text read.0 read.1 (told read.0 (stands read.0 read.1) (as_many_bodies z text read.0 read.1))
  tells_accepted (Err e) told = denies_each {X = (q : SoFar) × IsReadAs z text q} e.kind (λ q. AreBodies z q.0) (AcceptsUnder z text)
      (λ a. let h = accepted_is_read z text a in ((h.0, h.1), h.2))
      (λ q. told q.0 (stands q.0 q.1) (as_many_bodies z text q.0 q.1))

  -- where it is accepted, what is kept stands for it, without its code
  pub stands_for_module : (m : ModuleTree) → Judges z text m → Stands r.kept.groups r.kept.items z (record m { code = [] })
  stands_for_module m j =
      let h = module_comes z m text j.spelled j.valid in
      subst (λ (n : ModuleTree). Stands r.kept.groups r.kept.items z n) h.2.2 (stands h.2.0 (h.0, h.1, h.2.1)).stands

-- a validator that has read nothing has no types
pub none_held : (z : Settings) (k : Kept) → k.groups ≡ [] → kept_groups z k ≡ []
none_held z k e = go (are_same k.items.spaces.settings z)
  where
    go : (b : Bool) → (if b then k.groups else []) ≡ []
    go true = e
    go false = refl

-- so it passes no total
pub alone_told : {X : Type 0} (z : Settings) (k : Kept) → k.groups ≡ [] → IsWithinCeilings z.limits → (Has : List TypeTree → ℕ → Type 0) (r : Result X ErrorValue)
    (P : Type 0) → TellsWithinTotal (kept_groups z k) (no_items z) Has r P → Tells r P
alone_told z k none w Has r P h =
    within_total z w Has r P (subst (λ (gs : List Group). TellsWithinTotal gs (no_items z) Has r P) (none_held z k none) h)

-- behind a function that was refused it has ended, but where there was no memory
pub left_behind : (X : Type 0) (groups : List Group) (z : Settings) (bytes : List ℕ) (e : ErrorValue) (s : State) → IsLeft e.kind s → (q : SoFar) × IsReadAs z bytes q
    → Denies e.kind (AcceptsUnder z bytes) → Leaves {X = X} groups z bytes (Err e) s
left_behind X groups z bytes e s (inl (is, n)) read d = inl (is, n, (outside_is_read z bytes).1 read, denied e.kind (AcceptsUnder z bytes) n d)
left_behind X groups z bytes e s (inr (is, memory)) read d =
    inr (is, inr (subst (λ (k : ErrorKind). Denies k (IsValidOutsideBodies z bytes)) (sym memory) tt))

-- if it was not read it has failed
pub left_unread : (X : Type 0) (groups : List Group) (z : Settings) (bytes : List ℕ) (e : ErrorValue) (s : State) → s ≡ states.Failed
    → IsPastTotal groups (no_items z) (HasGroupIn z bytes) e ⊎ Denies e.kind ((q : SoFar) × IsReadAs z bytes q)
    → Leaves {X = X} groups z bytes (Err e) s
left_unread X groups z bytes e s is (inl past) = inr (is, inl past)
left_unread X groups z bytes e s is (inr d) =
    inr (is, inr (denies_from e.kind ((q : SoFar) × IsReadAs z bytes q) (IsValidOutsideBodies z bytes) (outside_is_read z bytes).0 d))

-- a validator that has failed has not ended
pub failed_not_ended : states.Failed ≡ states.Ended → ⊥
failed_not_ended e = cc

-- of what was read the list of types has taken no more types than the bytes have, and no others
pub no_more_read : (z : Settings) (text : List ℕ) (held : List Group) (r : Progress) (bodies : List Body) → ((q : SoFar) → IsReadAs z text q → IsAt z r bodies q)
    → Grows (nothing_over held z).kept r.kept → TakesNoMore z held text r.kept.groups
no_more_read z text held r bodies stands grown q h =
    let at = stands q h in
    let counted : length r.kept.items.spaces.types ≡ length (types_behind [] q.tree.types) =
    sym (length-map r.kept.items.spaces.types (λ (i : CoreTypeId). tree_of r.kept.groups i.0)) ∙ ap length at.stands.read.types in
    let more = grown.types in
    let is = r.kept.items.spaces.types in
    let there : (id : CoreTypeId) → count held ≤ id.0 → id.0 < count r.kept.groups → Contains is id = λ id low high.
    subst (λ (js : List CoreTypeId). Contains js id) (sym grown.own.behind) (grown.own.own id low high) in (
      omega (arith, more, counted),
      λ id low high. subst (λ (ts : List TypeTree). Contains ts (tree_of r.kept.groups id)) at.stands.read.types
          (type_there r.kept.groups is (record { 0 = id }) (there (record { 0 = id }) low high)),
    )
