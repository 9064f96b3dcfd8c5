-- What each kind of items promises, from what the calls of the state promise.
use Rattle.std.proofs.Common.{◌≡◌, ◌∙◌, ◌+◌, ℕ, List, length, Result, Ok, Err, sym, ap, subst, arith}
use Rattle.std.specs.Prelude.{OnOk, IfErr, ◌↔◌}
use Rattle.std.proofs.lemmas.List.{length_push}
use Rattle.wasm_types.specs.decoding.Denials.{Tells}
use Rattle.wasm_types.specs.decoding.DenialLaws.{denies_from}
use Rattle.wasm_types.specs.decoding.ErrorValue.{ErrorValue}
use Rattle.wasm_types.specs.decoding.declared.error.ErrorKind.{ErrorKind}
use Rattle.wasm_types.specs.decoding.declared.error.ErrorKind.TheVariants.{Other}
use Rattle.wasm_types.specs.reader.Reading.{IsNotMemory}
use Rattle.wasm_types.specs.settings.Settings.{Settings}
use Rattle.wasm_module_validator_type_storage.specs.trees.Groups.{Group}
use Rattle.wasm_module_validator_state.specs.Items.{Items}
use Rattle.wasm_module_validator_section_order.specs.rules.Syntax.{ModuleTree}
use Rattle.wasm_module_validator_section_order.specs.rules_in_order.Sections.{Section}
use Rattle.wasm_module_validator_section_order.specs.rules_in_order.Sections as section
use Rattle.wasm_module_validator_section_order.specs.rules_in_order.Texts.{ItemRead, AddsRead}
use Rattle.wasm_module_validator_state.specs.invariant.Standing.{AddsItem}
use Rattle.wasm_module_validator_payloads.specs.Progress.{Reads}

-- what holds exactly where another does, with nothing besides
pub alike_told : {X : Type 0} (result : Result X ErrorValue) (P Q : Type 0) → P ↔ Q → Tells result P → Tells result (Unit {0} × Q)
alike_told (Ok u) P Q both h = (tt, both.0 h)
alike_told (Err e) P Q both h = denies_from e.kind P (Unit {0} × Q) (λ q. both.1 q.1) h

-- the same with a fact that holds
pub both_told : {X : Type 0} (result : Result X ErrorValue) (M P Q : Type 0) → M → P ↔ Q → Tells result P → Tells result (M × Q)
both_told (Ok u) M P Q fact both h = (fact, both.0 h)
both_told (Err e) M P Q fact both h = denies_from e.kind P (M × Q) (λ q. both.1 q.1) h

-- a refusal of kind Other is none for memory
pub other_there : {X : Type 0} (result : Result X ErrorValue) (offset : ℕ) → IfErr result (λ e. (e.kind ≡ Other) × (e.offset ≡ offset))
    → IfErr result (λ e. IsNotMemory e.kind × (e.offset ≡ offset))
other_there (Ok u) offset h = tt
other_there (Err e) offset h = (subst IsNotMemory (sym h.0) tt, h.1)

-- an item that is no group leaves the count of groups
pub item_added : {X : Type 0} (s : Section) (x : ItemRead s) (result : Result X ErrorValue) (groups grown : List Group) (i j : Items) (count : ℕ)
    → ((z : Settings) (m n : ModuleTree) → AddsRead z s m x n → n.types ≡ m.types) → OnOk result (AddsItem s groups i x grown j)
    → OnOk result ((z : Settings) (m n : ModuleTree) → Reads s groups i count z m → AddsRead z s m x n → Reads s grown j count z n)
item_added s x (Ok u) groups grown i j count types added = λ z m n h a. record { reading = added z m n h.reading a; counted = h.counted ∙ sym (ap length (types z m n a)) }
item_added s x (Err e) groups grown i j count types added = tt

-- a group is counted
pub group_added : (x : ItemRead section.types) (groups grown : List Group) (i j : Items) (count : ℕ) → AddsItem section.types groups i x grown j
    → (z : Settings) (m n : ModuleTree) → Reads section.types groups i count z m → AddsRead z section.types m x n → Reads section.types grown j (count + 1) z n
group_added x groups grown i j count added z m n h a = record {
  reading = added z m n h.reading a;
  counted = omega (arith, h.counted, ap length (ap (λ (t : ModuleTree). t.types) a.2.added), length_push m.types a.0);
}

-- what follows of what holds where a call succeeded
pub on_ok : {X : Type 0} (result : Result X ErrorValue) (P Q : Type 0) → (P → Q) → OnOk result P → OnOk result Q
on_ok (Ok u) P Q f h = f h
on_ok (Err e) P Q f h = tt

pub always : {X : Type 0} (result : Result X ErrorValue) (P : Type 0) → P → OnOk result P
always (Ok u) P h = h
always (Err e) P h = tt
