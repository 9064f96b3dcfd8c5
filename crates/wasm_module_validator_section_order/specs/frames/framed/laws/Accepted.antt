-- Bytes are accepted exactly where their frames are judged one after the other and each body is that of a valid function.
use Rattle.std.proofs.Common.{◌≡◌, ◌⊎◌, ℕ, List, [], ◌∷◌, length, Some, sym, ap, ◌∙◌, subst, inl, inr}
use Rattle.std.specs.Prelude.{◌↔◌}
use Rattle.std.specs.List.{AllZip}
use Rattle.wasm_sections_items.specs.frames.Outer.{Counts, Declares, IsAbsent}
use Rattle.wasm_sections_items.specs.frames.OuterLaws.{one}
use Rattle.wasm_sections_parser.specs.Steps.{Shape}
use Rattle.wasm_sections_parser.specs.runs.Modules.{IsModule}
use Rattle.wasm_types.specs.decoding.Leb.{u32, IsUnsigned}
use Rattle.wasm_types.specs.decoding.LebLaws.{decides-u32}
use Rattle.wasm_types.specs.settings.Settings.{Settings}
use Rattle.wasm_module_validator_rules_in_order.specs.rules.Syntax.{Function, ModuleTree}
use Rattle.wasm_module_validator_rules_in_order.specs.rules.Spaces.{module_of}
use Rattle.wasm_module_validator_rules_in_order.specs.rules.Binary.{SpelledFunction, SpelledItems, contents}
use Rattle.wasm_module_validator_rules_in_order.specs.rules.Valid.{HasValidBody}
use Rattle.wasm_module_validator_rules_in_order.specs.rules.Accepts.{AcceptsUnder}
use Rattle.wasm_module_validator_rules_in_order.specs.contexts.laws.InOrder.{valid_in_order, valid_by_order}
use Rattle.wasm_module_validator_rules_in_order.specs.Sections as section
use Rattle.wasm_module_validator_rules_in_order.specs.Steps.{SoFar, nothing, JudgesShapes}
use Rattle.wasm_module_validator_rules_in_order.specs.laws.Judged.{order_by_sections}
use Rattle.wasm_module_validator_section_order.specs.frames.framed.laws.Parts.{some_place, defined_entries, absent_contents, declared_contents}
use Rattle.wasm_module_validator_section_order.specs.frames.framed.laws.Frames.{frames_are_one}
use Rattle.wasm_module_validator_section_order.specs.frames.framed.laws.Sound.{Seen, module_seen, judged_is_spelled, judged_is_valid}
use Rattle.wasm_module_validator_section_order.specs.frames.framed.laws.Complete.{module_comes}

-- ---- as many bodies as functions

-- a list has the count that its contents begin with
count_of_list : (n : ℕ) (xs : List ℕ) (c : List ℕ) → SpelledItems (IsUnsigned 32) xs (Some c) → Counts n c → n ≡ length xs
count_of_list n xs c h k =
    (one u32 (IsUnsigned 32) decides-u32 n (length xs) c k.count k.items h.count h.values k.whole k.counted h.whole h.counted).0

pub bodies_of_functions : (z : Settings) (text : List ℕ) (xs : List Shape) (q : SoFar) → IsModule z text xs → JudgesShapes z nothing xs q
    → length q.bodies ≡ length q.tree.functions
bodies_of_functions z text xs q m j =
    ap length seen.bodies ∙ (sym (defined_entries m.counts.functions m.outer.parts m.counts.defined) ∙ by m.counts.declared)
  where
    seen : Seen z nothing m.outer.parts q
    seen = (module_seen z text xs q m j).2

    functions : SpelledItems (IsUnsigned 32) q.tree.functions (contents 3 m.outer.parts)
    functions = seen.spelled section.functions (some_place section.functions).0

    by : Declares 3 m.counts.functions m.outer.parts ⊎ ((m.counts.functions ≡ 0) × IsAbsent 3 m.outer.parts)
        → m.counts.functions ≡ length q.tree.functions
    by (inl d) =
        let c = declared_contents section.functions m.counts.functions 0 m.outer.parts m.ordered d in
        count_of_list m.counts.functions q.tree.functions c.0 (subst (SpelledItems (IsUnsigned 32) q.tree.functions) c.1 functions) c.2
    by (inr d) =
        let none : q.tree.functions ≡ [] =
        subst (SpelledItems (IsUnsigned 32) q.tree.functions) (absent_contents 3 m.outer.parts d.1) functions in
        d.0 ∙ sym (ap length none)

-- ---- bodies and code

module _ {A B C : Type 0} (S : B → C → Type 0) (H : A → B → Type 0) where
  -- values between two lists
  abbrev Between : A → C → Type 0
  Between x t = (f : B) × S f t × H x f

  joined : (xs : List A) (fs : List B) (ts : List C) → AllZip H xs fs → AllZip S fs ts → AllZip Between xs ts
  joined [] [] [] h k = tt
  joined [] [] (t ∷ ts) h k = absurd k
  joined [] (f ∷ fs) ts h k = absurd h
  joined (x ∷ xs) [] ts h k = absurd h
  joined (x ∷ xs) (f ∷ fs) [] h k = absurd k
  joined (x ∷ xs) (f ∷ fs) (t ∷ ts) h k = ((f, k.0, h.0), joined xs fs ts h.1 k.1)

  parted : (xs : List A) (ts : List C) → AllZip Between xs ts → (fs : List B) × AllZip S fs ts × AllZip H xs fs
  parted [] [] h = ([], tt, tt)
  parted [] (t ∷ ts) h = absurd h
  parted (x ∷ xs) [] h = absurd h
  parted (x ∷ xs) (t ∷ ts) h =
      let rest = parted xs ts h.1 in
      (h.0.0 ∷ rest.0, (h.0.1, rest.1), (h.0.2, rest.2))

-- ---- modules

-- the bytes of a body spell a valid function of this type
abbrev AreBodies : Settings → ModuleTree → List (List ℕ) → Type 0
AreBodies z m ts = AllZip (λ x t. (f : Function) × SpelledFunction z f t × HasValidBody z (module_of m) x f) m.functions ts

module _ (z : Settings) (text : List ℕ) where
  accepted_by : (xs : List Shape) → IsModule z text xs → (q : SoFar) × JudgesShapes z nothing xs q × AreBodies z q.tree q.bodies
      → AcceptsUnder z text
  accepted_by xs m h =
      let q = h.0 in
      let code = parted (SpelledFunction z) (HasValidBody z (module_of q.tree)) q.tree.functions q.bodies h.2 in
      let n : ModuleTree = record q.tree { code = code.0 } in
      let spelled = judged_is_spelled z text xs q code.0 m h.1 code.1 in
      (n, record { spelled = spelled; valid = valid_by_order z n (judged_is_valid z xs q code.0 h.1 code.2) })

  pub accepted_comes : AcceptsUnder z text
      → (xs : List Shape) × IsModule z text xs × ((q : SoFar) × JudgesShapes z nothing xs q × AreBodies z q.tree q.bodies)
  accepted_comes a =
      let m = a.0 in
      let h = module_comes z m text a.1.spelled a.1.valid in
      let q = h.2.0 in
      let code = ((order_by_sections z m).0 (valid_in_order z m a.1.valid)).1 in
      let there : AreBodies z (record m { code = [] }) q.bodies =
      joined (SpelledFunction z) (HasValidBody z (module_of m)) m.functions m.code q.bodies code h.2.3 in
      (h.0, h.1, (q, h.2.1, subst (λ (n : ModuleTree). AreBodies z n q.bodies) (sym h.2.2) there))

  pub accepted_exactly : (xs : List Shape) → IsModule z text xs
      → AcceptsUnder z text ↔ ((q : SoFar) × JudgesShapes z nothing xs q × AreBodies z q.tree q.bodies)
  accepted_exactly xs m = (λ a. to (accepted_comes a), accepted_by xs m)
    where
      to : (ys : List Shape) × IsModule z text ys × ((q : SoFar) × JudgesShapes z nothing ys q × AreBodies z q.tree q.bodies)
          → (q : SoFar) × JudgesShapes z nothing xs q × AreBodies z q.tree q.bodies
      to h =
          let same = sym (frames_are_one z text xs h.0 m h.1) in
          subst (λ (ys : List Shape). (q : SoFar) × JudgesShapes z nothing ys q × AreBodies z q.tree q.bodies) same h.2
