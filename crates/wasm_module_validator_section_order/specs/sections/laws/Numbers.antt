-- Sections that are one number.
use Rattle.std.proofs.Common.{◌≡◌, ◌∙◌, ◌==◌, ℕ, Bool, true, false, if◌then◌else◌, List, [], ◌∷◌, ◌++◌, length, Option, Some, None, refl}
use Rattle.std.proofs.Common.{sym, ap, subst, arith, eqb-true}
use Rattle.std.proofs.lemmas.List.{append-nil}
use Rattle.std.specs.Prelude.{◌↔◌}
use Rattle.wasm_types.specs.settings.Settings.{Settings}
use Rattle.wasm_types.specs.decoding.declared.Refusal.TheVariants.{Other}
use Rattle.wasm_types.specs.decoding.Decoder.{State, Outcome, Done, Short, Fault, ended}
use Rattle.wasm_types.specs.decoding.ExactLaws.{value_is}
use Rattle.wasm_types.specs.decoding.Leb.{u32, IsUnsigned}
use Rattle.wasm_types.specs.decoding.LebLaws.{decides-u32}
use Rattle.wasm_sections.specs.Payloads.{only_number, cut, front_of}
use Rattle.wasm_module_validator_rules_in_order.specs.rules.Syntax.{ModuleTree}
use Rattle.wasm_module_validator_rules_in_order.specs.rules.Binary.{SpelledNumber}
use Rattle.wasm_module_validator_rules_in_order.specs.Sections.{Section, Item, number, items, as_list}
use Rattle.wasm_module_validator_rules_in_order.specs.Sections as section
use Rattle.wasm_module_validator_rules_in_order.specs.Adding.{Fits, Adds, IsWithItems}
use Rattle.wasm_module_validator_rules_in_order.specs.Texts.{SpelledSection}
use Rattle.wasm_module_validator_rules_in_order.specs.Steps.{SoFar, JudgesSection, IsJudged}
use Rattle.wasm_module_validator_rules_in_order.specs.laws.Adding.{section_added}
use Rattle.wasm_module_validator_section_order.specs.sections.Grammars.{SpelledItem}
use Rattle.wasm_module_validator_section_order.specs.sections.Sections.{IsOfItems, AddsNumber}
use Rattle.wasm_module_validator_section_order.specs.sections.laws.Counts.{past, takes_past, count_read}
use Rattle.wasm_module_validator_section_order.specs.sections.laws.Judged.{section_spelled}

-- ---- a number that is all of the contents

abbrev number_done : ℕ → State → Outcome ℕ
number_done n s = Done n s

-- contents that are one number are read as it
pub number_read : (n : ℕ) (b : State) → IsUnsigned 32 n b.rest → only_number b ≡ Done n b
number_read n b h =
    let t = past b b.rest [] in
    let e : u32 b ≡ Done n t = decides-u32.complete b t n b.rest (takes_past b b.rest [] (sym (append-nil b.rest))) h in
    ap (ended Other Other b) e

-- a number with nothing behind it (true), or with bytes there
abbrev ended_so : Bool → ℕ → State → State → Outcome ℕ
ended_so w m t b = if w then Done m b else Fault Other t.place

no_bytes : (text : List ℕ) → length text ≡ 0 → text ≡ []
no_bytes [] e = refl
no_bytes (x ∷ xs) e = absurd (omega (arith, e))

nothing_left : (w : Bool) (m n : ℕ) (t b s : State) → (length t.rest == 0) ≡ w → ended_so w m t b ≡ Done n s
    → (number_done m t ≡ Done n t) × (t.rest ≡ [])
nothing_left true m n t b s none e =
    (ap (λ (k : ℕ). number_done k t) (value_is m n b s e), no_bytes t.rest (eqb-true (length t.rest) 0 none))
nothing_left false m n t b s some e = absurd cc

-- what is read so is spelled by all of the contents
all_of : (o : Outcome ℕ) (b s : State) (n : ℕ) → ended Other Other b o ≡ Done n s → (t : State) × (o ≡ Done n t) × (t.rest ≡ [])
all_of (Done m t) b s n e = let l = nothing_left (length t.rest == 0) m n t b s refl e in (t, l.0, l.1)
all_of (Short p h) b s n e = absurd cc
all_of (Fault k p) b s n e = absurd cc

pub number_spelled : (n : ℕ) (b s : State) → only_number b ≡ Done n s → IsUnsigned 32 n b.rest
number_spelled n b s e =
    let a = all_of (u32 b) b s n e in
    let h = decides-u32.sound b a.0 n a.1 in
    subst (IsUnsigned 32 n) (sym (h.1.parts ∙ ap (λ (l : List ℕ). h.0 ++ l) a.2 ∙ append-nil h.0)) h.2

same_number : (n m : ℕ) (b s : State) → only_number b ≡ Done n s → IsUnsigned 32 m b.rest → m ≡ n
same_number n m b s e h = value_is m n b s (sym (number_read m b h) ∙ e)

-- ---- a number that is there

is_there : (o : Option ℕ) (n : ℕ) (b s : State) → only_number b ≡ Done n s → SpelledNumber o (Some b.rest) → o ≡ Some n
is_there None n b s e h = absurd h
is_there (Some m) n b s e h = ap Some (same_number n m b s e h)

is_listed : (o : Option ℕ) (n : ℕ) → as_list o ≡ n ∷ [] → o ≡ Some n
is_listed None n e = absurd cc
is_listed (Some m) n e = cc

-- a section that has this item alone where its contents spell it, and just there
module _ (z : Settings) (s : Section) (x : Item s) (fits : (m : ModuleTree) → Fits z s m 1) (p : SoFar) (text : List ℕ) (j : IsJudged z p)
    (has : (m : ModuleTree) → SpelledSection z s m (Some text) → items s m ≡ x ∷ [])
    (is : (m : ModuleTree) → items s m ≡ x ∷ [] → SpelledSection z s m (Some text)) where
  abbrev Added : SoFar → Type 0
  Added q = IsWithItems z s p.tree (x ∷ []) q.tree

  one_to : (q : SoFar) → JudgesSection z p s text q → AddsNumber z s p x q
  one_to q h =
      let added : Added q = record { added = h.added; holds = has q.tree h.spelled; valid = h.valid; within = h.within } in
      let adds = ((section_added z s p.tree q.tree (x ∷ []) (j.unread s h.ordered) j.within).1 added).1 in
      record { ordered = h.ordered; added = subst (Adds z s p.tree x) adds.2 adds.1; last = h.last; bodies = h.bodies }

  one_from : (q : SoFar) → AddsNumber z s p x q → JudgesSection z p s text q
  one_from q h =
      let unread = j.unread s h.ordered in
      let added = (section_added z s p.tree q.tree (x ∷ []) unread j.within).0 (fits p.tree, (q.tree, h.added, refl)) in
      record {
        ordered = h.ordered;
        added = added.added;
        spelled = is q.tree added.holds;
        valid = added.valid;
        within = added.within;
        last = h.last;
        bodies = h.bodies;
      }

module _ (z : Settings) (p : SoFar) (b s : State) (n : ℕ) (j : IsJudged z p) (c : only_number b ≡ Done n s) where
  has_number : (o : Option ℕ) → SpelledNumber o (Some b.rest) → as_list o ≡ n ∷ []
  has_number o h = ap as_list (is_there o n b s c h)

  is_number : (o : Option ℕ) → as_list o ≡ n ∷ [] → SpelledNumber o (Some b.rest)
  is_number o e = subst (λ (k : Option ℕ). SpelledNumber k (Some b.rest)) (sym (is_listed o n e)) (number_spelled n b s c)

  start_has : (m : ModuleTree) → SpelledSection z section.start m (Some b.rest) → items section.start m ≡ n ∷ []
  start_has m h = has_number m.start h

  start_is : (m : ModuleTree) → items section.start m ≡ n ∷ [] → SpelledSection z section.start m (Some b.rest)
  start_is m e = is_number m.start e

  pub start_judged : (q : SoFar) → JudgesSection z p section.start b.rest q ↔ AddsNumber z section.start p n q
  start_judged q =
      let to = one_to z section.start n (λ m. tt) p b.rest j start_has start_is q in
      let from = one_from z section.start n (λ m. tt) p b.rest j start_has start_is q in
      (to, from)

  count_has : (m : ModuleTree) → SpelledSection z section.data_count m (Some b.rest) → items section.data_count m ≡ n ∷ []
  count_has m h = has_number m.data_count h

  count_is : (m : ModuleTree) → items section.data_count m ≡ n ∷ [] → SpelledSection z section.data_count m (Some b.rest)
  count_is m e = is_number m.data_count e

  pub data_count_judged : (q : SoFar) → JudgesSection z p section.data_count b.rest q ↔ AddsNumber z section.data_count p n q
  data_count_judged q =
      let to = one_to z section.data_count n (λ m. tt) p b.rest j count_has count_is q in
      let from = one_from z section.data_count n (λ m. tt) p b.rest j count_has count_is q in
      (to, from)

-- ---- contents that are spelled begin with a count, or are a number

-- the front of a section's contents is read
abbrev pub IsFrontRead : Section → State → Type 0
IsFrontRead s b = (n : ℕ) × (r : State) × (front_of (number s) b ≡ Done n r)

number_front : (o : Option ℕ) (b : State) → SpelledNumber o (Some b.rest) → (n : ℕ) × (r : State) × (only_number b ≡ Done n r)
number_front None b h = absurd h
number_front (Some n) b h = (n, b, number_read n b h)

count_front : (z : Settings) (s : Section) (of_items : IsOfItems s) (m : ModuleTree) (b : State) → SpelledSection z s m (Some b.rest)
    → (n : ℕ) × (r : State) × (cut (u32 b) ≡ Done n r)
count_front z s of_items m b h =
    let l = count_read (SpelledItem z s) (items s m) b ((section_spelled z s of_items m b.rest).0 h).1 in
    (l.0, l.1, ap cut l.2)

pub front_read : (z : Settings) (s : Section) (m : ModuleTree) (b : State) → SpelledSection z s m (Some b.rest) → IsFrontRead s b
front_read z section.types m b h = count_front z section.types tt m b h
front_read z section.imports m b h = count_front z section.imports tt m b h
front_read z section.functions m b h = count_front z section.functions tt m b h
front_read z section.tables m b h = count_front z section.tables tt m b h
front_read z section.memories m b h = count_front z section.memories tt m b h
front_read z section.tags m b h = count_front z section.tags tt m b h
front_read z section.globals m b h = count_front z section.globals tt m b h
front_read z section.exports m b h = count_front z section.exports tt m b h
front_read z section.start m b h = number_front m.start b h
front_read z section.element_segments m b h = count_front z section.element_segments tt m b h
front_read z section.data_count m b h = number_front m.data_count b h
front_read z section.data_segments m b h = count_front z section.data_segments tt m b h
