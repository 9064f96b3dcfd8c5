-- A section is taken exactly where it comes next by the rules, and what is kept then stands for what was judged.
use Rattle.std.proofs.Common.{◌≡◌, ◌∙◌, ◌<◌, ◌≤◌, ◌⊎◌, ℕ, List, length, take, refl, sym, ap, subst, arith, inl, inr, Result, Ok, Err, IfErr}
use Rattle.std.specs.Prelude.{OnOk, ◌↔◌}
use Rattle.std.proofs.lemmas.Bool.{cases_order}
use Rattle.std.proofs.lemmas.List.{length-map}
use Rattle.wasm_types.specs.decoding.Decoder.{State, Done, Decoder, Grammar}
use Rattle.wasm_types.specs.decoding.Leb.{u32}
use Rattle.wasm_types.specs.settings.Settings.{Settings}
use Rattle.wasm_types.specs.decoding.Denials.{Denies, Tells}
use Rattle.wasm_types.specs.decoding.DenialLaws.{denies_from}
use Rattle.wasm_types.specs.decoding.ErrorValue.{ErrorValue}
use Rattle.wasm_types.specs.decoding.declared.error.ErrorKind.{ErrorKind}
use Rattle.wasm_sections_parser.specs.Steps as frame
use Rattle.wasm_module_validator_section_order.specs.declared.items.bodies.Body.{Body}
use Rattle.wasm_module_validator_section_order.specs.items.Adding.{Spelled, AreAdded, StopsAdding, UnlessFull}
use Rattle.wasm_module_validator_section_order.specs.rules.Syntax.{ModuleTree}
use Rattle.wasm_module_validator_section_order.specs.rules_in_order.Sections.{Section, Item, number, place, code_place, IsUnread}
use Rattle.wasm_module_validator_section_order.specs.rules_in_order.Sections as section
use Rattle.wasm_module_validator_section_order.specs.rules_in_order.Adding.{Fits, Adds}
use Rattle.wasm_module_validator_section_order.specs.rules_in_order.Texts.{ItemRead}
use Rattle.wasm_module_validator_section_order.specs.rules_in_order.Steps.{SoFar, JudgesSection, IsJudged}
use Rattle.wasm_module_validator_section_order.specs.rules_in_order.laws.Fronts.{items_stay}
use Rattle.wasm_module_validator_section_order.specs.rules_in_order.laws.Judged.{shape_keeps}
use Rattle.wasm_module_validator_state.specs.invariant.laws.Beginning.{unread_is_last}
use Rattle.wasm_module_validator_state.specs.invariant.Standing.{IsBefore, IsReading}
use Rattle.wasm_module_validator_section_order.specs.sections.Sections.{Reading, reading, AddsIn, RefusesIn, MayBegin, behind, AddsNumber}
use Rattle.wasm_module_validator_section_order.specs.sections.laws.Telling.{number_told}
use Rattle.wasm_module_validator_section_order.specs.sections.Kinds.{WalksTell, AreTold}
use Rattle.wasm_module_validator_payloads.specs.Progress.{Kept, Progress, IsRead, IsAt, text_of}

-- what depends on the number of bodies alone, where there are some
same_taken : (n : ℕ) (xs ys : List ℕ) → (n ≡ 0) ⊎ (xs ≡ ys) → take n xs ≡ take n ys
same_taken n xs ys (inl e) = ap (λ (k : ℕ). take k xs) e ∙ ap (λ (k : ℕ). take k ys) (sym e)
same_taken n xs ys (inr e) = ap (take n) e

module _ (z : Settings) (p : SoFar) (r : Progress) (bodies : List Body) (at : IsAt z r bodies p) (s : Section) where
  -- ---- where a section begins

  pub is_behind : r.last < place s → p.last < place s
  is_behind o = subst (λ (n : ℕ). n < place s) at.placed o

  pub not_behind : (k : ErrorKind) (text : List ℕ) → Denies k (r.last < place s) → Denies k ((q : SoFar) × JudgesSection z p s text q)
  not_behind k text d = denies_from k _ _ (λ h. subst (λ (n : ℕ). n < place s) (sym at.placed) h.1.ordered) d

  pub unread : p.last < place s → IsUnread s p.tree
  unread o = at.judged.unread s o

  pub starts : p.last < place s → IsRead s r.kept (reading z p.tree)
  starts o = record { reading = record { stands = at.stands; last = unread_is_last s p.tree (unread o) }; counted = at.counted }

  -- ---- behind it

  module _ (text : List ℕ) (q : SoFar) (j : JudgesSection z p s text q) where
    none_yet : p.last < code_place → length bodies ≡ 0
    none_yet l = sym (length-map bodies text_of) ∙ (ap length at.bodies ∙ ap length (at.judged.none l))

    functions_stay : code_place ≤ p.last → p.tree.functions ≡ q.tree.functions
    functions_stay l = items_stay section.functions s p.tree q.tree (omega (arith, l, j.ordered)) j.added

    -- there is no body, or functions stay
    stay : (length bodies ≡ 0) ⊎ (p.tree.functions ≡ q.tree.functions)
    stay = go (cases_order p.last code_place)
      where
        go : (p.last ≡ code_place) ⊎ ((p.last < code_place) ⊎ (code_place < p.last)) → (length bodies ≡ 0) ⊎ (p.tree.functions ≡ q.tree.functions)
        go (inl e) = inr (functions_stay (omega (arith, e)))
        go (inr (inl l)) = inl (none_yet l)
        go (inr (inr l)) = inr (functions_stay (omega (arith, l)))

    pub at_behind : (k : Kept) → IsRead s k (reading z q.tree) → IsAt z (record { kept = k; last = place s }) bodies q
    at_behind k h = record {
      stands = h.reading.stands;
      judged = shape_keeps z (frame.section (number s) text) p q at.judged (s, refl, j);
      counted = h.counted;
      placed = sym j.last;
      bodies = at.bodies ∙ sym j.bodies;
      types = at.types ∙ same_taken (length bodies) p.tree.functions q.tree.functions stay;
      read = at.read;
    }

  -- ---- what a walk over the items tells

  module _ {T V : Type 0} (view : T → V) (of : T → ItemRead s) (d : Settings → Decoder V) (g : Settings → Grammar V) (tells : WalksTell s view of d g)
      (b c : State) (n : ℕ) (same : b.settings ≡ z) (counts : u32 b ≡ Done n c) where
    told : AreTold s view of d g z p b c n
    told = tells z p b c n at.judged same counts

    pub too_many : (k : ErrorKind) → Denies k (MayBegin z s × Fits z s p.tree n) → Denies k ((q : SoFar) × JudgesSection z p s b.rest q)
    too_many k refused = denies_from k _ _ (λ h. (told.allowed h.0 h.1, told.fits h.0 h.1)) refused

    pub stopped : (e : ErrorValue) → StopsAdding view of (d c.settings) (AddsIn s) (RefusesIn s) n c (reading z p.tree) e → Denies e.kind ((q : SoFar) × JudgesSection z p s b.rest q)
    stopped e h = told.refused e h

    module _ (o : p.last < place s) (may : MayBegin z s × Fits z s p.tree n) (u : Reading)
        (all : AreAdded (Spelled view of (g c.settings)) (AddsIn s) n c.rest (reading z p.tree) u) where
      pub judged : JudgesSection z p s b.rest (behind s p u.tree)
      judged = (told.added o may.0 may.1 u all).0

      settings_stay : u.settings ≡ z
      settings_stay = (told.added o may.0 may.1 u all).1

      pub stands : (k : Kept) → IsRead s k u → (q : SoFar) → JudgesSection z p s b.rest q → IsAt z (record { kept = k; last = place s }) bodies q
      stands k h q j =
          subst (IsAt z (record { kept = k; last = place s }) bodies) (sym (told.one u q all j))
          (at_behind b.rest (behind s p u.tree) judged k (subst (λ (y : Settings). IsRead s k (reading y u.tree)) settings_stay h))

    -- what a call that adds the items answers
    pub section_told : {X : Type 0} (result : Result X ErrorValue) → p.last < place s → MayBegin z s × Fits z s p.tree n
        → Tells result ((t : Reading) × AreAdded (Spelled view of (g c.settings)) (AddsIn s) n c.rest (reading z p.tree) t)
        → IfErr result (λ e. StopsAdding view of (d c.settings) (AddsIn s) (RefusesIn s) n c (reading z p.tree) e) → Tells result ((q : SoFar) × JudgesSection z p s b.rest q)
    section_told (Ok x) o may h stops = (behind s p h.0.tree, judged o may h.0 h.1)
    section_told (Err e) o may h stops = stopped e stops

-- ---- what it leaves

module _ (r : Progress) (s : Section) {T V : Type 0} (view : T → V) (of : T → ItemRead s) (d : Settings → Decoder V) (g : Settings → Grammar V) (tells : WalksTell s view of d g)
    (c : State) (n : ℕ) (first : Kept) (same_kept : first ≡ r.kept) (order : r.last < place s)
    (fits : (z : Settings) (p : SoFar) (bodies : List Body) → IsAt z r bodies p → p.last < place s → MayBegin z s × Fits z s p.tree n) where
  -- the items are added
  abbrev All : Reading → Reading → Type 0
  All u v = AreAdded (Spelled view of (g c.settings)) (AddsIn s) n c.rest u v

  module _ (z : Settings) (p : SoFar) (bodies : List Body) (at : IsAt z r bodies p) where
    o : p.last < place s
    o = is_behind z p r bodies at s order

    pub starts_here : IsRead s first (reading z p.tree)
    starts_here = subst (λ (k : Kept). IsRead s k (reading z p.tree)) (sym same_kept) (starts z p r bodies at s o)

    pub answered : {X : Type 0} (result : Result X ErrorValue) (b : State) → b.settings ≡ z → u32 b ≡ Done n c
        → ((m : Reading) → IsRead s first m → Tells result ((t : Reading) × All m t))
        → ((m : Reading) → IsRead s first m → IfErr result (λ e. StopsAdding view of (d c.settings) (AddsIn s) (RefusesIn s) n c m e))
        → Tells result ((q : SoFar) × JudgesSection z p s b.rest q)
    answered result b same counts answer stops =
        section_told z p r bodies at s view of d g tells b c n same counts result o (fits z p bodies at o) (answer (reading z p.tree) starts_here) (stops (reading z p.tree) starts_here)

  pub all_added : {X : Type 0} (Full : ErrorValue → Type 0) (result : Result X ErrorValue) (k : Kept) (last : ℕ) → last ≡ place s
      → UnlessFull Full result ((m : Reading) → IsRead s first m → Tells result ((t : Reading) × All m t))
      → OnOk result ((m t : Reading) → IsRead s first m → All m t → IsRead s k t)
      → OnOk result ((z : Settings) (p q : SoFar) (bodies : List Body) (b : State) → IsAt z r bodies p → b.settings ≡ z → u32 b ≡ Done n c → JudgesSection z p s b.rest q
      → IsAt z (record { kept = k; last = last }) bodies q)
  all_added Full (Ok x) k last is answer added = λ z p q bodies b at same counts j.
      let h = starts_here z p bodies at in
      let a = answer (reading z p.tree) h in
      let behind_all = o z p bodies at in
      let there = stands z p r bodies at s view of d g tells b c n same counts behind_all (fits z p bodies at behind_all) a.0 a.1 k (added (reading z p.tree) a.0 h a.1) q j in
      subst (λ (l : ℕ). IsAt z (record { kept = k; last = l }) bodies q) (sym is) there
  all_added Full (Err e) k last is answer added = tt

-- ---- a section that is one number

module _ (r : Progress) (s : Section) (n : Item s) (G : State → Type 0)
    (told : (z : Settings) (p : SoFar) (b : State) → IsJudged z p → G b → (q : SoFar) → JudgesSection z p s b.rest q ↔ AddsNumber z s p n q) where
  -- the state where the section begins
  pub begins : (z : Settings) (p : SoFar) (bodies : List Body) → IsAt z r bodies p → r.last < place s → IsBefore s r.kept.groups r.kept.items z p.tree
  begins z p bodies at o = record { stands = at.stands; unread = unread z p r bodies at s (is_behind z p r bodies at s o) }

  pub number_answered : {X : Type 0} (result : Result X ErrorValue) → r.last < place s
      → ((z : Settings) (m : ModuleTree) → IsBefore s r.kept.groups r.kept.items z m → Tells result ((k : ModuleTree) × Adds z s m n k))
      → (z : Settings) (p : SoFar) (bodies : List Body) (b : State) → IsAt z r bodies p → b.settings ≡ z → G b → Tells result ((q : SoFar) × JudgesSection z p s b.rest q)
  number_answered result o answer z p bodies b at same g =
      number_told z s p b.rest n (told z p b at.judged g) result (is_behind z p r bodies at s o) (answer z p.tree (begins z p bodies at o))

  pub number_added : {X : Type 0} (result : Result X ErrorValue) (k : Kept) (last : ℕ) → last ≡ place s → r.last < place s → k.count ≡ r.kept.count
      → ((z : Settings) (m t : ModuleTree) → Adds z s m n t → t.types ≡ m.types)
      → OnOk result ((z : Settings) (m t : ModuleTree) → IsBefore s r.kept.groups r.kept.items z m → Adds z s m n t → IsReading s k.groups k.items z t)
      → OnOk result ((z : Settings) (p q : SoFar) (bodies : List Body) (b : State) → IsAt z r bodies p → b.settings ≡ z → G b → JudgesSection z p s b.rest q
      → IsAt z (record { kept = k; last = last }) bodies q)
  number_added (Ok x) k last is o count types added = λ z p q bodies b at same g j.
      let adds = ((told z p b at.judged g q).0 j).added in
      let there : IsRead s k (reading z q.tree)
      = record { reading = added z p.tree q.tree (begins z p bodies at o) adds; counted = count ∙ (at.counted ∙ sym (ap length (types z p.tree q.tree adds))) } in
      subst (λ (l : ℕ). IsAt z (record { kept = k; last = l }) bodies q) (sym is) (at_behind z p r bodies at s b.rest q j k there)
  number_added (Err e) k last is o count types added = tt
