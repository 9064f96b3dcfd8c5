-- Where the contents of a section stand among the parts of a module, and which parts may still come behind a place.
use Rattle.std.proofs.Common.{◌≡◌, ◌<◌, ◌≤◌, ◌==◌, ℕ, Bool, true, false, if◌then◌else◌, List, [], ◌∷◌, length, Option, Some, None}
use Rattle.std.proofs.Common.{refl, sym, ap, ◌∙◌, subst, inl, inr, arith, eqb-true}
use Rattle.std.proofs.lemmas.Bool.{eq-eqb}
use Rattle.wasm_sections_items.specs.frames.Outer.{Part, rank, with_rank, ranks, Ascends, Counts, IsAbsent, Declares, Defines}
use Rattle.wasm_sections_items.specs.frames.Outer as outer
use Rattle.wasm_sections_parser.specs.Steps.{place_of}
use Rattle.wasm_module_validator_rules_in_order.specs.rules.Binary.{contents, entries_of}
use Rattle.wasm_module_validator_rules_in_order.specs.Sections.{Section, number, place, code_place}
use Rattle.wasm_module_validator_rules_in_order.specs.Sections as section
use Rattle.wasm_module_validator_rules_in_order.specs.laws.Places.{has_place}

-- ---- places of sections

pub has_rank : (s : Section) → rank (number s) ≡ Some (place s)
has_rank section.types = refl
has_rank section.imports = refl
has_rank section.functions = refl
has_rank section.tables = refl
has_rank section.memories = refl
has_rank section.tags = refl
has_rank section.globals = refl
has_rank section.exports = refl
has_rank section.start = refl
has_rank section.element_segments = refl
has_rank section.data_count = refl
has_rank section.data_segments = refl

-- places are counted from 1 to 13
pub some_place : (s : Section) → (0 < place s) × (place s ≤ 13)
some_place section.types = omega arith
some_place section.imports = omega arith
some_place section.functions = omega arith
some_place section.tables = omega arith
some_place section.memories = omega arith
some_place section.tags = omega arith
some_place section.globals = omega arith
some_place section.exports = omega arith
some_place section.start = omega arith
some_place section.element_segments = omega arith
some_place section.data_count = omega arith
some_place section.data_segments = omega arith

-- sections of one id have one place
pub same_place : (s t : Section) → number s ≡ number t → place s ≡ place t
same_place s t e = sym (has_place s) ∙ (ap place_of e ∙ has_place t)

-- ---- contents of sections

module _ (id : ℕ) (c : List ℕ) (ps : List Part) (n : ℕ) where
  pub contents_here : id ≡ n → contents n (outer.section id c ∷ ps) ≡ Some c
  contents_here e = ap (λ (b : Bool). if b then Some c else contents n ps) (eq-eqb id n e)

  pub contents_behind : (id ≡ n → ⊥) → contents n (outer.section id c ∷ ps) ≡ contents n ps
  contents_behind f = by (id == n) refl
    where
      by : (b : Bool) → (id == n) ≡ b → (if b then Some c else contents n ps) ≡ contents n ps
      by true e = absurd (f (eqb-true id n e))
      by false e = refl

-- ---- order

-- whatever place the first of some parts has, those behind it ascend from one that is no lower
behind_rank : (o : Option ℕ) (l : ℕ) (rs : List ℕ) → Ascends l (with_rank o rs) → (k : ℕ) × (l ≤ k) × Ascends k rs
behind_rank None l rs a = (l, omega arith, a)
behind_rank (Some r) l rs a = (r, omega (arith, a.0), a.1)

-- a section stands above what is before it, and below what is behind it
pub ascends_at : (s : Section) (id l : ℕ) (ps : List Part) → id ≡ number s → Ascends l (with_rank (rank id) (ranks ps))
    → (l < place s) × Ascends (place s) (ranks ps)
ascends_at s id l ps e a = subst (λ (o : Option ℕ). Ascends l (with_rank o (ranks ps))) (ap rank e ∙ has_rank s) a

-- behind a place there is no section of it or of a lower one
pub not_there : (t : Section) (l : ℕ) (ps : List Part) → place t ≤ l → Ascends l (ranks ps) → contents (number t) ps ≡ None
not_there t l [] le a = refl
not_there t l (outer.custom name c ∷ ps) le a = not_there t l ps le a
not_there t l (outer.code es ∷ ps) le a = not_there t 12 ps (omega (arith, le, a.0)) a.1
not_there t l (outer.section id c ∷ ps) le a =
    let k = behind_rank (rank id) l (ranks ps) a in
    contents_behind id c ps (number t) another ∙ not_there t k.0 ps (omega (arith, le, k.1)) k.2
  where
    another : id ≡ number t → ⊥
    another e =
        let b = ascends_at t id l ps e a in
        omega (arith, le, b.0)

-- behind the place of the code section there are no bodies
pub no_entries : (l : ℕ) (ps : List Part) → code_place ≤ l → Ascends l (ranks ps) → entries_of ps ≡ []
no_entries l [] le a = refl
no_entries l (outer.custom name c ∷ ps) le a = no_entries l ps le a
no_entries l (outer.code es ∷ ps) le a = absurd (omega (arith, le, a.0))
no_entries l (outer.section id c ∷ ps) le a =
    let k = behind_rank (rank id) l (ranks ps) a in
    no_entries k.0 ps (omega (arith, le, k.1)) k.2

-- ---- counts

-- as many bodies as are said to stand in the code section
pub defined_entries : (n : ℕ) (ps : List Part) → Defines n ps → n ≡ length (entries_of ps)
defined_entries n [] h = h
defined_entries n (outer.custom name c ∷ ps) h = defined_entries n ps h
defined_entries n (outer.code es ∷ ps) h = h
defined_entries n (outer.section id c ∷ ps) h = defined_entries n ps h

-- a section that is absent has no contents
pub absent_contents : (n : ℕ) (ps : List Part) → IsAbsent n ps → contents n ps ≡ None
absent_contents n [] h = refl
absent_contents n (outer.custom name c ∷ ps) h = absent_contents n ps h.1
absent_contents n (outer.code es ∷ ps) h = absent_contents n ps h.1
absent_contents n (outer.section id c ∷ ps) h = contents_behind id c ps n h.0 ∙ absent_contents n ps h.1

-- what a count is said of are the contents of the section, since it comes once
pub declared_contents : (t : Section) (n l : ℕ) (ps : List Part) → Ascends l (ranks ps) → Declares (number t) n ps
    → (c : List ℕ) × (contents (number t) ps ≡ Some c) × Counts n c
declared_contents t n l [] a h = absurd h
declared_contents t n l (outer.custom name c ∷ ps) a h = declared_contents t n l ps a h
declared_contents t n l (outer.code es ∷ ps) a h = declared_contents t n 12 ps a.1 h
declared_contents t n l (outer.section id c ∷ ps) a (inl h) = (c, contents_here id c ps (number t) h.0, h.1)
declared_contents t n l (outer.section id c ∷ ps) a (inr h) =
    let k = behind_rank (rank id) l (ranks ps) a in
    let d = declared_contents t n k.0 ps k.2 h in
    (d.0, contents_behind id c ps (number t) (once d.0 d.1) ∙ d.1, d.2)
  where
    once : (b : List ℕ) → contents (number t) ps ≡ Some b → id ≡ number t → ⊥
    once b e f =
        let none : None ≡ Some b = sym (not_there t (place t) ps (omega arith) (ascends_at t id l ps f a).1) ∙ e in
        absurd cc
