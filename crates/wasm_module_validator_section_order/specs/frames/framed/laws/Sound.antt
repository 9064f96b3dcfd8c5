-- Frames of a module that were judged one after the other: its sections spell what was read, and it is valid where its bodies are.
use Rattle.std.proofs.Common.{◌≡◌, ◌⊎◌, ◌<◌, ◌≤◌, ℕ, List, [], ◌∷◌, ◌++◌, Option, Some, None, refl, sym, ap, ◌∙◌, subst, inl, inr, arith}
use Rattle.std.specs.List.{AllZip}
use Rattle.std.proofs.lemmas.Bool.{cases_lt, cases_order}
use Rattle.std.proofs.lemmas.List.{append-nil, append_assoc}
use Rattle.wasm_sections_items.specs.frames.Outer.{Part, rank, AreKnown}
use Rattle.wasm_sections_items.specs.frames.Outer as outer
use Rattle.wasm_sections_parser.specs.Steps.{Shape}
use Rattle.wasm_sections_parser.specs.Steps as frame
use Rattle.wasm_sections_parser.specs.runs.calls.Runs.{entries, Framed, AreFramed}
use Rattle.wasm_sections_parser.specs.runs.Modules.{IsModule}
use Rattle.wasm_types.specs.settings.Settings.{Settings}
use Rattle.wasm_module_validator_rules_in_order.specs.rules.Syntax.{Function, ModuleTree}
use Rattle.wasm_module_validator_rules_in_order.specs.rules.Spaces.{module_of}
use Rattle.wasm_module_validator_rules_in_order.specs.rules.Binary.{SpelledFunction, SpelledModule, SpelledModuleWith, contents, entries_of}
use Rattle.wasm_module_validator_rules_in_order.specs.rules.Valid.{HasValidBody}
use Rattle.wasm_module_validator_rules_in_order.specs.contexts.InOrder.{IsValidInOrder}
use Rattle.wasm_module_validator_rules_in_order.specs.Sections.{Section, number, place, code_place, up_to}
use Rattle.wasm_module_validator_rules_in_order.specs.Texts.{SpelledSection}
use Rattle.wasm_module_validator_rules_in_order.specs.Steps.{SoFar, nothing, JudgesSection, JudgesShapes, IsJudged}
use Rattle.wasm_module_validator_rules_in_order.specs.laws.Fronts.{one_place, same_up_to, spelled_up_to, unread_is_spelled}
use Rattle.wasm_module_validator_rules_in_order.specs.laws.Judged.{judged_split, nothing_is_judged, shapes_keep, shapes_stay, text_by_sections_with}
use Rattle.wasm_module_validator_rules_in_order.specs.laws.Judged.{judged_in_order}
use Rattle.wasm_module_validator_section_order.specs.frames.framed.laws.Parts.{has_rank, some_place, same_place, contents_here, contents_behind}

-- ---- the frames of one part

-- what was read with a code section of these bodies
abbrev pub with_bodies : SoFar → List (List ℕ) → SoFar
with_bodies p es = record p { last = code_place; bodies = p.bodies ++ es }

-- the frames of a part come behind p, and r is what was read then
abbrev JudgesPart : Settings → SoFar → Part → SoFar → Type 0
JudgesPart z p (outer.custom name c) r = r ≡ p
JudgesPart z p (outer.section id c) r = (s : Section) × (id ≡ number s) × JudgesSection z p s c r
JudgesPart z p (outer.code es) r = (p.last < code_place) × (r ≡ with_bodies p es)

module _ (z : Settings) where
  entries_judged : (es : List (List ℕ)) (p q : SoFar) → JudgesShapes z p (entries es) q → q ≡ record p { bodies = p.bodies ++ es }
  entries_judged [] p q j = sym j ∙ λ i. record p { bodies = sym (append-nil p.bodies) i }
  entries_judged (e ∷ es) p q j =
      entries_judged es j.0 q j.2 ∙ (ap (λ (r : SoFar). record r { bodies = r.bodies ++ es }) j.1.added
      ∙ ap (λ (b : List (List ℕ)). record p { bodies = b }) (append_assoc p.bodies (e ∷ []) es))

  part_judged : (x : Part) (text : List ℕ) (fs : List Shape) (p r : SoFar) → Framed z x text fs → JudgesShapes z p fs r → JudgesPart z p x r
  part_judged (outer.custom name c) text fs p r f j =
      let k : JudgesShapes z p (frame.custom name c ∷ []) r = subst (λ (ys : List Shape). JudgesShapes z p ys r) f.1 j in
      sym k.2 ∙ k.1
  part_judged (outer.section id c) text fs p r f j =
      let k : JudgesShapes z p (frame.section id c ∷ []) r = subst (λ (ys : List Shape). JudgesShapes z p ys r) f.1 j in
      subst (JudgesPart z p (outer.section id c)) k.2 k.1
  part_judged (outer.code es) text fs p r f j =
      let k = subst (λ (ys : List Shape). JudgesShapes z p ys r) f.1 j in
      (k.1.0, entries_judged es k.0 r k.2 ∙ ap (λ (v : SoFar). record v { bodies = v.bodies ++ es }) k.1.1)

-- ---- sections behind what was judged

-- What the parts behind p are, where q is what was read at the end: only sections that there are, each above the last one of p; their
-- contents spell what q has of them; and their bodies are those of q.
pub record Seen (z : Settings) (p : SoFar) (ps : List Part) (q : SoFar) : Type 0 where
  pub known : AreKnown ps
  pub absent : (t : Section) → place t ≤ p.last → contents (number t) ps ≡ None
  pub spelled : (t : Section) → p.last < place t → SpelledSection z t q.tree (contents (number t) ps)
  pub late : code_place ≤ p.last → entries_of ps ≡ []
  pub bodies : q.bodies ≡ p.bodies ++ entries_of ps

-- what was read up to a section is spelled by the same contents in both
spelled_alike : (z : Settings) (t : Section) (m n : ModuleTree) (o : Option (List ℕ)) → up_to t m ≡ up_to t n
    → SpelledSection z t m o → SpelledSection z t n o
spelled_alike z t m n o e h = (spelled_up_to z t n o).1 (subst (λ (k : ModuleTree). SpelledSection z t k o) e ((spelled_up_to z t m o).0 h))

module _ (z : Settings) where
  nothing_more : (p : SoFar) → IsJudged z p → Seen z p [] p
  nothing_more p k = record {
    known = tt;
    absent = λ t l. refl;
    spelled = λ t l. unread_is_spelled z t p.tree (k.unread t l);
    late = λ l. refl;
    bodies = sym (append-nil p.bodies);
  }

  custom_seen : (name c : List ℕ) (p : SoFar) (ps : List Part) (q : SoFar) → Seen z p ps q → Seen z p (outer.custom name c ∷ ps) q
  custom_seen name c p ps q h = record {
    known = (inl refl, h.known);
    absent = h.absent;
    spelled = h.spelled;
    late = h.late;
    bodies = h.bodies;
  }

  -- a section that was passed over is absent
  passed_over : (t : Section) (p : SoFar) (ps : List Part) (q : SoFar) → IsJudged z p → p.last < place t → contents (number t) ps ≡ None
      → up_to t p.tree ≡ up_to t q.tree → SpelledSection z t q.tree (contents (number t) ps)
  passed_over t p ps q k l none e =
      subst (SpelledSection z t q.tree) (sym none) (spelled_alike z t p.tree q.tree None e (unread_is_spelled z t p.tree (k.unread t l)))

  code_seen : (es : List (List ℕ)) (p : SoFar) (ps : List Part) (q : SoFar) → IsJudged z p → p.last < code_place
      → ((t : Section) → place t ≤ code_place → up_to t p.tree ≡ up_to t q.tree) → Seen z (with_bodies p es) ps q
      → Seen z p (outer.code es ∷ ps) q
  code_seen es p ps q k lt stay h = record {
    known = (inr (12, refl), h.known);
    absent = λ t l. h.absent t (omega (arith, l, lt));
    spelled = λ t l. by t l (cases_lt code_place (place t));
    late = λ l. absurd (omega (arith, l, lt));
    bodies = h.bodies ∙ (ap (λ (x : List (List ℕ)). (p.bodies ++ es) ++ x) (h.late (omega arith)) ∙ append-nil (p.bodies ++ es));
  }
    where
      by : (t : Section) → p.last < place t → (code_place < place t) ⊎ (place t ≤ code_place)
          → SpelledSection z t q.tree (contents (number t) ps)
      by t l (inl more) = h.spelled t more
      by t l (inr le) = passed_over t p ps q k l (h.absent t le) (stay t le)

  module _ (id : ℕ) (c : List ℕ) (s : Section) (e : id ≡ number s) (p r : SoFar) (ps : List Part) (q : SoFar) (d : JudgesSection z p s c r)
      (k : IsJudged z p) (stay : (t : Section) → place t ≤ r.last → up_to t r.tree ≡ up_to t q.tree) (h : Seen z r ps q) where
    another : (t : Section) → (place s ≡ place t → ⊥) → contents (number t) (outer.section id c ∷ ps) ≡ contents (number t) ps
    another t f = contents_behind id c ps (number t) (λ g. f (same_place s t (sym e ∙ g)))

    -- by where the place of a section stands beside that of s
    by_place : (t : Section) → p.last < place t → (place t ≡ place s) ⊎ ((place t < place s) ⊎ (place s < place t))
        → SpelledSection z t q.tree (contents (number t) (outer.section id c ∷ ps))
    by_place t l (inl same) =
        let t_is_s : t ≡ s = one_place t s same in
        let here : SpelledSection z s q.tree (Some c) =
        spelled_alike z s r.tree q.tree (Some c) (stay s (omega (arith, d.last))) d.spelled in
        subst (SpelledSection z t q.tree) (sym (contents_here id c ps (number t) (e ∙ sym (ap number t_is_s))))
        (subst (λ (u : Section). SpelledSection z u q.tree (Some c)) (sym t_is_s) here)
    by_place t l (inr (inl less)) =
        passed_over t p (outer.section id c ∷ ps) q k l (another t (λ f. omega (arith, f, less)) ∙ h.absent t (omega (arith, less, d.last)))
        (same_up_to t s p.tree r.tree less d.added ∙ stay t (omega (arith, less, d.last)))
    by_place t l (inr (inr more)) =
        subst (SpelledSection z t q.tree) (sym (another t (λ f. omega (arith, f, more)))) (h.spelled t (omega (arith, more, d.last)))

    section_seen : Seen z p (outer.section id c ∷ ps) q
    section_seen = record {
      known = (inr (place s, ap rank e ∙ has_rank s), h.known);
      absent = λ t l. another t (λ f. omega (arith, f, l, d.ordered)) ∙ h.absent t (omega (arith, l, d.ordered, d.last));
      spelled = λ t l. by_place t l (cases_order (place t) (place s));
      late = λ l. h.late (omega (arith, l, d.ordered, d.last));
      bodies = h.bodies ∙ ap (λ (b : List (List ℕ)). b ++ entries_of ps) d.bodies;
    }

  part_seen : (x : Part) (p r : SoFar) (ps : List Part) (q : SoFar) → JudgesPart z p x r → IsJudged z p
      → ((t : Section) → place t ≤ r.last → up_to t r.tree ≡ up_to t q.tree) → Seen z r ps q → Seen z p (x ∷ ps) q
  part_seen (outer.custom name c) p r ps q j k stay h = custom_seen name c p ps q (subst (λ (v : SoFar). Seen z v ps q) j h)
  part_seen (outer.section id c) p r ps q j k stay h = section_seen id c j.0 j.1 p r ps q j.2 k stay h
  part_seen (outer.code es) p r ps q j k stay h =
      code_seen es p ps q k j.0 (subst (λ (v : SoFar). (t : Section) → place t ≤ v.last → up_to t v.tree ≡ up_to t q.tree) j.1 stay)
      (subst (λ (v : SoFar). Seen z v ps q) j.1 h)

  parts_seen : (ps : List Part) (text : List ℕ) (xs : List Shape) (p q : SoFar) → AreFramed z ps text xs → IsJudged z p
      → JudgesShapes z p xs q → Seen z p ps q
  parts_seen [] text xs p q f k j =
      let same : p ≡ q = subst (λ (ys : List Shape). JudgesShapes z p ys q) f.1 j in
      subst (Seen z p []) same (nothing_more p k)
  parts_seen (x ∷ ps) text xs p q f k j =
      let both = judged_split z f.2 f.3 p q (subst (λ (ys : List Shape). JudgesShapes z p ys q) f.7 j) in
      let r = both.0 in
      part_seen x p r ps q (part_judged z x f.0 f.2 p r f.4 both.1) k (shapes_stay z f.3 r q both.2).1
      (parts_seen ps f.1 f.3 r q f.5 (shapes_keep z f.2 p r k both.1) both.2)

-- ---- modules

-- the header and the sections of a module whose frames were judged
pub module_seen : (z : Settings) (text : List ℕ) (xs : List Shape) (q : SoFar) (m : IsModule z text xs) → JudgesShapes z nothing xs q
    → (m.outer.header.version ≡ 1) × (m.outer.header.layer ≡ 0) × Seen z nothing m.outer.parts q
module_seen z text xs q m j =
    let k : JudgesShapes z nothing (frame.version m.outer.header ∷ m.frames.shapes) q =
    subst (λ (ys : List Shape). JudgesShapes z nothing ys q) m.frames.frames j in
    let others : JudgesShapes z nothing m.frames.shapes q = subst (λ (v : SoFar). JudgesShapes z v m.frames.shapes q) k.1.2 k.2 in
    (k.1.0, k.1.1, parts_seen z m.outer.parts m.frames.parts_text m.frames.shapes nothing q m.frames.framed (nothing_is_judged z) others)

pub judged_is_spelled_with : (Bodies : List (List ℕ) → Type 0) (z : Settings) (text : List ℕ) (xs : List Shape) (q : SoFar)
    (cs : List Function) → IsModule z text xs → JudgesShapes z nothing xs q → Bodies q.bodies
    → SpelledModuleWith Bodies z (record q.tree { code = cs }) text
judged_is_spelled_with Bodies z text xs q cs m j bodies =
    let n : ModuleTree = record q.tree { code = cs } in
    let seen = module_seen z text xs q m j in
    let h = seen.2 in
    record {
      outer = m.outer;
      framed = m.spelled;
      core = record { version = seen.0; layer = seen.1; known = h.known; ordered = m.ordered; counts = m.counts };
      sections = (text_by_sections_with z n m.outer.parts Bodies).1 (
        λ s. spelled_alike z s q.tree n (contents (number s) m.outer.parts) refl (h.spelled s (some_place s).0),
        subst Bodies h.bodies bodies,
      );
    }

pub judged_is_spelled : (z : Settings) (text : List ℕ) (xs : List Shape) (q : SoFar) (cs : List Function) → IsModule z text xs
    → JudgesShapes z nothing xs q
    → AllZip (SpelledFunction z) cs q.bodies → SpelledModule z (record q.tree { code = cs }) text
judged_is_spelled z text xs q cs m j bodies = judged_is_spelled_with (AllZip (SpelledFunction z) cs) z text xs q cs m j bodies

pub judged_is_valid : (z : Settings) (xs : List Shape) (q : SoFar) (cs : List Function) → JudgesShapes z nothing xs q
    → AllZip (HasValidBody z (module_of q.tree)) q.tree.functions cs → IsValidInOrder z (record q.tree { code = cs })
judged_is_valid z xs q cs j bodies = judged_in_order z q cs (shapes_keep z xs nothing q (nothing_is_judged z) j) bodies
