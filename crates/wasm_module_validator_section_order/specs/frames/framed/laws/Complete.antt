-- A module that is spelled and valid has frames that are judged one after the other.
use Rattle.std.proofs.Common.{◌≡◌, ◌⊎◌, ◌+◌, ◌<◌, ◌≤◌, ℕ, true, List, [], ◌∷◌, ◌++◌, length, Option, Some, None, refl, sym, ap, ◌∙◌, subst}
use Rattle.std.proofs.Common.{inl, inr, arith}
use Rattle.std.specs.Prelude.{suc, get_or}
use Rattle.std.specs.List.{AllZip}
use Rattle.std.proofs.lemmas.List.{append-nil, append_assoc, length-append, length_push}
use Rattle.std.proofs.lemmas.Slice.Zip.{AllZip-long}
use Rattle.std.proofs.lemmas.Option.{slice_get-get_or}
use Rattle.wasm_sections_items.specs.frames.Outer.{Part, SpelledPart, rank, with_rank, ranks, Ascends, Counts, AreKnown}
use Rattle.wasm_sections_items.specs.frames.Outer as outer
use Rattle.wasm_sections_parser.specs.Steps.{Shape, or_zero, place_of, has_count}
use Rattle.wasm_sections_parser.specs.Steps as frame
use Rattle.wasm_sections_parser.specs.runs.calls.Runs.{entries, Framed, AreFramed, IsCounted, AreCounted}
use Rattle.wasm_sections_parser.specs.runs.Modules.{IsModule}
use Rattle.wasm_sections_parser.specs.runs.ModuleLaws.{spelled_frames}
use Rattle.wasm_types.specs.settings.Settings.{Settings}
use Rattle.wasm_module_validator_rules_in_order.specs.rules.Syntax.{ModuleTree}
use Rattle.wasm_module_validator_rules_in_order.specs.rules.Spaces.{module_of}
use Rattle.wasm_module_validator_rules_in_order.specs.rules.Binary.{SpelledFunction, SpelledNumber, SpelledModule, SpelledModuleWith, contents, entries_of}
use Rattle.wasm_module_validator_rules_in_order.specs.rules.Valid.{Each, HasValidBody, IsValid}
use Rattle.wasm_module_validator_rules_in_order.specs.rules.OutsideLaws.{each_within}
use Rattle.wasm_module_validator_rules_in_order.specs.contexts.InOrder.{IsValidInOrderWith}
use Rattle.wasm_module_validator_rules_in_order.specs.contexts.laws.InOrder.{valid_in_order}
use Rattle.wasm_module_validator_rules_in_order.specs.contexts.laws.Lists.{each_right}
use Rattle.wasm_module_validator_rules_in_order.specs.Sections.{Section, number, place, code_place, front, up_to}
use Rattle.wasm_module_validator_rules_in_order.specs.Sections as section
use Rattle.wasm_module_validator_rules_in_order.specs.Texts.{SpelledSection}
use Rattle.wasm_module_validator_rules_in_order.specs.Steps.{SoFar, nothing, JudgesSection, JudgesShapes}
use Rattle.wasm_module_validator_rules_in_order.specs.laws.Places.{no_other_places}
use Rattle.wasm_module_validator_rules_in_order.specs.laws.Fronts.{absent_between}
use Rattle.wasm_module_validator_rules_in_order.specs.laws.Judged.{judged_joined, order_by_sections, text_by_sections_with, section_comes}
use Rattle.wasm_module_validator_section_order.specs.frames.framed.laws.Parts.{some_place, same_place, contents_here, contents_behind}
use Rattle.wasm_module_validator_section_order.specs.frames.framed.laws.Parts.{ascends_at, not_there, no_entries}
use Rattle.wasm_module_validator_section_order.specs.frames.framed.laws.Sound.{with_bodies}

-- ---- bodies

-- bodies come behind p, where there are functions for all of them
entries_come : (z : Settings) (es : List (List ℕ)) (p : SoFar) → p.last ≡ code_place
    → Each (λ (t : List ℕ). length t ≤ z.limits.body_bytes) es
    → length p.bodies + length es ≤ length p.tree.functions → JudgesShapes z p (entries es) (record p { bodies = p.bodies ++ es })
entries_come z [] p here within few = λ i. record p { bodies = sym (append-nil p.bodies) i }
entries_come z (e ∷ es) p here within few =
    let r : SoFar = record p { bodies = p.bodies ++ e ∷ [] } in
    let rest : JudgesShapes z r (entries es) (record p { bodies = (p.bodies ++ e ∷ []) ++ es }) =
    entries_come z es r here within.1 (omega (arith, few, length_push p.bodies e)) in
    let there =
    subst (λ (b : List (List ℕ)). JudgesShapes z r (entries es) (record p { bodies = b })) (append_assoc p.bodies (e ∷ []) es) rest in
    let type : ℕ = get_or p.tree.functions (length p.bodies) 0 in
    let function = slice_get-get_or p.tree.functions (length p.bodies) 0 (omega (arith, few)) in
    (r, record { begun = here; within = within.0; type = type; function = function; added = refl }, there)

-- ---- what is left

-- The parts that are left behind p of a module: p has what stands up to its last section; they are in order and known; their contents
-- spell what else the module has, and the bodies of p with theirs are all of these.
record Left (z : Settings) (m : ModuleTree) (all : List (List ℕ)) (p : SoFar) (ps : List Part) : Type 0 where
  tree : p.tree ≡ front (suc p.last) m
  bound : p.last ≤ 13
  ordered : Ascends p.last (ranks ps)
  known : AreKnown ps
  sections : (t : Section) → p.last < place t → SpelledSection z t m (contents (number t) ps)
  bodies : p.bodies ++ entries_of ps ≡ all

-- the frames of a part come behind p, the count of its contents can be read, and less is left
record ComesPart (z : Settings) (m : ModuleTree) (all : List (List ℕ)) (p : SoFar) (x : Part) (fs : List Shape) (ps : List Part) : Type 0 where
  next : SoFar
  judged : JudgesShapes z p fs next
  counted : IsCounted x
  left : Left z m all next ps

-- ---- the next part

-- the contents of some sections begin with a count
counted_section : (z : Settings) (s : Section) (m : ModuleTree) (c : List ℕ) → SpelledSection z s m (Some c)
    → has_count (number s) ≡ true → (k : ℕ) × Counts k c
counted_section z section.types m c h b = absurd cc
counted_section z section.imports m c h b = absurd cc
counted_section z section.functions m c h b =
    (length m.functions, record { count = h.count; items = h.values; counted = h.counted; whole = h.whole })
counted_section z section.tables m c h b = absurd cc
counted_section z section.memories m c h b = absurd cc
counted_section z section.tags m c h b = absurd cc
counted_section z section.globals m c h b = absurd cc
counted_section z section.exports m c h b = absurd cc
counted_section z section.start m c h b = absurd cc
counted_section z section.element_segments m c h b = absurd cc
counted_section z section.data_count m c h b = itself m.data_count h
  where
    itself : (o : Option ℕ) → SpelledNumber o (Some c) → (k : ℕ) × Counts k c
    itself None k = absurd k
    itself (Some n) k = (n, record { count = c; items = []; counted = k; whole = sym (append-nil c) })
counted_section z section.data_segments m c h b =
    (length m.data_segments, record { count = h.count; items = h.values; counted = h.counted; whole = h.whole })

module _ {Bodies : Type 0} (z : Settings) (m : ModuleTree) (v : IsValidInOrderWith Bodies z m) (all : List (List ℕ))
    (each : Each (λ (t : List ℕ). length t ≤ z.limits.body_bytes) all) (functions : length all ≤ length m.functions) where
  custom_comes : (name c text : List ℕ) (fs : List Shape) (p : SoFar) (ps : List Part) → Framed z (outer.custom name c) text fs
      → Left z m all p (outer.custom name c ∷ ps) → ComesPart z m all p (outer.custom name c) fs ps
  custom_comes name c text fs p ps f h = record {
    next = p;
    judged = subst (λ (ys : List Shape). JudgesShapes z p ys p) (sym f.1) (p, refl, refl);
    counted = tt;
    left = record { tree = h.tree; bound = h.bound; ordered = h.ordered; known = h.known.1; sections = h.sections; bodies = h.bodies };
  }

  -- a section that is there
  module _ (id : ℕ) (c : List ℕ) (s : Section) (e : id ≡ number s) (p : SoFar) (ps : List Part)
      (h : Left z m all p (outer.section id c ∷ ps)) where
    order : (p.last < place s) × Ascends (place s) (ranks ps)
    order = ascends_at s id p.last ps e h.ordered

    another : (t : Section) → (place s ≡ place t → ⊥) → contents (number t) (outer.section id c ∷ ps) ≡ contents (number t) ps
    another t f = contents_behind id c ps (number t) (λ g. f (same_place s t (sym e ∙ g)))

    between : (t : Section) → suc p.last ≤ place t → place t < place s → SpelledSection z t m None
    between t l k =
        let none = another t (λ f. omega (arith, f, k)) ∙ not_there t (place s) ps (omega (arith, k)) order.1 in
        subst (SpelledSection z t m) none (h.sections t l)

    spelled : SpelledSection z s m (Some c)
    spelled = subst (SpelledSection z s m) (contents_here id c ps (number s) e) (h.sections s order.0)

    section_next : SoFar
    section_next = record { last = place s; tree = up_to s m; bodies = p.bodies }

    judges_section : JudgesSection z p s c section_next
    unfolding section_next
    judges_section =
        let tree = h.tree ∙ absent_between z (suc p.last) (place s) m (omega (arith, order.0)) between in
        section_comes z s m p c v tree order.0 spelled

    section_left : Left z m all section_next ps
    unfolding section_next
    section_left = record {
      tree = refl;
      bound = (some_place s).1;
      ordered = order.1;
      known = h.known.1;
      sections = λ t l. subst (SpelledSection z t m) (another t (λ f. omega (arith, f, l))) (h.sections t (omega (arith, l, order.0)));
      bodies = h.bodies;
    }

    section_part : (text : List ℕ) (fs : List Shape) → Framed z (outer.section id c) text fs → ComesPart z m all p (outer.section id c) fs ps
    section_part text fs f = record {
      next = section_next;
      judged = subst (λ (ys : List Shape). JudgesShapes z p ys section_next) (sym f.1) (section_next, (s, e, judges_section), refl);
      counted = λ b. counted_section z s m c spelled (ap has_count (sym e) ∙ b);
      left = section_left;
    }

  -- the section of an id
  which : (id : ℕ) (c text : List ℕ) (p : SoFar) (ps : List Part) → SpelledPart z (outer.section id c) text
      → Left z m all p (outer.section id c ∷ ps) → (s : Section) × (id ≡ number s)
  which id c text p ps f h = by (no_other_places id) h.known.0
    where
      by : (place_of id ≡ 0) ⊎ ((id ≡ 10) ⊎ ((s : Section) × (id ≡ number s)))
          → (id ≡ outer.custom_id) ⊎ ((r : ℕ) × (rank id ≡ Some r)) → (s : Section) × (id ≡ number s)
      by a (inl e) = absurd (f.0 e)
      by (inl none) (inr k) =
          let o : (p.last < k.0) × Ascends k.0 (ranks ps) =
          subst (λ (o : Option ℕ). Ascends p.last (with_rank o (ranks ps))) k.1 h.ordered in
          let zero : 0 ≡ k.0 = sym none ∙ ap or_zero k.1 in
          absurd (omega (arith, zero, o.0))
      by (inr (inl e)) (inr k) = absurd (f.1 e)
      by (inr (inr s)) (inr k) = s

  -- the code section
  module _ (es : List (List ℕ)) (p : SoFar) (ps : List Part) (h : Left z m all p (outer.code es ∷ ps)) where
    none : entries_of ps ≡ []
    none = no_entries 12 ps (omega arith) h.ordered.1

    code_left : Left z m all (with_bodies p es) ps
    code_left = record {
      tree = h.tree ∙ absent_between z (suc p.last) 13 m (omega (arith, h.ordered.0))
          (λ t l k. subst (SpelledSection z t m) (not_there t 12 ps (omega (arith, k)) h.ordered.1) (h.sections t l));
      bound = omega arith;
      ordered = h.ordered.1;
      known = h.known.1;
      sections = λ t l. h.sections t (omega (arith, l, h.ordered.0));
      bodies = ap (λ (x : List (List ℕ)). (p.bodies ++ es) ++ x) none ∙ (append-nil (p.bodies ++ es) ∙ h.bodies);
    }

    code_judged : (count size : ℕ) → JudgesShapes z p (frame.code count size ∷ entries es) (with_bodies p es)
    code_judged count size =
        let IsWithin : List ℕ → Type 0 = λ t. length t ≤ z.limits.body_bytes in
        let within = each_right IsWithin p.bodies es (subst (Each IsWithin) (sym h.bodies) each) in
        let spelled : length (p.bodies ++ es) ≡ length all = ap length h.bodies in
        let known : length p.tree.functions ≡ length m.functions = ap (λ (n : ModuleTree). length n.functions) code_left.tree in (
          record p { last = code_place },
          (h.ordered.0, refl),
          entries_come z es (record p { last = code_place }) refl within
              (omega (arith, spelled, functions, known, length-append p.bodies es)),
        )

    code_comes : (text : List ℕ) (fs : List Shape) → Framed z (outer.code es) text fs → ComesPart z m all p (outer.code es) fs ps
    code_comes text fs f = record {
      next = with_bodies p es;
      judged =
          subst (λ (ys : List Shape). JudgesShapes z p ys (with_bodies p es)) (sym f.1) (code_judged (length es) (length f.0.2.content));
      counted = tt;
      left = code_left;
    }

  part_comes : (x : Part) (text : List ℕ) (fs : List Shape) (p : SoFar) (ps : List Part) → Framed z x text fs → Left z m all p (x ∷ ps)
      → ComesPart z m all p x fs ps
  part_comes (outer.custom name c) text fs p ps f h = custom_comes name c text fs p ps f h
  part_comes (outer.section id c) text fs p ps f h = let s = which id c text p ps f.0 h in section_part id c s.0 s.1 p ps h text fs f
  part_comes (outer.code es) text fs p ps f h = code_comes es p ps h text fs f

-- ---- modules

-- the frames of parts come behind p, counts can be read, and at the end all was read but the code, and these are the bodies
record Comes (z : Settings) (m : ModuleTree) (all : List (List ℕ)) (p : SoFar) (ps : List Part) (xs : List Shape) : Type 0 where
  last : SoFar
  judged : JudgesShapes z p xs last
  counted : AreCounted ps
  tree : last.tree ≡ record m { code = [] }
  bodies : last.bodies ≡ all

module _ {Bodies : Type 0} (z : Settings) (m : ModuleTree) (v : IsValidInOrderWith Bodies z m) (all : List (List ℕ))
    (each : Each (λ (t : List ℕ). length t ≤ z.limits.body_bytes) all) (functions : length all ≤ length m.functions) where
  parts_come : (ps : List Part) (text : List ℕ) (xs : List Shape) (p : SoFar) → AreFramed z ps text xs → Left z m all p ps
      → Comes z m all p ps xs
  parts_come [] text xs p f h = record {
    last = p;
    judged = subst (λ (ys : List Shape). JudgesShapes z p ys p) (sym f.1) refl;
    counted = tt;
    tree = h.tree ∙ absent_between z (suc p.last) 14 m (omega (arith, h.bound)) (λ t l k. h.sections t l);
    bodies = sym (append-nil p.bodies) ∙ h.bodies;
  }
  parts_come (x ∷ ps) text xs p f h =
      let first = part_comes z m v all each functions x f.0 f.2 p ps f.4 h in
      let rest = parts_come ps f.1 f.3 first.next f.5 first.left in
      record {
        last = rest.last;
        judged =
            subst (λ (ys : List Shape). JudgesShapes z p ys rest.last) (sym f.7)
            (judged_joined z f.2 f.3 p first.next rest.last first.judged rest.judged);
        counted = (first.counted, rest.counted);
        tree = rest.tree;
        bodies = rest.bodies;
      }

-- A module that is spelled, and valid but for its bodies, of which there are no more than functions, each within its limit: its frames are
-- judged, and its entries are the bodies.
pub module_comes_with : {Bodies : Type 0} {Entries : List (List ℕ) → Type 0} (z : Settings) (m : ModuleTree) (text : List ℕ)
    (t : SpelledModuleWith Entries z m text) → IsValidInOrderWith Bodies z m
    → Each (λ (e : List ℕ). length e ≤ z.limits.body_bytes) (entries_of t.outer.parts)
    → length (entries_of t.outer.parts) ≤ length m.functions
    → (xs : List Shape) × IsModule z text xs
    × ((q : SoFar) × JudgesShapes z nothing xs q × (q.tree ≡ record m { code = [] }) × (q.bodies ≡ entries_of t.outer.parts))
module_comes_with {Entries = Entries} z m text t v each functions =
    let framed = spelled_frames z t.outer text t.framed in
    let xs = framed.0 in
    let frames = framed.1 in
    let sections = (text_by_sections_with z m t.outer.parts Entries).0 t.sections in
    let left : Left z m (entries_of t.outer.parts) nothing t.outer.parts = record {
      tree = refl;
      bound = omega arith;
      ordered = t.core.ordered;
      known = t.core.known;
      sections = λ s l. sections.0 s;
      bodies = refl;
    } in
    let h = parts_come z m v (entries_of t.outer.parts) each functions t.outer.parts frames.parts_text frames.shapes nothing frames.framed left in
    let judged : JudgesShapes z nothing (frame.version t.outer.header ∷ frames.shapes) h.last =
    (nothing, (t.core.version, t.core.layer, refl), h.judged) in
    let whole : IsModule z text xs = record {
      outer = t.outer;
      spelled = t.framed;
      frames = frames;
      ordered = t.core.ordered;
      counted = h.counted;
      counts = t.core.counts;
    } in
    (xs, whole, (h.last, subst (λ (ys : List Shape). JudgesShapes z nothing ys h.last) (sym frames.frames) judged, h.tree, h.bodies))

pub module_comes : (z : Settings) (m : ModuleTree) (text : List ℕ) → SpelledModule z m text → IsValid z m
    → (xs : List Shape) × IsModule z text xs
    × ((q : SoFar) × JudgesShapes z nothing xs q × (q.tree ≡ record m { code = [] }) × AllZip (SpelledFunction z) m.code q.bodies)
module_comes z m text t v =
    let order = valid_in_order z m v in
    let code : AllZip (SpelledFunction z) m.code (entries_of t.outer.parts) = t.sections.code in
    let spelled = AllZip-long (SpelledFunction z) m.code (entries_of t.outer.parts) code in
    let typed = AllZip-long (HasValidBody z (module_of m)) m.functions m.code ((order_by_sections z m).0 order).1 in
    let h = module_comes_with z m text t order (each_within z m.code (entries_of t.outer.parts) code) (omega (arith, spelled, typed)) in
    (h.0, h.1, (h.2.0, h.2.1, h.2.2, subst (AllZip (SpelledFunction z) m.code) (sym h.2.3) code))
