-- What is spelled at the front of a text, whole sections and then nothing or a part of a code section, is what a run gives; and
-- what a run gives is spelled so.
use Rattle.std.proofs.Common.{◌≡◌, ◌⊎◌, inl, inr, ℕ, ◌+◌, ◌<◌, ◌^◌, List, [], ◌∷◌, ◌++◌, length, refl, sym, ap, ◌∙◌, subst, append_assoc, arith, true, false, Option, Some, None}
use Rattle.std.proofs.lemmas.List.{length-append}
use Rattle.wasm_types.specs.settings.Settings.{Settings}
use Rattle.wasm_types.specs.decoding.Decoder.{State, Takes}
use Rattle.wasm_types.specs.decoding.Laws.{takes_none, Takes-then}
use Rattle.wasm_types.specs.decoding.ExactLaws.{same_state}
use Rattle.wasm_sections_items.specs.frames.Outer as outer
use Rattle.wasm_sections_items.specs.frames.Outer.{Part, Outer, id_of, rank, with_rank, ranks, Ascends, DeclaresOrAbsent}
use Rattle.wasm_sections_parser.specs.declared.progress.Progress.{Progress}
use Rattle.wasm_sections_parser.specs.Steps.{Shape, version, code, in_code, begun, is_late}
use Rattle.wasm_sections_parser.specs.Parsing.{between}
use Rattle.wasm_sections_parser.specs.runs.steps.StepCases.{step_between}
use Rattle.wasm_sections_parser.specs.runs.steps.StepsComplete.{start_next_is}
use Rattle.wasm_sections_parser.specs.runs.steps.OrderLaws.{in_order, order_gives}
use Rattle.wasm_sections_parser.specs.runs.steps.NoteLaws.{functions_are}
use Rattle.wasm_sections_parser.specs.runs.steps.CompareLaws.{read_noted, front_compares, read_fits, read_functions}
use Rattle.wasm_sections_parser.specs.runs.calls.Runs.{fresh, Run, entries, Frames, AreNoted, Opened, IsBetween, IsOpen}
use Rattle.wasm_sections_parser.specs.runs.Modules.{Begun, IsFront, IsClosed, IsCut, IsSpelledFront, IsStart}
use Rattle.wasm_sections_parser.specs.runs.RunsComplete.{entries_run, run_then, noted_last, module_run}
use Rattle.wasm_sections_parser.specs.runs.ModuleLaws.{noted_counted}

-- ---- the place of a code section

-- the first of ordered sections are ordered
ordered_front : (ps qs : List Part) (low : ℕ) → Ascends low (ranks (ps ++ qs)) → Ascends low (ranks ps)
ordered_front [] qs low h = tt
ordered_front (x ∷ ps) qs low h = go (rank (id_of x)) (λ l. ordered_front ps qs l) h
  where
    go : (o : Option ℕ) → ((l : ℕ) → Ascends l (ranks (ps ++ qs)) → Ascends l (ranks ps)) → Ascends low (with_rank o (ranks (ps ++ qs))) → Ascends low (with_rank o (ranks ps))
    go None rest k = rest low k
    go (Some r) rest k = (k.0, rest r k.1)

-- behind sections in order, a code section that is in order too is not late
not_late : (ps : List Part) (es : List (List ℕ)) (p q : Progress) → AreNoted p ps q → Ascends p.last (ranks (ps ++ outer.code es ∷ [])) → is_late q outer.code_id ≡ false
not_late [] es p q h o = sym (ap (λ (v : Progress). is_late v outer.code_id) h) ∙ (order_gives p.last outer.code_id [] o).0
not_late (x ∷ ps) es p q h o =
    let g = order_gives p.last (id_of x) (ranks (ps ++ outer.code es ∷ [])) o in
    not_late ps es h.0 q h.2 (subst (λ (l : ℕ). Ascends l (ranks (ps ++ outer.code es ∷ []))) (sym (noted_last p h.0 x h.1)) g.1)

-- and one that is not late is in order
in_place : (ps : List Part) (es : List (List ℕ)) (p q : Progress) → AreNoted p ps q → Ascends p.last (ranks ps) → is_late q outer.code_id ≡ false → Ascends p.last (ranks (ps ++ outer.code es ∷ []))
in_place [] es p q h o late = in_order p.last outer.code_id [] (ap (λ (v : Progress). is_late v outer.code_id) h ∙ late) tt
in_place (x ∷ ps) es p q h o late =
    let g = order_gives p.last (id_of x) (ranks ps) o in
    let last = noted_last p h.0 x h.1 in
    let rest = in_place ps es h.0 q h.2 (subst (λ (l : ℕ). Ascends l (ranks ps)) (sym last) g.1) late in
    in_order p.last (id_of x) (ranks (ps ++ outer.code es ∷ [])) g.0 (subst (λ (l : ℕ). Ascends l (ranks (ps ++ outer.code es ∷ []))) last rest)

-- ---- what is spelled is given

-- a code section as far as it is there
opened_run : (z : Settings) (p : Progress) (s t : State) (n k : ℕ) (es : List (List ℕ)) (text : List ℕ) → between p.stage s.place ≡ true
    → Takes s text t → (h : Opened n k es text) → is_late p outer.code_id ≡ false → p.functions ≡ n → s.place + (1 + length h.size + k) < 2 ^ 64
    → (q : Progress) × Run z p s (code n k ∷ entries es) q t
opened_run z p s t n k es text b taken h late agreed room =
    let end : ℕ = s.place + 1 + length h.size + k in
    let u : State = record { rest = h.each ++ t.rest; place = s.place + 1 + length h.size + length h.count; settings = s.settings; start = s.start } in
    let inner : length (h.count ++ h.each) ≡ length h.count + length h.each = length-append h.count h.each in
    let total : length text ≡ 1 + length h.size + length (h.count ++ h.each) = omega (arith, ap length h.whole, length-append h.size (h.count ++ h.each)) in
    let parts : s.rest ≡ outer.code_id ∷ ((h.size ++ h.count) ++ (h.each ++ t.rest)) = taken.parts
    ∙ ap (λ (y : List ℕ). y ++ t.rest) h.whole
    ∙ ap (λ (y : List ℕ). outer.code_id ∷ y)
    (append_assoc h.size (h.count ++ h.each) t.rest ∙ ap (λ (y : List ℕ). h.size ++ y) (append_assoc h.count h.each t.rest)
    ∙ sym (append_assoc h.size h.count (h.each ++ t.rest))) in
    let first : Takes s (outer.code_id ∷ (h.size ++ h.count)) u = record { parts = parts; place = omega (arith, length-append h.size h.count); settings = refl; start = refl } in
    let others : Takes u h.each t = record { parts = refl; place = omega (arith, taken.place, total, inner); settings = taken.settings; start = taken.start } in
    let now = start_next_is z p s u n k h.size h.count first h.sized h.counted (omega (arith, h.inside, inner)) (omega (arith, room)) late agreed in
    let start : Progress = in_code p n end in
    let rest = entries_run z end es start n u t h.each refl h.fewer others h.bodies (omega (arith, taken.place, total, h.inside)) in
    (rest.0, (start, u, step_between z p s b ∙ now, rest.1))

-- nothing more
none_run : (z : Settings) (p : Progress) (s t : State) (text : List ℕ) (xs : List Shape) → text ≡ [] → xs ≡ [] → Takes s text t → (q : Progress) × Run z p s xs q t
none_run z p s t text xs e f taken =
    let same : s ≡ t = same_state s t (taken.parts ∙ ap (λ (x : List ℕ). x ++ t.rest) e) (omega (arith, taken.place, ap length e)) (sym taken.settings) (sym taken.start) in
    (p, subst (λ (y : List Shape). Run z p s y p t) (sym f) (refl, same))

-- a front, however much of a code section is there
pub front_run : (z : Settings) (text : List ℕ) (xs : List Shape) (long : ℕ) (s t : State) → IsSpelledFront z text xs long → Takes s text t
    → s.place + long < 2 ^ 64 → (q : Progress) × Run z fresh s xs q t
front_run z text xs long s t h taken room = go h.tail
  where
    -- what is behind the whole sections
    behind : (u : State) → Takes s h.front u → Takes u h.back t → Ascends 0 (ranks h.outer.parts)
        → ((p : Progress) → AreNoted (begun fresh) h.outer.parts p → between p.stage u.place ≡ true → (q : Progress) × Run z p u h.last_frames q t)
        → (q : Progress) × Run z fresh s xs q t
    behind u first others order next =
        let run = module_run z h.outer h.front h.whole_frames s u h.framed order h.counted (front_compares h.outer.parts order h.counted h.counts) first (omega (arith, first.place, room, h.ends)) in
        let last = next run.0 run.2 run.3 in
        (last.0, subst (λ (y : List Shape). Run z fresh s y last.0 t) (sym h.frames) (run_then z h.whole_frames h.last_frames fresh run.0 last.0 s u t run.1 last.1))

    split : Ascends 0 (ranks h.outer.parts)
        → ((u : State) → u.place ≡ s.place + length h.front → Takes u h.back t → (p : Progress) → AreNoted (begun fresh) h.outer.parts p → between p.stage u.place ≡ true
        → (q : Progress) × Run z p u h.last_frames q t)
        → (q : Progress) × Run z fresh s xs q t
    split order next =
        let u : State = record { rest = h.back ++ t.rest; place = s.place + length h.front; settings = s.settings; start = s.start } in
        let many : length text ≡ length h.front + length h.back = ap length h.whole ∙ length-append h.front h.back in
        let first : Takes s h.front u = record { parts = taken.parts ∙ ap (λ (x : List ℕ). x ++ t.rest) h.whole ∙ append_assoc h.front h.back t.rest; place = refl; settings = refl; start = refl } in
        let others : Takes u h.back t = record { parts = refl; place = omega (arith, taken.place, many); settings = taken.settings; start = taken.start } in
        behind u first others order (next u refl others)

    go : IsClosed h.outer.parts h.back h.last_frames h.beyond ⊎ IsCut h.outer.parts h.back h.last_frames h.beyond → (q : Progress) × Run z fresh s xs q t
    go (inl c) = split c.ordered (λ u place others p noted b. none_run z p u t h.back h.last_frames c.none c.frames others)
    go (inr c) =
        let order = ordered_front h.outer.parts (outer.code c.bodies ∷ []) 0 c.ordered in
        split order (λ u place others p noted b.
        let agreed = functions_are h.outer.parts (begun fresh) p refl noted order c.count c.declared in
        let late = not_late h.outer.parts c.bodies (begun fresh) p noted c.ordered in
        let run = opened_run z p u t c.count c.size c.bodies h.back b others c.opened late agreed (omega (arith, place, room, h.ends, c.ends)) in
        (run.0, subst (λ (y : List Shape). Run z p u y run.0 t) (sym c.frames) run.1))

-- ---- what is given is spelled

-- what a run took is the front of a module, with the frames that it gave
pub begun_spelled : (z : Settings) (s t : State) (xs : List Shape) (q : Progress) → Begun z s xs q t → (text : List ℕ) × (long : ℕ) × Takes s text t × IsSpelledFront z text xs long
begun_spelled z s t xs q b = go b.seen.tail
  where
    noted : AreNoted (begun fresh) b.seen.parts b.seen.mid
    noted = read_noted b.seen.parts (begun fresh) b.seen.mid b.seen.noted

    spelled : (beyond : ℕ) → IsClosed b.seen.parts b.seen.back b.seen.last_frames beyond ⊎ IsCut b.seen.parts b.seen.back b.seen.last_frames beyond
        → (text : List ℕ) × (long : ℕ) × Takes s text t × IsSpelledFront z text xs long
    spelled beyond tail =
        let parts : Outer = record { header = b.header; parts = b.seen.parts } in
        let front : List ℕ = b.text ++ b.seen.front in
        let framed : Frames z parts front (version b.header ∷ b.seen.whole_frames) = record {
          header_text = b.text;
          parts_text = b.seen.front;
          shapes = b.seen.whole_frames;
          headed = b.headed;
          framed = b.seen.framed;
          whole = refl;
          frames = refl;
        } in
        let all = subst (λ (k : List ℕ). Takes s k t) (sym (append_assoc b.text b.seen.front b.seen.back)) (Takes-then s b.there t b.text (b.seen.front ++ b.seen.back) b.taken b.seen.taken) in (
          front ++ b.seen.back,
          length front + beyond,
          all,
          record {
            outer = parts;
            front = front;
            back = b.seen.back;
            whole_frames = version b.header ∷ b.seen.whole_frames;
            last_frames = b.seen.last_frames;
            beyond = beyond;
            framed = framed;
            counted = noted_counted (begun fresh) b.seen.mid b.seen.parts noted;
            counts = read_fits b.seen.parts b.seen.mid b.seen.noted b.seen.ordered;
            tail = tail;
            whole = refl;
            frames = b.frames ∙ ap (λ (k : List Shape). version b.header ∷ k) b.seen.frames;
            ends = refl;
          },
        )

    go : IsBetween b.seen.mid b.seen.back b.seen.last_frames q t ⊎ IsOpen b.seen.mid b.seen.back b.seen.last_frames q t → (text : List ℕ) × (long : ℕ) × Takes s text t × IsSpelledFront z text xs long
    go (inl k) = spelled 0 (inl (record { ordered = b.seen.ordered; none = k.none; frames = k.frames; ends = refl }))
    go (inr k) = spelled (1 + length k.opened.size + k.size) (inr (record {
      count = k.count;
      size = k.size;
      bodies = k.bodies;
      opened = k.opened;
      declared = subst (λ (n : ℕ). DeclaresOrAbsent 3 n b.seen.parts) k.agreed (read_functions b.seen.parts b.seen.mid b.seen.noted b.seen.ordered);
      ordered = in_place b.seen.parts k.bodies (begun fresh) b.seen.mid noted b.seen.ordered k.in_time;
      frames = k.frames;
      ends = refl;
    }))

-- nothing was taken, or the front of a module
pub front_spelled : (z : Settings) (s t : State) (xs : List Shape) (q : Progress) → IsFront z s xs q t → (text : List ℕ) × (long : ℕ) × Takes s text t × IsStart z text xs long
front_spelled z s t xs q (inl e) = ([], 0, subst (λ (u : State). Takes s [] u) e.2 (takes_none s), inl (refl, e.0, refl))
front_spelled z s t xs q (inr b) = let k = begun_spelled z s t xs q b in (k.0, k.1, k.2, inr k.3)
