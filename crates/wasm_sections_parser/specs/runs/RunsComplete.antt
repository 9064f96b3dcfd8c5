-- Sections that are spelled, in order and with readable counts, are what a run gives.
use Rattle.std.proofs.Common.{◌≡◌, ℕ, ◌+◌, ◌-◌, ◌<◌, ◌≤◌, ◌^◌, List, [], ◌∷◌, ◌++◌, length, refl, sym, ap, ◌∙◌, subst, append_assoc, arith, true, false}
use Rattle.std.proofs.lemmas.Bool.{le-leb}
use Rattle.std.proofs.lemmas.List.{length-append}
use Rattle.wasm_types.specs.settings.Settings.{Settings}
use Rattle.wasm_types.specs.decoding.Decoder.{State, Outcome, Done, continue_with, pure, Many, Takes}
use Rattle.wasm_types.specs.decoding.ExactLaws.{same_state}
use Rattle.wasm_sections_items.specs.frames.Outer as outer
use Rattle.wasm_sections_items.specs.frames.Outer.{Header, Part, Outer, IsOrdered, SpelledEntry, id_of, rank, ranks, Ascends}
use Rattle.wasm_sections_items.specs.frames.Decode.{header}
use Rattle.wasm_sections_items.specs.frames.PartLaws.{decides-header}
use Rattle.wasm_sections_parser.specs.declared.progress.Stage.{Stage}
use Rattle.wasm_sections_parser.specs.declared.progress.Stage.TheVariants as stages
use Rattle.wasm_sections_parser.specs.declared.progress.Progress.{Progress}
use Rattle.wasm_sections_parser.specs.Steps.{Shape, version, counted, in_code, one_less, begun, is_late, Next, next_header, step}
use Rattle.wasm_sections_parser.specs.Parsing.{between}
use Rattle.wasm_sections_parser.specs.runs.calls.Runs.{fresh, Run, entries, Frames, Framed, AreFramed, IsCounted, AreCounted, Noted, AreNoted}
use Rattle.wasm_sections_parser.specs.runs.steps.Remembered.{Compared}
use Rattle.wasm_sections_parser.specs.runs.steps.CompareLaws.{Compares}
use Rattle.wasm_sections_parser.specs.runs.steps.StepCases.{step_between}
use Rattle.wasm_sections_parser.specs.runs.steps.OrderLaws.{last_at, order_gives}
use Rattle.wasm_sections_parser.specs.runs.steps.StepsComplete.{custom_next_is, section_next_at, start_next_is, entry_step}

abbrev given : Next → State → Outcome Next
given y t = Done y t

-- ---- bodies

module _ (z : Settings) (end : ℕ) where
  -- bodies that are some of those left
  pub entries_run : (es : List (List ℕ)) (p : Progress) (left : ℕ) (s t : State) (text : List ℕ) → p.stage ≡ stages.Code left end
      → length es ≤ left → Takes s text t → Many SpelledEntry (length es) es text → t.place ≤ end
      → (q : Progress) × Run z p s (entries es) q t × (begun q ≡ begun p) × (q.stage ≡ stages.Code (left - length es) end)
  entries_run [] p left s t text g few taken h le =
      let same : s ≡ t = same_state s t (taken.parts ∙ ap (λ (x : List ℕ). x ++ t.rest) h) (omega (arith, taken.place, ap length h)) (sym taken.settings) (sym taken.start) in
      (p, (refl, same), refl, g ∙ ap (λ (n : ℕ). stages.Code n end) (omega arith))
  entries_run (e ∷ es) p left s t text g few taken h le =
      let u : State = record { rest = h.1 ++ t.rest; place = s.place + length h.0; settings = s.settings; start = s.start } in
      let long : length text ≡ length h.0 + length h.1 = ap length h.4 ∙ length-append h.0 h.1 in
      let first : Takes s h.0 u = record { parts = taken.parts ∙ ap (λ (x : List ℕ). x ++ t.rest) h.4 ∙ append_assoc h.0 h.1 t.rest; place = refl; settings = refl; start = refl } in
      let others : Takes u h.1 t = record { parts = refl; place = omega (arith, taken.place, long); settings = taken.settings; start = taken.start } in
      let now = entry_step z end p left s u e h.0 g (omega (arith, few)) first h.2 (omega (arith, le, taken.place, long)) in
      let rest = entries_run es (one_less p left end) (left - 1) u t h.1 refl (omega (arith, few)) others h.3 le in
      (rest.0, (one_less p left end, u, now, rest.1), rest.2, rest.3 ∙ ap (λ (n : ℕ). stages.Code n end) (omega (arith, few)))

-- ---- sections

pub run_then : (z : Settings) (xs ys : List Shape) (p r q : Progress) (s u t : State) → Run z p s xs r u → Run z r u ys q t → Run z p s (xs ++ ys) q t
run_then z [] ys p r q s u t h k = subst (λ (v : Progress). Run z v s ys q t) (sym h.0) (subst (λ (v : State). Run z r v ys q t) (sym h.1) k)
run_then z (x ∷ xs) ys p r q s u t h k = (h.0, h.1, h.2, run_then z xs ys h.0 r q h.1 u t h.3 k)

-- the last place behind a section
pub noted_last : (p r : Progress) (x : Part) → Noted p x r → r.last ≡ last_at p.last (rank (id_of x))
noted_last p r (outer.custom n c) h = ap (λ (v : Progress). v.last) h
noted_last p r (outer.section id c) h = ap (λ (v : Progress). v.last) h.2
noted_last p r (outer.code es) h = ap (λ (v : Progress). v.last) h.1

-- where a run of one section ends
record Gives (z : Settings) (p : Progress) (s : State) (x : Part) (xs : List Shape) (t : State) : Type 0 where
  next : Progress
  run : Run z p s xs next t
  noted : Noted p x next
  here : between next.stage t.place ≡ true

module _ (z : Settings) (p : Progress) (s t : State) (text : List ℕ) (b : between p.stage s.place ≡ true) (taken : Takes s text t) where
  code_run : (es : List (List ℕ)) (xs : List Shape) → Framed z (outer.code es) text xs → is_late p outer.code_id ≡ false → p.functions ≡ length es
      → t.place < 2 ^ 64 → Gives z p s (outer.code es) xs t
  code_run es xs h late agreed room =
      let sized = h.0.2 in
      let listed = sized.spelled in
      let size : List ℕ = sized.size in
      let count : List ℕ = listed.count in
      let values : List ℕ = listed.values in
      let k : ℕ = length sized.content in
      let end : ℕ = s.place + 1 + length size + k in
      let u : State = record { rest = values ++ t.rest; place = s.place + 1 + length size + length count; settings = s.settings; start = s.start } in
      let whole : text ≡ outer.code_id ∷ (size ++ (count ++ values)) = h.0.1 ∙ ap (λ (y : List ℕ). outer.code_id ∷ y) (sized.whole ∙ ap (λ (y : List ℕ). size ++ y) listed.whole) in
      let long : k ≡ length count + length values = ap length listed.whole ∙ length-append count values in
      let total : length text ≡ 1 + length size + k = omega (arith, ap length h.0.1, ap length sized.whole, length-append size sized.content) in
      let parts : s.rest ≡ outer.code_id ∷ ((size ++ count) ++ (values ++ t.rest)) = taken.parts
      ∙ ap (λ (y : List ℕ). y ++ t.rest) whole
      ∙ ap (λ (y : List ℕ). outer.code_id ∷ y)
      (append_assoc size (count ++ values) t.rest ∙ ap (λ (y : List ℕ). size ++ y) (append_assoc count values t.rest)
      ∙ sym (append_assoc size count (values ++ t.rest))) in
      let first : Takes s (outer.code_id ∷ (size ++ count)) u = record { parts = parts; place = omega (arith, length-append size count); settings = refl; start = refl } in
      let others : Takes u values t = record { parts = refl; place = omega (arith, taken.place, total, long); settings = taken.settings; start = taken.start } in
      let now = start_next_is z p s u (length es) k size count first sized.counted listed.counted (omega (arith, long)) (omega (arith, taken.place, total, room)) late agreed in
      let start : Progress = in_code p (length es) end in
      let rest = entries_run z end es start (length es) u t values refl (omega arith) others listed.each (omega (arith, taken.place, total)) in
      let ends : rest.0.stage ≡ stages.Code 0 end = rest.3 ∙ ap (λ (n : ℕ). stages.Code n end) (omega arith) in
      record {
        next = rest.0;
        run = subst (λ (y : List Shape). Run z p s y rest.0 t) (sym h.1) (start, u, step_between z p s b ∙ now, rest.1);
        noted = (end, rest.2);
        here = ap (λ (v : Stage). between v t.place) ends ∙ le-leb end t.place (omega (arith, taken.place, total));
      }

  part_run : (x : Part) (xs : List Shape) → Framed z x text xs → IsCounted x → ((r : Progress) → Noted p x r → Compared x r)
      → is_late p (id_of x) ≡ false → t.place < 2 ^ 64 → Gives z p s x xs t
  part_run (outer.custom n c) xs h counts agreed late room = record {
    next = counted p 0 0;
    run = subst (λ (y : List Shape). Run z p s y (counted p 0 0) t) (sym h.1) (counted p 0 0, t, step_between z p s b ∙ custom_next_is z p s t n c text taken h.0, (refl, refl));
    noted = refl;
    here = refl;
  }
  part_run (outer.section id c) xs h counts agreed late room =
      let k = section_next_at z p s t id c text taken h.0 late counts (λ k c. agreed (counted p id k) (k, c, refl)) in
      record {
        next = counted p id k.0;
        run = subst (λ (y : List Shape). Run z p s y (counted p id k.0) t) (sym h.1) (counted p id k.0, t, step_between z p s b ∙ k.2, (refl, refl));
        noted = (k.0, k.1, refl);
        here = refl;
      }
  part_run (outer.code es) xs h counts agreed late room = code_run es xs h late (agreed (in_code p (length es) 0) (0, refl)) room

pub parts_run : (z : Settings) (ps : List Part) (xs : List Shape) (p : Progress) (s t : State) (text : List ℕ)
    → AreFramed z ps text xs → AreCounted ps → Compares p ps → Ascends p.last (ranks ps) → between p.stage s.place ≡ true → Takes s text t
    → t.place < 2 ^ 64
    → (q : Progress) × Run z p s xs q t × AreNoted p ps q × (between q.stage t.place ≡ true)
parts_run z [] xs p s t text h counts agreed order b taken room =
    let same : s ≡ t = same_state s t (taken.parts ∙ ap (λ (x : List ℕ). x ++ t.rest) h.0) (omega (arith, taken.place, ap length h.0)) (sym taken.settings) (sym taken.start) in
    (p, subst (λ (y : List Shape). Run z p s y p t) (sym h.1) (refl, same), refl, ap (λ (v : State). between p.stage v.place) (sym same) ∙ b)
parts_run z (x ∷ ps) xs p s t text h counts agreed order b taken room =
    let front : List ℕ = h.0 in
    let back : List ℕ = h.1 in
    let whole : text ≡ front ++ back = h.6 in
    let u : State = record { rest = back ++ t.rest; place = s.place + length front; settings = s.settings; start = s.start } in
    let long : length text ≡ length front + length back = ap length whole ∙ length-append front back in
    let first : Takes s front u = record { parts = taken.parts ∙ ap (λ (y : List ℕ). y ++ t.rest) whole ∙ append_assoc front back t.rest; place = refl; settings = refl; start = refl } in
    let others : Takes u back t = record { parts = refl; place = omega (arith, taken.place, long); settings = taken.settings; start = taken.start } in
    let o = order_gives p.last (id_of x) (ranks ps) order in
    let g = part_run z p s u front b first x h.2 h.4 counts.0 (λ r n. (agreed r n).0) o.0 (omega (arith, taken.place, long, room)) in
    let rest = parts_run z ps h.3 g.next u t back h.5 counts.1 (agreed g.next g.noted).1 (subst (λ (l : ℕ). Ascends l (ranks ps)) (sym (noted_last p g.next x g.noted)) o.1) g.here others room in
    (rest.0, subst (λ (y : List Shape). Run z p s y rest.0 t) (sym h.7) (run_then z h.2 h.3 p g.next rest.0 s u t g.run rest.1), (g.next, g.noted, rest.2), rest.3)

-- ---- the run of a module

header_next : (z : Settings) (s t : State) (h : Header) → header s ≡ Done h t → step z fresh s ≡ given (version h, begun fresh) t
unfolding step next_header
header_next z s t h e = ap (λ (o : Outcome Header). continue_with o (λ k. pure (version k, begun fresh))) e

pub module_run : (z : Settings) (m : Outer) (text : List ℕ) (xs : List Shape) (s t : State) → Frames z m text xs → IsOrdered m.parts → AreCounted m.parts → Compares (begun fresh) m.parts → Takes s text t → t.place < 2 ^ 64
    → (q : Progress) × Run z fresh s xs q t × AreNoted (begun fresh) m.parts q × (between q.stage t.place ≡ true)
module_run z m text xs s t h order counted agreed taken room =
    let u : State = record { rest = h.parts_text ++ t.rest; place = s.place + length h.header_text; settings = s.settings; start = s.start } in
    let first : Takes s h.header_text u = record {
      parts = taken.parts ∙ ap (λ (x : List ℕ). x ++ t.rest) h.whole
          ∙ append_assoc h.header_text h.parts_text t.rest;
      place = refl;
      settings = refl;
      start = refl;
    } in
    let long : length text ≡ length h.header_text + length h.parts_text = ap length h.whole ∙ length-append h.header_text h.parts_text in
    let others : Takes u h.parts_text t = record { parts = refl; place = omega (arith, taken.place, long); settings = taken.settings; start = taken.start } in
    let now = header_next z s u m.header (decides-header.complete s u m.header h.header_text first h.headed) in
    let rest = parts_run z m.parts h.shapes (begun fresh) u t h.parts_text h.framed counted agreed order refl others room in
    (rest.0, subst (λ (ys : List Shape). Run z fresh s ys rest.0 t) (sym h.frames) (begun fresh, u, now, rest.1), rest.2, rest.3)
