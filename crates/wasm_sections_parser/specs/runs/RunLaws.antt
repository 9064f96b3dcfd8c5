-- What a run gives is spelled by what it took: whole sections in order, and behind them nothing or a part of a code section.
use Rattle.std.proofs.Common.{◌≡◌, ◌⊎◌, inl, inr, ℕ, ◌-◌, ◌≤◌, List, [], ◌∷◌, ◌++◌, length, refl, sym, ap, ◌∙◌, subst, append_assoc, arith, cond, Bool, true, false}
use Rattle.std.specs.Prelude.{nat_le, ◌==◌}
use Rattle.std.proofs.lemmas.Bool.{eqb-true, leb-true}
use Rattle.std.proofs.lemmas.List.{length-append}
use Rattle.wasm_types.specs.settings.Settings.{Settings}
use Rattle.wasm_types.specs.decoding.Decoder.{State, Outcome, Done, Many, Takes}
use Rattle.wasm_types.specs.decoding.Laws.{takes_none, Takes-then}
use Rattle.wasm_types.specs.decoding.Leb.{IsUnsigned, IsListed}
use Rattle.wasm_sections_items.specs.frames.Outer as outer
use Rattle.wasm_sections_items.specs.frames.Outer.{Part, SpelledPart, SpelledEntry, id_of, rank, ranks, with_rank, Ascends}
use Rattle.wasm_sections_parser.specs.declared.progress.Stage.{Stage}
use Rattle.wasm_sections_parser.specs.declared.progress.Stage.TheVariants as stages
use Rattle.wasm_sections_parser.specs.declared.progress.Progress.{Progress}
use Rattle.wasm_sections_parser.specs.Steps.{Shape, version, custom, section, code, entry, the_end, in_code, begun, is_announced, Next, at_stage, step}
use Rattle.wasm_sections_parser.specs.Parsing.{between}
use Rattle.wasm_sections_parser.specs.runs.calls.Runs.{Run, entries, Framed, Noted, Seen}
use Rattle.wasm_sections_parser.specs.runs.steps.Remembered.{Compared}
use Rattle.wasm_sections_parser.specs.runs.steps.SectionCases.{Given, section_given}
use Rattle.wasm_sections_parser.specs.runs.steps.StepCases.{Behind, step_between, inside_at}
use Rattle.wasm_sections_parser.specs.runs.steps.OrderLaws.{in_order}

abbrev given : Next → State → Outcome Next
given y t = Done y t

-- ---- in a code section

-- bodies that are some of those left
record Stays (p : Progress) (left end : ℕ) (s : State) (xs : List Shape) (q : Progress) (t : State) : Type 0 where
  bodies : List (List ℕ)
  text : List ℕ
  taken : Takes s text t
  each : Many SpelledEntry (length bodies) bodies text
  fewer : length bodies ≤ left
  frames : xs ≡ entries bodies
  noted : begun q ≡ begun p
  stage : q.stage ≡ stages.Code (left - length bodies) end
  place : t.place ≤ end
  going : between q.stage t.place ≡ false

-- all of those left, and what comes behind them
record Closes (z : Settings) (p : Progress) (left end : ℕ) (s : State) (xs : List Shape) (q : Progress) (t : State) : Type 0 where
  bodies : List (List ℕ)
  text : List ℕ
  others : List Shape
  middle : Progress
  there : State
  taken : Takes s text there
  each : Many SpelledEntry (length bodies) bodies text
  count : length bodies ≡ left
  place : there.place ≡ end
  frames : xs ≡ entries bodies ++ others
  noted : begun middle ≡ begun p
  rest : Seen z middle there others q t

abbrev InCode : Settings → Progress → ℕ → ℕ → State → List Shape → Progress → State → Type 0
InCode z p left end s xs q t = Stays p left end s xs q t ⊎ Closes z p left end s xs q t

-- one body more
module _ (z : Settings) (p : Progress) (left end : ℕ) (s : State) (x : Shape) (xs : List Shape) (r : Progress) (u : State) (q : Progress) (t : State) where
  more_in : Behind p left end s x r u → InCode z r (left - 1) end u xs q t → InCode z p left end s (x ∷ xs) q t
  more_in b (inl h) = inl (record {
    bodies = b.bytes ∷ h.bodies;
    text = b.text ++ h.text;
    taken = Takes-then s u t b.text h.text b.taken h.taken;
    each = (b.text, h.text, b.spelled, h.each, refl);
    fewer = omega (arith, h.fewer, b.some);
    frames = λ i. b.shape i ∷ h.frames i;
    noted = h.noted ∙ ap begun b.noted;
    stage = h.stage ∙ ap (λ (n : ℕ). stages.Code n end) (omega (arith, b.some, h.fewer));
    place = h.place;
    going = h.going;
  })
  more_in b (inr h) = inr (record {
    bodies = b.bytes ∷ h.bodies;
    text = b.text ++ h.text;
    others = h.others;
    middle = h.middle;
    there = h.there;
    taken = Takes-then s u h.there b.text h.text b.taken h.taken;
    each = (b.text, h.text, b.spelled, h.each, refl);
    count = omega (arith, h.count, b.some);
    place = h.place;
    frames = λ i. b.shape i ∷ h.frames i;
    noted = h.noted ∙ ap begun b.noted;
    rest = h.rest;
  })

-- where the last body was read: what comes next is what comes between sections
closed : (z : Settings) (p : Progress) (left end : ℕ) (s : State) (xs : List Shape) (q : Progress) (t : State) → s.place ≤ end
    → between (stages.Code left end) s.place ≡ true → Seen z p s xs q t → Closes z p left end s xs q t
closed z p left end s xs q t le b rest = go (left == 0) refl b
  where
    go : (k : Bool) → (left == 0) ≡ k → cond k (nat_le end s.place) false ≡ true → Closes z p left end s xs q t
    go true e f = record {
      bodies = [];
      text = [];
      others = xs;
      middle = p;
      there = s;
      taken = takes_none s;
      each = refl;
      count = sym (eqb-true _ _ e);
      place = omega (arith, le, leb-true _ _ f);
      frames = refl;
      noted = refl;
      rest = rest;
    }
    go false e f = absurd cc

-- ---- a section more

module _ (z : Settings) (p : Progress) (s : State) (r : Progress) (u : State) (q : Progress) (t : State) where
  add_part : (x : Part) (text : List ℕ) (fs ys : List Shape) → Takes s text u → Framed z x text fs → Noted p x r → Compared x r
      → ((rs : List ℕ) → Ascends r.last rs → Ascends p.last (with_rank (rank (id_of x)) rs)) → Seen z r u ys q t
      → Seen z p s (fs ++ ys) q t
  add_part x text fs ys taken framed noted compared ordered h = record {
    parts = x ∷ h.parts;
    front = text ++ h.front;
    back = h.back;
    whole_frames = fs ++ h.whole_frames;
    last_frames = h.last_frames;
    mid = h.mid;
    framed = (text, h.front, fs, h.whole_frames, framed, h.framed, refl, refl);
    noted = (r, noted, compared, h.noted);
    ordered = ordered (ranks h.parts) h.ordered;
    taken = subst (λ (k : List ℕ). Takes s k t) (sym (append_assoc text h.front h.back)) (Takes-then s u t text (h.front ++ h.back) taken h.taken);
    frames = ap (λ (k : List Shape). fs ++ k) h.frames ∙ sym (append_assoc fs h.whole_frames h.last_frames);
    tail = h.tail;
  }

  add_custom : (n c : List ℕ) (xs : List Shape) → Given z p s (custom n c) r u → Seen z r u xs q t → Seen z p s (custom n c ∷ xs) q t
  add_custom n c xs g h = add_part (outer.custom n c) g.1.0 (custom n c ∷ []) xs g.1.1 (g.1.2, refl) (ap begun g.0) tt in_time h
    where
      in_time : (rs : List ℕ) → Ascends r.last rs → Ascends p.last rs
      in_time rs a = subst (λ (l : ℕ). Ascends l rs) (ap (λ (v : Progress). v.last) g.0) a

  add_section : (id : ℕ) (c : List ℕ) (xs : List Shape) → Given z p s (section id c) r u → Seen z r u xs q t → Seen z p s (section id c ∷ xs) q t
  add_section id c xs g h = add_part (outer.section id c) g.2.0 (section id c ∷ []) xs g.2.1 (g.2.2, refl) (g.1.0, g.1.1, ap begun g.1.2)
      (subst (λ (v : Progress). is_announced id v ≡ true) (sym g.1.2) g.1.3) in_time h
    where
      in_time : (rs : List ℕ) → Ascends r.last rs → Ascends p.last (with_rank (rank id) rs)
      in_time rs a = in_order p.last id rs g.0 (subst (λ (l : ℕ). Ascends l rs) (ap (λ (v : Progress). v.last) g.1.2) a)

-- ---- the code section

module _ (z : Settings) (p : Progress) (s : State) (n k : ℕ) (r : Progress) (u : State) (xs : List Shape) (q : Progress) (t : State) (g : Given z p s (code n k) r u) where
  open_code : Stays r n g.1.end u xs q t → Seen z p s (code n k ∷ xs) q t
  open_code c = record {
    parts = [];
    front = [];
    back = outer.code_id ∷ (g.1.size ++ (g.1.count ++ c.text));
    whole_frames = [];
    last_frames = code n k ∷ xs;
    mid = p;
    framed = (refl, refl);
    noted = refl;
    ordered = tt;
    taken = subst (λ (x : List ℕ). Takes s (outer.code_id ∷ x) t) (append_assoc g.1.size g.1.count c.text) (Takes-then s u t (outer.code_id ∷ (g.1.size ++ g.1.count)) c.text g.1.taken c.taken);
    frames = refl;
    tail = inr (record {
      count = n;
      size = k;
      bodies = c.bodies;
      end = g.1.end;
      opened = record {
        size = g.1.size;
        count = g.1.count;
        each = c.text;
        sized = g.1.sized;
        counted = g.1.counted;
        bodies = c.each;
        fewer = c.fewer;
        inside = omega (arith, c.place, c.taken.place, g.1.taken.place, g.1.ends, length-append g.1.size g.1.count, length-append g.1.count c.text);
        whole = refl;
      };
      frames = ap (λ (ys : List Shape). code n k ∷ ys) c.frames;
      in_time = g.0;
      agreed = g.1.agreed;
      noted = c.noted ∙ ap begun g.1.noted;
      stage = c.stage;
      place = c.place;
      going = c.going;
    });
  }

  close_code : Closes z r n g.1.end u xs q t → Seen z p s (code n k ∷ xs) q t
  close_code c =
      let content : List ℕ = g.1.count ++ c.text in
      let long : length content ≡ k = omega (arith, c.place, c.taken.place, g.1.taken.place, g.1.ends, length-append g.1.size g.1.count, length-append g.1.count c.text) in
      let sized : IsUnsigned 32 (length content) g.1.size = subst (λ (v : ℕ). IsUnsigned 32 v g.1.size) (sym long) g.1.sized in
      let listed : IsListed SpelledEntry c.bodies content =
      record {
        count = g.1.count;
        values = c.text;
        counted =
            subst (λ (v : ℕ). IsUnsigned 32 v g.1.count) (sym c.count) g.1.counted;
        each = c.each;
        whole = refl;
      } in
      let spelled : SpelledPart z (outer.code c.bodies) (outer.code_id ∷ (g.1.size ++ content)) = (
        g.1.size ++ content,
        refl,
        record {
          size = g.1.size;
          content = content;
          counted = sized;
          spelled = listed;
          whole =
              refl;
        },
      ) in
      let taken = subst (λ (x : List ℕ). Takes s (outer.code_id ∷ x) c.there) (append_assoc g.1.size g.1.count c.text)
      (Takes-then s u c.there (outer.code_id ∷ (g.1.size ++ g.1.count)) c.text g.1.taken c.taken) in
      let noted : begun c.middle ≡ begun (in_code p n g.1.end) = c.noted ∙ ap begun g.1.noted in
      let frames : code n k ∷ entries c.bodies ≡ code (length c.bodies) (length content) ∷ entries c.bodies = λ i. code (sym c.count i) (sym long i) ∷ entries c.bodies in
      subst (λ (ys : List Shape). Seen z p s (code n k ∷ ys) q t) (sym c.frames)
      (add_part z p s c.middle c.there q t (outer.code c.bodies) (outer.code_id ∷ (g.1.size ++ content)) (code n k ∷ entries c.bodies) c.others taken (spelled, frames)
      (g.1.end, noted ∙ ap (λ (v : ℕ). begun (in_code p v g.1.end)) (sym c.count))
      (ap (λ (v : Progress). v.functions) noted ∙ g.1.agreed ∙ sym (ap (λ (v : Progress). v.bodies) noted))
      (λ rs a. in_order p.last outer.code_id rs g.0 (subst (λ (l : ℕ). Ascends l rs) (ap (λ (v : Progress). v.last) noted) a)) c.rest)

-- ---- runs

abbrev Both : Settings → List Shape → Progress → State → Progress → State → Type 0
Both z xs p s q t = (between p.stage s.place ≡ true → Seen z p s xs q t) × ((left end : ℕ) → p.stage ≡ stages.Code left end → s.place ≤ end → InCode z p left end s xs q t)

add_frame : (z : Settings) (p : Progress) (s : State) (x : Shape) (r : Progress) (u : State) (xs : List Shape) (q : Progress)
    (t : State) → Given z p s x r u → Both z xs r u q t → Seen z p s (x ∷ xs) q t
add_frame z p s (version h) r u xs q t g both = absurd g
add_frame z p s (custom n c) r u xs q t g both = add_custom z p s r u q t n c xs g (both.0 (ap (λ (v : Progress). between v.stage u.place) g.0))
add_frame z p s (section id c) r u xs q t g both = add_section z p s r u q t id c xs g (both.0 (ap (λ (v : Progress). between v.stage u.place) g.1.2))
add_frame z p s (code n k) r u xs q t g both = go (both.1 n g.1.end (ap (λ (v : Progress). v.stage) g.1.noted) g.1.inside)
  where
    go : InCode z r n g.1.end u xs q t → Seen z p s (code n k ∷ xs) q t
    go (inl c) = open_code z p s n k r u xs q t g c
    go (inr c) = close_code z p s n k r u xs q t g c
add_frame z p s (entry c) r u xs q t g both = absurd g
add_frame z p s the_end r u xs q t g both = absurd g

nothing_seen : (z : Settings) (p : Progress) (s : State) (q : Progress) (t : State) → (p ≡ q) × (s ≡ t) → between p.stage s.place ≡ true → Seen z p s [] q t
nothing_seen z p s q t e b = record {
  parts = [];
  front = [];
  back = [];
  whole_frames = [];
  last_frames = [];
  mid = p;
  framed = (refl, refl);
  noted = refl;
  ordered = tt;
  taken = subst (λ (v : State). Takes s [] v) e.1 (takes_none s);
  frames = refl;
  tail = inl (record {
    none = refl;
    frames = refl;
    noted = ap begun (sym e.0);
    between =
        ap (λ (v : Progress). between v.stage t.place) (sym e.0) ∙ ap (λ (v : State). between p.stage v.place) (sym e.1) ∙ b;
  });
}

nothing_stays : (p : Progress) (left end : ℕ) (s : State) (q : Progress) (t : State) → (p ≡ q) × (s ≡ t)
    → p.stage ≡ stages.Code left end → s.place ≤ end → between (stages.Code left end) s.place ≡ false → Stays p left end s [] q t
nothing_stays p left end s q t e g le b = record {
  bodies = [];
  text = [];
  taken = subst (λ (v : State). Takes s [] v) e.1 (takes_none s);
  each = refl;
  fewer = omega arith;
  frames = refl;
  noted = ap begun (sym e.0);
  stage = ap (λ (v : Progress). v.stage) (sym e.0) ∙ g ∙ ap (λ (n : ℕ). stages.Code n end) (omega arith);
  place = subst (λ (v : State). v.place ≤ end) e.1 le;
  going = ap (λ (v : Progress). between v.stage t.place) (sym e.0) ∙ ap (λ (v : Stage). between v t.place) g ∙ ap (λ (v : State). between (stages.Code left end) v.place) (sym e.1) ∙ b;
}

-- one frame of a run that stands in a code section
more_code : (z : Settings) (p : Progress) (left end : ℕ) (s : State) (x : Shape) (r : Progress) (u : State) (xs : List Shape)
    (q : Progress) (t : State) → p.stage ≡ stages.Code left end → step z p s ≡ given (x, r) u
    → between (stages.Code left end) s.place ≡ false → Both z xs r u q t → InCode z p left end s (x ∷ xs) q t
unfolding step
more_code z p left end s x r u xs q t g e b both =
    let here = inside_at p left end z s u x r b (ap (λ (v : Stage). at_stage z p v s) (sym g) ∙ e) in
    more_in z p left end s x xs r u q t here (both.1 (left - 1) end (ap (λ (v : Progress). v.stage) here.noted) here.place)

in_code_cases : (z : Settings) (p : Progress) (left end : ℕ) (s : State) (xs : List Shape) (q : Progress) (t : State)
    → p.stage ≡ stages.Code left end → s.place ≤ end → (between p.stage s.place ≡ true → Seen z p s xs q t)
    → (between (stages.Code left end) s.place ≡ false → InCode z p left end s xs q t) → InCode z p left end s xs q t
in_code_cases z p left end s xs q t g le here inside = go (between (stages.Code left end) s.place) refl
  where
    go : (k : Bool) → between (stages.Code left end) s.place ≡ k → InCode z p left end s xs q t
    go true e = inr (closed z p left end s xs q t le e (here (ap (λ (v : Stage). between v s.place) g ∙ e)))
    go false e = inside e

both_ways : (z : Settings) (xs : List Shape) (p : Progress) (s : State) (q : Progress) (t : State) → Run z p s xs q t → Both z xs p s q t
both_ways z [] p s q t run =
    (nothing_seen z p s q t run, λ left end g le. in_code_cases z p left end s [] q t g le (nothing_seen z p s q t run) (λ b. inl (nothing_stays p left end s q t run g le b)))
both_ways z (x ∷ xs) p s q t run =
    let both = both_ways z xs run.0 run.1 q t run.3 in
    let first : between p.stage s.place ≡ true → Seen z p s (x ∷ xs) q t = λ b. add_frame z p s x run.0 run.1 xs q t (section_given z p s run.1 (x, run.0) (sym (step_between z p s b) ∙ run.2)) both in
    (first, λ left end g le. in_code_cases z p left end s (x ∷ xs) q t g le first (λ b. more_code z p left end s x run.0 run.1 xs q t g run.2 b both))

pub run_seen : (z : Settings) (xs : List Shape) (p : Progress) (s : State) (q : Progress) (t : State) → Run z p s xs q t → between p.stage s.place ≡ true → Seen z p s xs q t
run_seen z xs p s q t run b = (both_ways z xs p s q t run).0 b
