-- Contents of a custom section that go by: what each further byte leads to, all of them, and the end of the input before them.
use Rattle.std.proofs.Common.{◌≡◌, ◌∙◌, ◌<◌, ◌≤◌, ◌+◌, ◌-◌, ◌^◌, ℕ, zero, suc, Bool, true, false, List, [], ◌∷◌, ◌++◌, length, take, drop, cond, Result, Ok, Err, refl, sym, ap, subst, arith, append-nil, append_assoc, length-append}
use Rattle.std.specs.Prelude.{◌==◌}
use Rattle.std.proofs.lemmas.Bool.{eqb-true, false≢true}
use Rattle.std.proofs.lemmas.List.{length-take-le}
use Rattle.wasm_types.specs.decoding.Decoder.{State, extended, Outcome, Done, Short, Fault, Decoder, continue_with, ◌>>=◌, pure, byte, bytes, first_of_rest, GoesForward, GoesOn, IsLawful, Takes}
use Rattle.wasm_types.specs.decoding.ErrorValue.{ErrorValue}
use Rattle.wasm_types.specs.decoding.declared.error.ErrorKind.{ErrorKind}
use Rattle.wasm_types.specs.decoding.declared.error.ErrorKind.TheVariants.{EndOfData}
use Rattle.wasm_types.specs.reader.Reading.{FailsAt, IsNotMemory}
use Rattle.wasm_types.specs.decoding.Laws.{lawful-byte, bytes-enough, bytes-short}
use Rattle.wasm_types.specs.decoding.Numbers.{IsRefused}
use Rattle.wasm_types.specs.decoding.ExactLaws.{value_is, state_is}
use Rattle.wasm_types.specs.decoding.declared.Refusal.{Refusal}
use Rattle.wasm_types.specs.decoding.Leb.{u32, unsigned, IsUnsigned}
use Rattle.wasm_types.specs.decoding.LebLaws.{lawful-unsigned, decides-u32}
use Rattle.wasm_types.specs.decoding.Text.{name}
use Rattle.wasm_types.specs.decoding.TextLaws.{lawful-name}
use Rattle.wasm_types.specs.reader.Parts.{part_at, next_part}
use Rattle.wasm_types.specs.settings.Settings.{Settings}
use Rattle.wasm_sections_parser.specs.declared.frame.CustomSectionReader.{CustomSectionReader}
use Rattle.wasm_sections_parser.specs.declared.frame.Frame.TheVariants.{Custom}
use Rattle.wasm_sections_parser.specs.declared.parser.Chunk.{Chunk}
use Rattle.wasm_sections_parser.specs.declared.parser.Chunk.TheVariants.{NeedMoreData, Parsed}
use Rattle.wasm_sections_parser.specs.declared.progress.Progress.{Progress}
use Rattle.wasm_sections_parser.specs.declared.progress.Stage.{Stage}
use Rattle.wasm_sections_parser.specs.declared.progress.Stage.TheVariants as stages
use Rattle.wasm_sections_parser.specs.Needs.{needed}
use Rattle.wasm_sections_parser.specs.Parsers.{Parser, staged}
use Rattle.wasm_sections_parser.specs.Parsing.{reads, comes, between, at_end, one_of, IsNext, IsOver, Ends, Comes, Parses}
use Rattle.wasm_sections_parser.specs.Steps.{custom, counted, custom_next, found, in_part, contents, contents_next, ordered, next_section, over_stage, step, Next}
use Rattle.wasm_sections_parser.specs.StepLaws.{lawful-step}
use Rattle.wasm_sections_parser.specs.runs.hints.CutLaws.{short, done, stays}
use Rattle.wasm_sections_parser.specs.runs.steps.CustomLaws.{byte_takes}
use Rattle.wasm_sections_parser.specs.runs.steps.StepCases.{step_between}
use Rattle.wasm_module_validator_streaming.specs.Passing.{contents_at, IsHead, HasHead, behind, Passes}

-- ---- lists

-- more bytes are taken than the first has
take_past : {A : Type 0} (k : ℕ) (xs ys : List A) (n : ℕ) → k ≡ length xs + n → take k (xs ++ ys) ≡ xs ++ take n ys
take_past k [] ys n e = ap (λ (m : ℕ). take m ys) (omega (arith, e))
take_past zero (x ∷ xs) ys n e = absurd (omega (arith, e))
take_past (suc k) (x ∷ xs) ys n e = ap (λ l. x ∷ l) (take_past k xs ys n (omega (arith, e)))

-- ---- a section whose front is there

-- the custom section in as many bytes as there are
module _ (z : Settings) (p : Progress) (s tagged sized : State) (size : ℕ) (tag : byte s ≡ Done 0 tagged) (count : u32 tagged ≡ Done size sized) where
  -- what comes next are contents of so many bytes
  to_contents : next_section z p s ≡ contents z p 0 size sized
  unfolding next_section
  to_contents = ap (λ (o : Outcome ℕ). continue_with o (λ id. u32 >>= ordered z p id)) tag ∙ ap (λ (o : Outcome ℕ). continue_with o (ordered z p 0)) count

  contents_cut : length sized.rest < size → next_section z p s ≡ short sized.place (size - length sized.rest)
  unfolding contents
  contents_cut few =
      to_contents ∙ ap (λ (o : Outcome (List ℕ)). continue_with (continue_with o (λ text. pure (part_at sized text))) (contents_next z p 0)) (bytes-short size sized few)

  -- where the section ends
  abbrev after : State
  after = record { rest = drop size sized.rest; place = sized.place + size; settings = sized.settings; start = sized.start }

  contents_there : size ≤ length sized.rest → (text : List ℕ) (u : State) → name z.limits.string_bytes (part_at sized (take size sized.rest)) ≡ Done text u
      → next_section z p s ≡ done (custom text u.rest, counted p 0 0) after
  unfolding contents in_part
  contents_there enough text u named =
      to_contents
      ∙ ap (λ (o : Outcome (List ℕ)). continue_with (continue_with o (λ text. pure (part_at sized text))) (contents_next z p 0)) (bytes-enough size sized enough)
      ∙ ap (λ (o : Outcome (List ℕ)). found (custom_next p) after o) named

-- a value stays where more bytes come
value_stays : {A : Type 0} (d : Decoder A) (s t : State) (x : A) (more : List ℕ) → GoesOn (d s) more (d (extended s more)) → d s ≡ Done x t
    → d (extended s more) ≡ Done x (extended t more)
value_stays d s t x more g e = stays x t more (d s) (d (extended s more)) e g

-- a byte at least is needed where bytes end
abbrev some_short : {A : Type 0} → Outcome A → Type 0
some_short (Done x t) = Unit {0}
some_short (Short p h) = 0 < h
some_short (Fault k p) = Unit {0}

forward_some : {A : Type 0} (s : State) (o : Outcome A) → GoesForward s o → some_short o
forward_some s (Done x t) g = tt
forward_some s (Short p h) g = g.1
forward_some s (Fault k p) g = tt

-- what is left of a value is no more than there was
taken_front : {A : Type 0} (d : Decoder A) (s t : State) (x : A) → IsLawful d → d s ≡ Done x t → (text : List ℕ) × Takes s text t
taken_front d s t x l e = subst (GoesForward s) e (l.forward s)

-- ---- where a parser stands

-- if a section may come, the module is not over
over_not : (g : Stage) (place : ℕ) → between g place ≡ true → over_stage g ≡ false
over_not stages.Header place b = refl
over_not stages.Sections place b = refl
over_not (stages.Code left end) place b = refl
over_not stages.Ended place b = absurd cc
over_not stages.Failed place b = absurd cc

not_none : (text : List ℕ) → 0 < length text → (length text == 0) ≡ false
not_none text some = go (length text == 0) refl
  where
    go : (b : Bool) → (length text == 0) ≡ b → (length text == 0) ≡ false
    go true e = absurd (let none = eqb-true (length text) 0 e in omega (arith, none, some))
    go false e = e

module _ (p : Parser) (text : List ℕ) (some : 0 < length text) (b : between p.progress.stage p.offset ≡ true) where
  -- what a call answers is what comes next
  calls : (eof : Bool) (answer : Result Chunk ErrorValue) (q : Parser) → Comes p text eof answer q → Parses p text eof answer q
  calls eof answer q h =
      subst (λ (v : Bool). one_of v (IsOver p answer q) (one_of (at_end p text) (Ends p eof answer q) (Comes p text eof answer q))) (sym (over_not p.progress.stage p.offset b))
      (subst (λ (v : Bool). one_of (cond v (between p.progress.stage p.offset) false) (Ends p eof answer q) (Comes p text eof answer q)) (sym (not_none text some)) h)

-- ---- the front of a section

module _ (p : Parser) (text : List ℕ) (missing place : ℕ) (h : IsHead (reads p text) missing place) (b : between p.progress.stage p.offset ≡ true) where
  abbrev s : State
  s = reads p text

  abbrev z : Settings
  z = p.settings

  -- its id and its size were taken
  tag_takes : Takes s (0 ∷ []) h.tagged
  tag_takes = byte_takes s h.tagged 0 h.tag

  size_takes : (number : List ℕ) × Takes h.tagged number h.sized × IsUnsigned 32 h.size number
  size_takes = decides-u32.sound h.tagged h.sized h.size h.count

  same_settings : h.sized.settings ≡ z
  same_settings = size_takes.1.settings ∙ tag_takes.settings

  pub head_some : 0 < length text
  head_some = let e = ap length tag_takes.parts in omega (arith, e)

  -- all but the contents
  front_length : length text + missing ≡ 1 + length size_takes.0 + h.size
  front_length =
      let e = ap length tag_takes.parts in
      let f = ap length size_takes.1.parts in
      let g = length-append size_takes.0 h.sized.rest in
      let c = h.cut in
      omega (arith, e, f, g, c)

  sized_place : h.sized.place ≡ p.offset + 1 + length size_takes.0
  sized_place = let e = tag_takes.place in let f = size_takes.1.place in omega (arith, e, f)

  head_cut : comes p text ≡ short place missing
  head_cut =
      let some = h.some in
      let cut = h.cut in
      let few : length h.sized.rest < h.size = omega (arith, some, cut) in
      let left : h.size - length h.sized.rest ≡ missing = omega (arith, cut) in
      step_between z p.progress s b ∙ contents_cut z p.progress s h.tagged h.sized h.size h.tag h.count few
      ∙ (λ i. short {A = Next} (sym h.there i) (left i))

  module _ (later : List ℕ) (enough : missing ≤ length later) where
    abbrev tagged : State
    tagged = extended h.tagged later

    abbrev sized : State
    sized = extended h.sized later

    abbrev named : State
    named = extended h.named (take missing later)

    tag : byte (extended s later) ≡ Done 0 tagged
    tag = value_stays byte s h.tagged 0 later (lawful-byte.steady s later) h.tag

    count : u32 tagged ≡ Done h.size sized
    count = value_stays u32 h.tagged h.sized h.size later ((lawful-unsigned 4 4).steady h.tagged later) h.count

    -- the name is read from the contents
    contents_are : part_at sized (take h.size sized.rest) ≡ extended (contents_at s h.sized) (take missing later)
    contents_are = (λ i. record {
      rest = take_past h.size h.sized.rest later missing h.cut i;
      place = h.sized.place;
      settings = same_settings i;
      start = h.sized.place;
    })

    begins : name z.limits.string_bytes (part_at sized (take h.size sized.rest)) ≡ Done h.text named
    begins = ap (name z.limits.string_bytes) contents_are
        ∙ value_stays (name z.limits.string_bytes) (contents_at s h.sized) h.named h.text (take missing later)
        ((lawful-name z.limits.string_bytes).steady (contents_at s h.sized) (take missing later)) h.begins

    fits : h.size ≤ length sized.rest
    fits = let all = length-append h.sized.rest later in let cut = h.cut in omega (arith, all, cut, enough)

    abbrev ended : State
    ended = after z p.progress (extended s later) tagged sized h.size tag count

    -- no more of the contents is left than there are
    within : length named.rest ≤ h.size
    within =
        let t = taken_front (name z.limits.string_bytes) (part_at sized (take h.size sized.rest)) named h.text (lawful-name z.limits.string_bytes) begins in
        let e = ap length t.1.parts in
        let f = length-append t.0 named.rest in
        let g = length-take-le h.size sized.rest fits in
        omega (arith, e, f, g)

    abbrev section : CustomSectionReader
    section = record {
      name = record { ref_ptr = (0, 0); now = h.text };
      «data» = record { ref_ptr = (0, 0); now = named.rest };
      data_offset = h.sized.place + h.size - length named.rest;
      range = record { start = h.sized.place; end = h.sized.place + h.size };
    }

    head_next : IsNext p (text ++ later) (length text + missing) (Custom section) (behind p (length text + missing))
    head_next = record {
      after = ended;
      read = step_between z p.progress (extended s later) b
          ∙ contents_there z p.progress (extended s later) tagged sized h.size tag count fits h.text named begins;
      placed = (
        refl,
        omega (arith, within),
        record {
          id = 0;
          size = h.size;
          number = size_takes.0;
          rest = sized.rest;
          sized = size_takes.2;
          parts = ap (λ (l : List ℕ). l ++ later) (tag_takes.parts ∙ ap (λ (l : List ℕ). 0 ∷ l) size_takes.1.parts)
              ∙ ap (λ (l : List ℕ). 0 ∷ l) (append_assoc size_takes.0 h.sized.rest later);
          behind = sized_place;
        },
      );
      consumed = let e = front_length in let f = sized_place in omega (arith, e, f);
      offset = let e = front_length in let f = sized_place in omega (arith, e, f);
      settings = refl;
    }

  -- so the section goes by
  pub head_passes : Passes p text missing place (behind p (length text + missing))
  head_passes = record {
    front = head_some;
    some = h.some;
    between = b;
    cut = head_cut;
    whole = λ later enough. (section later enough, head_next later enough);
  }

-- ---- a front that is none, and does not become one

-- a value and where it ends are the only ones
only_value : {A : Type 0} (x y : A) (s t : State) (o : Outcome A) → o ≡ Done x s → o ≡ Done y t → x ≡ y
only_value x y s t o e f = value_is x y s t (sym e ∙ f)

only_state : {A : Type 0} (x y : A) (s t : State) (o : Outcome A) → o ≡ Done x s → o ≡ Done y t → s ≡ t
only_state x y s t o e f = state_is x y s t (sym e ∙ f)

none_missing : (xs : List ℕ) → length xs < 1 → xs ≡ []
none_missing [] few = refl
none_missing (x ∷ xs) few = absurd (omega (arith, few))

same_extended : (s : State) → extended s [] ≡ s
same_extended s = (λ i. record { rest = append-nil s.rest i; place = s.place; settings = s.settings; start = s.start })

refused_is_none : {A : Type 0} (o : Outcome A) (x : A) (t : State) → IsRefused o → o ≡ Done x t → ⊥
refused_is_none (Done y u) x t r e = r
refused_is_none (Short p h) x t r e = cc
refused_is_none (Fault k p) x t r e = cc

no_bytes : (xs : List ℕ) → length xs ≡ 0 → xs ≡ []
no_bytes [] e = refl
no_bytes (x ∷ xs) e = absurd (omega (arith, e))

abbrev reading : State → List ℕ → State
reading t text = record { rest = text; place = t.place; settings = t.settings; start = t.start }

-- of no byte there is no size
no_size : (t u : State) (n : ℕ) → t.rest ≡ [] → u32 t ≡ Done n u → ⊥
unfolding unsigned
no_size t u n e f = let g : u32 (reading t []) ≡ Done n u = subst (λ (l : List ℕ). u32 (reading t l) ≡ Done n u) e f in cc

byte_there : (s : State) (rest : List ℕ) → IsRefused (first_of_rest rest s) → length rest ≡ 0
byte_there s [] none = refl
byte_there s (b ∷ rest) none = absurd none

-- so of no byte, or of one, there is no front
pub no_front : (s : State) → IsRefused (byte s) → (later : List ℕ) (missing place : ℕ) → length later < 2 → IsHead (extended s later) missing place → ⊥
no_front s none later missing place few h =
    let t = byte_takes (extended s later) h.tagged 0 h.tag in
    let n = ap length t.parts in
    let all = length-append s.rest later in
    let x = byte_there s s.rest none in
    no_size h.tagged h.sized h.size (no_bytes h.tagged.rest (omega (arith, n, all, x, few))) h.count

module _ (s tagged : State) (id : ℕ) (tag : byte s ≡ Done id tagged) where
  -- another section
  pub other_id : (id ≡ 0 → ⊥) → (later : List ℕ) (missing place : ℕ) → IsHead (extended s later) missing place → ⊥
  other_id other later missing place h =
      other (only_value id 0 (extended tagged later) h.tagged (byte (extended s later)) (value_stays byte s tagged id later (lawful-byte.steady s later) tag) h.tag)

  tagged_is : (later : List ℕ) (missing place : ℕ) (h : IsHead (extended s later) missing place) → extended tagged later ≡ h.tagged
  tagged_is later missing place h =
      only_state id 0 (extended tagged later) h.tagged (byte (extended s later)) (value_stays byte s tagged id later (lawful-byte.steady s later) tag) h.tag

  -- a size that is not all there
  pub no_count : IsRefused (u32 tagged) → (later : List ℕ) (missing place : ℕ) → length later < 1 → IsHead (extended s later) missing place → ⊥
  no_count none later missing place few h =
      let here : tagged ≡ h.tagged =
      sym (same_extended tagged) ∙ ap (λ (l : List ℕ). extended tagged l) (sym (none_missing later few)) ∙ tagged_is later missing place h in
      refused_is_none (u32 tagged) h.size h.sized none (ap u32 here ∙ h.count)

  module _ (size : ℕ) (sized : State) (count : u32 tagged ≡ Done size sized) where
    count_stays : (later : List ℕ) (missing place : ℕ) (h : IsHead (extended s later) missing place) → u32 h.tagged ≡ Done size (extended sized later)
    count_stays later missing place h =
        ap u32 (sym (tagged_is later missing place h)) ∙ value_stays u32 tagged sized size later ((lawful-unsigned 4 4).steady tagged later) count

    size_is : (later : List ℕ) (missing place : ℕ) (h : IsHead (extended s later) missing place) → size ≡ h.size
    size_is later missing place h = only_value size h.size (extended sized later) h.sized (u32 h.tagged) (count_stays later missing place h) h.count

    sized_is : (later : List ℕ) (missing place : ℕ) (h : IsHead (extended s later) missing place) → extended sized later ≡ h.sized
    sized_is later missing place h = only_state size h.size (extended sized later) h.sized (u32 h.tagged) (count_stays later missing place h) h.count

    -- as much is missing as is left of the size
    pub missing_is : (later : List ℕ) (missing place : ℕ) → IsHead (extended s later) missing place → size ≡ length sized.rest + length later + missing
    missing_is later missing place h =
        let n = size_is later missing place h in
        let t = ap (λ (u : State). length u.rest) (sized_is later missing place h) in
        let all = length-append sized.rest later in
        let cut = h.cut in
        omega (arith, n, t, all, cut)

    pub there_is : (later : List ℕ) (missing place : ℕ) → IsHead (extended s later) missing place → place ≡ sized.place
    there_is later missing place h = h.there ∙ sym (ap (λ (u : State). u.place) (sized_is later missing place h))

    -- a section that is all there
    pub no_missing : size ≤ length sized.rest → (later : List ℕ) (missing place : ℕ) → IsHead (extended s later) missing place → ⊥
    no_missing all later missing place h = let e = missing_is later missing place h in let some = h.some in omega (arith, all, e, some)

    -- the contents, with the bytes that come
    contents_more : (later : List ℕ) (missing place : ℕ) (h : IsHead (extended s later) missing place)
        → name s.settings.limits.string_bytes (extended (contents_at s sized) later) ≡ Done h.text h.named
    contents_more later missing place h =
        ap (λ (u : State). name s.settings.limits.string_bytes (contents_at s u)) (sized_is later missing place h) ∙ h.begins

    -- a name that is not all there
    pub no_name : (p k : ℕ) → name s.settings.limits.string_bytes (contents_at s sized) ≡ Short p k
        → (0 < k) × ((later : List ℕ) (missing place : ℕ) → length later < k → IsHead (extended s later) missing place → ⊥)
    no_name p k e = (
      subst (λ (o : Outcome (List ℕ)). some_short o) e (forward_some (contents_at s sized) (name s.settings.limits.string_bytes (contents_at s sized)) ((lawful-name s.settings.limits.string_bytes).forward (contents_at s sized))),
      λ later missing place few h.
          let c = contents_more later missing place h in
          let stuck = (subst (λ (o : Outcome (List ℕ)). GoesOn o later (name s.settings.limits.string_bytes (extended (contents_at s sized) later))) e
          ((lawful-name s.settings.limits.string_bytes).steady (contents_at s sized) later)).0 few in
          let no = sym stuck ∙ c in cc,
    )

    -- a name that is refused
    pub bad_name : (k : Refusal) (p : ℕ) → name s.settings.limits.string_bytes (contents_at s sized) ≡ Fault k p
        → (later : List ℕ) (missing place : ℕ) → IsHead (extended s later) missing place → ⊥
    bad_name k p e later missing place h =
        let c = contents_more later missing place h in
        let stuck = subst (λ (o : Outcome (List ℕ)). GoesOn o later (name s.settings.limits.string_bytes (extended (contents_at s sized) later))) e
        ((lawful-name s.settings.limits.string_bytes).steady (contents_at s sized) later) in
        let no = sym stuck ∙ c in cc

-- ---- the same for a parser

-- where no section may come
pub none_between : (p : Parser) → between p.progress.stage p.offset ≡ false → (text : List ℕ) → HasHead p text → ⊥
none_between p b text h = let no = sym b ∙ h.between in cc

module _ (p : Parser) (text : List ℕ) where
  pub none_cut : (k : ℕ) → ((later : List ℕ) (missing place : ℕ) → length later < k → IsHead (extended (reads p text) later) missing place → ⊥)
      → (later : List ℕ) → length later < k → HasHead p (text ++ later) → ⊥
  none_cut k none later few h = none later h.missing h.place few h.head

  pub none_other : ((later : List ℕ) (missing place : ℕ) → IsHead (extended (reads p text) later) missing place → ⊥) → (later : List ℕ) → HasHead p (text ++ later) → ⊥
  none_other none later h = none later h.missing h.place h.head

  -- offsets end within the section
  pub none_far : (missing place : ℕ) → IsHead (reads p text) missing place → 2 ^ 64 ≤ p.offset + (length text + missing) → (later : List ℕ) → HasHead p (text ++ later) → ⊥
  none_far missing place g far later h =
      let e = missing_is (reads p text) g.tagged 0 g.tag g.size g.sized g.count later h.missing h.place h.head in
      let cut = g.cut in
      let all = length-append text later in
      let room = h.room in
      omega (arith, e, cut, all, room, far)

-- ---- more of the section

module _ (p : Parser) (gone : List ℕ) (missing place : ℕ) (q : Parser) (h : Passes p gone missing place q) where
  -- some of the bytes that are missing
  pub passes_on : (text : List ℕ) → length text < missing → Passes p (gone ++ text) (missing - length text) place q
  passes_on text few = record {
    front = let all = length-append gone text in let front = h.front in omega (arith, all, front);
    some = omega (arith, few);
    between = h.between;
    cut = cut_further (step p.settings p.progress (reads p gone)) (step p.settings p.progress (reads p (gone ++ text))) h.cut
        ((lawful-step p.settings p.progress).steady (reads p gone) text);
    whole = λ later enough.
        let n = h.whole (text ++ later) (let all = length-append text later in omega (arith, all, enough, few)) in
        let count : length gone + missing ≡ length (gone ++ text) + (missing - length text) = let all = length-append gone text in omega (arith, all, few) in (
          n.0,
          subst (λ (k : ℕ). IsNext p ((gone ++ text) ++ later) k (Custom n.0) q) count
              (subst (λ (l : List ℕ). IsNext p l (length gone + missing) (Custom n.0) q) (sym (append_assoc gone text later)) n.1),
        );
  }
    where
      cut_further : (o after : Outcome Next) → o ≡ short place missing → GoesOn o text after → after ≡ short place (missing - length text)
      cut_further o after e g = (subst (λ (v : Outcome Next). GoesOn v text after) e g).0 few

  -- all of them: it is a frame
  pub passes_all : (text : List ℕ) (eof : Bool) → missing ≤ length text
      → (c : CustomSectionReader) × Parses p (gone ++ text) eof (Ok (Parsed (length gone + missing) (Custom c))) q
  passes_all text eof enough =
      let n = h.whole text enough in
      let some : 0 < length (gone ++ text) = let all = length-append gone text in let front = h.front in omega (arith, all, front) in
      (n.0, calls p (gone ++ text) some h.between eof (Ok (Parsed (length gone + missing) (Custom n.0))) q n.1)

  -- none yet: they are asked for
  pub passes_asks : Parses p gone false (Ok (NeedMoreData (needed p.progress p.offset gone missing))) p
  passes_asks = calls p gone h.front h.between false (Ok (NeedMoreData (needed p.progress p.offset gone missing))) p (refl, (place, missing, h.cut, refl), refl)

  -- none, and no more come: the bytes end there
  pub passes_ends : (e : ErrorValue) → e.kind ≡ EndOfData missing → e.offset ≡ place → Parses p gone true (Err e) (staged p stages.Failed)
  passes_ends e kind offset = calls p gone h.front h.between true (Err e) (staged p stages.Failed) (
    subst IsNotMemory (sym kind) tt,
    subst (λ (k : ErrorKind). FailsAt k e.offset (comes p gone)) (sym kind) (h.cut ∙ (λ i. short {A = Next} (sym offset i) missing)),
    λ no. absurd (false≢true (sym no)),
    refl,
  )
