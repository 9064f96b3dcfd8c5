-- A validator that is told of a module as its bytes come: where it stands behind some frames, and what it has told by then.
use Rattle.std.proofs.Common.{◌≡◌, ◌∙◌, ◌⊎◌, ◌<◌, ◌≤◌, ◌+◌, ◌-◌, ◌^◌, length-append, length-drop, ℕ, zero, suc, Bool, true, false, List, [], ◌∷◌, ◌++◌, length, drop, Ok, Err, cond, refl, sym, ap, subst, inl, inr, arith, append_assoc}
use Rattle.std.specs.Prelude.{◌==◌}
use Rattle.std.proofs.lemmas.List.{append-nil}
use Rattle.std.specs.declared.ops.Range.{Range}
use Rattle.wasm_types.specs.decoding.Decoder.{State as Bytes}
use Rattle.wasm_types.specs.decoding.Denials.{Denies}
use Rattle.wasm_types.specs.decoding.DenialLaws.{denies, denies_from}
use Rattle.wasm_types.specs.decoding.ErrorValue.{ErrorValue}
use Rattle.wasm_types.specs.decoding.declared.error.ErrorKind.{ErrorKind}
use Rattle.wasm_types.specs.decoding.declared.error.ErrorKind.TheVariants.{OutOfMemory}
use Rattle.wasm_types.specs.settings.Limits.{IsWithinCeilings}
use Rattle.wasm_types.specs.settings.Settings.{Settings}
use Rattle.wasm_types.specs.trees.Trees.{TypeTree}
use Rattle.wasm_sections_parser.specs.items.frames.Outer.{Header, Part}
use Rattle.wasm_sections_parser.specs.items.frames.Outer as outer
use Rattle.wasm_sections_parser.specs.declared.frame.Encoding.{Encoding}
use Rattle.wasm_sections_parser.specs.declared.frame.Frame.{Frame}
use Rattle.wasm_sections_parser.specs.declared.frame.Frame.TheVariants as frames
use Rattle.wasm_sections_parser.specs.declared.parser.Chunk.TheVariants.{NeedMoreData, Parsed}
use Rattle.wasm_sections_parser.specs.declared.progress.Progress.{Progress}
use Rattle.wasm_sections_parser.specs.Parsers.{Parser}
use Rattle.wasm_sections_parser.specs.Parsing.{shape_of, at_end, Ends, Comes, IsOver, one_of, Parses}
use Rattle.wasm_sections_parser.specs.Steps.{Shape, version, custom, section, code, entry, the_end, is_over, step}
use Rattle.wasm_sections_parser.specs.runs.Modules.{IsModule}
use Rattle.wasm_sections_parser.specs.runs.ModuleLaws.{end_given}
use Rattle.wasm_sections_parser.specs.runs.RefusalLaws.{not_refused}
use Rattle.wasm_sections_parser.specs.runs.calls.Advance.{is_end, parsed_is_over, parsed_within}
use Rattle.wasm_sections_parser.specs.runs.calls.Calls.{shapes_of, Called, Calls}
use Rattle.wasm_sections_parser.specs.runs.calls.Runs.{fresh, entries, Framed, AreFramed}
use Rattle.wasm_sections_parser.specs.runs.steps.StepCases.{header_given, no_end}
use Rattle.wasm_sections.specs.declared.payload.Payload.{Payload}
use Rattle.wasm_sections.specs.declared.payload.Payload.TheVariants as payloads
use Rattle.wasm_sections.specs.Parsing.{ParsesPayload}
use Rattle.wasm_sections.specs.Payloads.{IsPayloadOf, IsRefusedAs, read_by, set}
use Rattle.wasm_module_validator.specs.resources.Reading.{context_of}
use Rattle.wasm_module_validator_index_spaces.specs.declared.view.validator_id.ValidatorId.{ValidatorId}
use Rattle.wasm_module_validator.specs.drivers.Sharing.{Handed}
use Rattle.wasm_module_validator.specs.drivers.reading.Reading.{IsReadAs}
use Rattle.wasm_module_validator_function_bodies.specs.code.Code.{IsFunctionOf}
use Rattle.wasm_module_validator_section_order.specs.items.Bodies.{IsReadBy}
use Rattle.wasm_module_validator.specs.module_validator_payloads.Progress.{Grows, HasGroup, nothing_kept}
use Rattle.wasm_module_validator.specs.declarations.Total.{IsPastTotal}
use Rattle.wasm_module_validator.specs.declarations.TotalLaws.{none_past}
use Rattle.wasm_module_validator.specs.module_validator_payloads.laws.Growing.{grows_further, total_before}
use Rattle.wasm_module_validator_section_order.specs.frames.FrontLaws.{modules_one, calls_joined, calls_with_end, shapes_before}
use Rattle.wasm_module_validator_section_order.specs.frames.JudgedLaws.{judged_more, judged_less}
use Rattle.wasm_module_validator_section_order.specs.frames.framed.laws.Complete.{module_comes}
use Rattle.wasm_module_validator.specs.module_validator_payloads.laws.Shapes.{frame_is}
use Rattle.wasm_module_validator.specs.state.invariant.Standing.{Stands}
use Rattle.wasm_module_validator_section_order.specs.rules_in_order.Steps.{SoFar, nothing, JudgesShape, JudgesShapes}
use Rattle.wasm_module_validator_section_order.specs.rules.Accepts.{AcceptsUnder}
use Rattle.wasm_module_validator_section_order.specs.rules.Syntax.{ModuleTree}
use Rattle.wasm_module_validator_section_order.specs.rules_in_order.laws.Judged.{judged_joined, judged_split, shape_keeps}
use Rattle.wasm_module_validator.specs.declared.payloads.ValidPayload.TheVariants as valid
use Rattle.wasm_module_validator.specs.declared.validator.State.TheVariants.{Unparsed, Module}
use Rattle.wasm_module_validator.specs.declared.validator.Validator.{Validator}
use Rattle.wasm_module_validator.specs.Accepts.{IsShown}
use Rattle.wasm_module_validator.specs.Methods.{learned, TakesBody}
use Rattle.wasm_module_validator.specs.Payloads.{TakesPayload}
use Rattle.wasm_module_validator.specs.Shown.{Learned}
use Rattle.wasm_module_validator_section_order.specs.items.AddingLaws.{denies_each}
use Rattle.wasm_module_validator.specs.laws.Verdict.{as_many_bodies, accepted_is_read, read_is_accepted}
use Rattle.wasm_module_validator_streaming.specs.Bodies.{AreFirst, IsJudgedSoFar}
use Rattle.wasm_module_validator_streaming.specs.laws.Bodies.{body_less, shapes_less, all_bodies, first_bodies}
use Rattle.wasm_module_validator_streaming.specs.laws.Payloads.{Next, IsNoHeader, denied, taken, body_taken, by_module, handed_out, end_is_told, end_learned, passes_before_end, header_denied, header_taken, late_header, limits_are, read_so, is_body}
use Rattle.wasm_module_validator_streaming.specs.laws.Unreadable.{judged_is_payload}

-- ---- lists

drop_within : {A : Type 0} (n : ℕ) (xs ys : List A) → n ≤ length xs → drop n (xs ++ ys) ≡ drop n xs ++ ys
drop_within zero xs ys h = refl
drop_within (suc n) [] ys h = absurd (omega (arith, h))
drop_within (suc n) (x ∷ xs) ys h = drop_within n xs ys (omega (arith, h))

true_false : true ≡ false → ⊥
true_false e = cc

-- ---- the header comes first, and only there

AreNoHeader : Shape → Type 0
AreNoHeader (version h) = ⊥
AreNoHeader (custom n c) = Unit {0}
AreNoHeader (section id c) = Unit {0}
AreNoHeader (code n k) = Unit {0}
AreNoHeader (entry c) = Unit {0}
AreNoHeader the_end = Unit {0}

HaveNoHeader : List Shape → Type 0
HaveNoHeader [] = Unit {0}
HaveNoHeader (x ∷ xs) = AreNoHeader x × HaveNoHeader xs

none_joined : (xs ys : List Shape) → HaveNoHeader xs → HaveNoHeader ys → HaveNoHeader (xs ++ ys)
unfolding HaveNoHeader
none_joined [] ys h k = k
none_joined (x ∷ xs) ys h k = (h.0, none_joined xs ys h.1 k)

none_there : (xs zs : List Shape) (h : Header) → HaveNoHeader (xs ++ version h ∷ zs) → ⊥
unfolding HaveNoHeader AreNoHeader
none_there [] zs h k = k.0
none_there (x ∷ xs) zs h k = none_there xs zs h k.1

no_entry_is : (es : List (List ℕ)) → HaveNoHeader (entries es)
unfolding HaveNoHeader AreNoHeader
no_entry_is [] = tt
no_entry_is (e ∷ es) = (tt, no_entry_is es)

module _ (z : Settings) where
  no_part_is : (x : Part) (text : List ℕ) (xs : List Shape) → Framed z x text xs → HaveNoHeader xs
  unfolding HaveNoHeader AreNoHeader
  no_part_is (outer.custom n c) text xs h = subst HaveNoHeader (sym h.1) (tt, tt)
  no_part_is (outer.section id c) text xs h = subst HaveNoHeader (sym h.1) (tt, tt)
  no_part_is (outer.code es) text xs h = subst HaveNoHeader (sym h.1) (tt, no_entry_is es)

  none_is : (ps : List Part) (text : List ℕ) (xs : List Shape) → AreFramed z ps text xs → HaveNoHeader xs
  unfolding HaveNoHeader AreNoHeader
  none_is [] text xs h = subst HaveNoHeader (sym h.1) tt
  none_is (x ∷ ps) text xs (front, back, fs, gs, one, others, whole, is) = subst HaveNoHeader (sym is) (none_joined fs gs (no_part_is x front fs one) (none_is ps back gs others))

rest_of : List Shape → List Shape
rest_of [] = []
rest_of (x ∷ xs) = xs

-- some frames
abbrev pub HasFrame : List Frame → Type 0
HasFrame [] = ⊥
HasFrame (f ∷ fs) = Unit {0}

-- behind another frame of a module no header comes
no_second_header : (z : Settings) (text : List ℕ) (ys zs : List Shape) (fs : List Frame) (h : Header) → IsModule z text ys → HasFrame fs
    → ys ++ the_end ∷ [] ≡ shapes_of fs ++ version h ∷ zs → ⊥
unfolding HaveNoHeader AreNoHeader rest_of
no_second_header z text ys zs [] h m some e = some
no_second_header z text ys zs (f ∷ fs) h m some e =
    let none : HaveNoHeader (m.frames.shapes ++ the_end ∷ []) = none_joined m.frames.shapes (the_end ∷ []) (none_is z m.outer.parts m.frames.parts_text m.frames.shapes m.frames.framed) (tt, tt) in
    let tails : m.frames.shapes ++ the_end ∷ [] ≡ shapes_of fs ++ version h ∷ zs = ap rest_of (sym (ap (λ xs. xs ++ the_end ∷ []) m.frames.frames) ∙ e) in
    none_there (shapes_of fs) zs h (subst HaveNoHeader tails none)

-- where a frame is no header it is one
abbrev IsHeader : Frame → Type 0
IsHeader f = (n : ℕ) × (l : Encoding) × (r : Range ℕ) × (f ≡ frames.Version n l r)

header_or_not : (f : Frame) → IsNoHeader f ⊎ IsHeader f
header_or_not (frames.Version n l r) = inr (n, l, r, refl)
header_or_not (frames.Custom c) = inl tt
header_or_not (frames.Section id b) = inl tt
header_or_not (frames.CodeStart n r k) = inl tt
header_or_not (frames.CodeEntry b) = inl tt
header_or_not (frames.End place) = inl tt

is_version : (f : Frame) (h : Header) → version h ≡ shape_of f → IsNoHeader f → ⊥
is_version (frames.Version n l r) h e k = k
is_version (frames.Custom c) h e k = absurd cc
is_version (frames.Section id b) h e k = absurd cc
is_version (frames.CodeStart n r i) h e k = absurd cc
is_version (frames.CodeEntry b) h e k = absurd cc
is_version (frames.End place) h e k = absurd cc

-- what comes first is a header
first_parsed : (q : Parser) (text : List ℕ) (eof : Bool) (n : ℕ) (f : Frame) (r : Parser) → q.progress ≡ fresh → Parses q text eof (Ok (Parsed n f)) r → IsNoHeader f → ⊥
unfolding step
first_parsed q text eof n f r first h later =
    go (length text == 0) (subst (λ (g : Progress). Parses (record { offset = q.offset; settings = q.settings; progress = g }) text eof (Ok (Parsed n f)) r) first h)
  where
    here : Parser
    here = record { offset = q.offset; settings = q.settings; progress = fresh }

    go : (b : Bool) → one_of (cond b false false) (Ends (record { offset = q.offset; settings = q.settings; progress = fresh }) eof (Ok (Parsed n f)) r)
        (Comes (record { offset = q.offset; settings = q.settings; progress = fresh }) text eof (Ok (Parsed n f)) r) → ⊥
    go true k = let g = header_given fresh _ k.after (shape_of f, r.progress) k.read in is_version f g.0 (ap (λ y. y.0) g.1) later
    go false k = let g = header_given fresh _ k.after (shape_of f, r.progress) k.read in is_version f g.0 (ap (λ y. y.0) g.1) later

-- ---- single calls

-- where more bytes are asked for, some may come, and the parser stays
pub asked : (q : Parser) (text : List ℕ) (eof : Bool) (n : ℕ) (r : Parser) → Parses q text eof (Ok (NeedMoreData n)) r → (eof ≡ false) × (r ≡ q)
asked q text eof n r h = over (is_over q.progress) h
  where
    between : (b : Bool) → one_of b (Ends q eof (Ok (NeedMoreData n)) r) (Comes q text eof (Ok (NeedMoreData n)) r) → (eof ≡ false) × (r ≡ q)
    between true g = (g.0, g.2)
    between false g = (g.0, g.2)

    over : (b : Bool) → one_of b (IsOver q (Ok (NeedMoreData n)) r) (one_of (at_end q text) (Ends q eof (Ok (NeedMoreData n)) r) (Comes q text eof (Ok (NeedMoreData n)) r)) → (eof ≡ false) × (r ≡ q)
    over true g = absurd g
    over false g = between (at_end q text) g

-- the end comes only where no byte follows
end_is_last : (q : Parser) (text : List ℕ) (eof : Bool) (n place : ℕ) (r : Parser) → Parses q text eof (Ok (Parsed n (frames.End place))) r → eof ≡ true
end_is_last q text eof n place r h = over (is_over q.progress) h
  where
    between : (b : Bool) → one_of b (Ends q eof (Ok (Parsed n (frames.End place))) r) (Comes q text eof (Ok (Parsed n (frames.End place))) r) → eof ≡ true
    between true g = g.0
    between false g = absurd (no_end q.settings q.progress r.progress _ g.after g.read)

    over : (b : Bool) → one_of b (IsOver q (Ok (Parsed n (frames.End place))) r)
        (one_of (at_end q text) (Ends q eof (Ok (Parsed n (frames.End place))) r) (Comes q text eof (Ok (Parsed n (frames.End place))) r)) → eof ≡ true
    over true g = absurd g
    over false g = between (at_end q text) g

-- a parser stands behind what it read
calls_offset : (fs : List Frame) (p q : Parser) (text rest : List ℕ) → Calls p text fs q rest → q.offset + length rest ≡ p.offset + length text
calls_offset [] p q text rest h =
    let place : p.offset ≡ q.offset = ap (λ (s : Parser). s.offset) h.0 in
    let left : length text ≡ length rest = ap length h.1 in
    omega (arith, place, left)
calls_offset (f ∷ fs) p q text rest (n, r, c, h) =
    let first = parsed_within p c.piece c.eof n f r c.parses in
    let fits = first.0 in
    let moved = first.2 in
    let others = calls_offset fs r q (drop n text) rest h in
    let whole : length text ≡ length c.piece + length c.later = ap length c.whole ∙ length-append c.piece c.later in
    let left : length (drop n text) ≡ length text - n = length-drop n text in
    omega (arith, fits, moved, others, whole, left)

-- out of memory denies nothing
pub memory_denies : (z : Settings) (text : List ℕ) (e : ErrorValue) → e.kind ≡ OutOfMemory → Denies e.kind (AcceptsUnder z text)
memory_denies z text e k = subst (λ (kind : ErrorKind). Denies kind (AcceptsUnder z text)) (sym k) tt

-- ---- where a validator stands

-- a parser of a module that begins at the offset 0
abbrev pub begins : Settings → Parser
begins z = record { offset = 0; settings = z; progress = fresh }

module _ (z : Settings) (id : ValidatorId) where
  -- these frames were judged, and lead to this
  abbrev pub AreJudged : List Frame → SoFar → Type 0
  AreJudged fs m = JudgesShapes z nothing (shapes_of fs) m

  -- Before the header, with no types, or behind it: what is kept stands for whatever was judged with the frames, and the list of types has
  -- grown by this module alone.
  abbrev pub FitsFrames : List Frame → Validator → Type 0
  FitsFrames fs v = ((v.state ≡ Unparsed) × (fs ≡ []) × (v.reached.progress.kept.groups ≡ []))
      ⊎ ((v.state ≡ Module) × HasFrame fs × ((m : SoFar) → AreJudged fs m → IsJudgedSoFar z v.reached m) × Grows (nothing_kept z).kept v.reached.progress.kept)

  -- These bytes came, and no more where that is said. Calls of a parser gave some frames of them, whatever follows, and left these bytes; the
  -- frames were judged, and so were the bodies; and the validator stands for that.
  pub record Goes (got : List ℕ) (eof : Bool) (q : Parser) (rest : List ℕ) (v : Validator) : Type 0 where
    pub frames : List Frame
    pub calls : (more : List ℕ) → (eof ≡ true → more ≡ []) → Calls (begins z) (got ++ more) frames q (rest ++ more)
    pub going : is_over q.progress ≡ false
    pub within : IsWithinCeilings z.limits
    pub settings : v.settings ≡ z
    pub own : v.id ≡ id
    pub some : (m : SoFar) × AreJudged frames m
    pub fits : FitsFrames frames v

  pub goes_first : (v : Validator) → IsWithinCeilings z.limits → v.state ≡ Unparsed → v.reached.progress.kept.groups ≡ [] → v.settings ≡ z → v.id ≡ id → Goes [] false (begins z) [] v
  goes_first v within unparsed none same own = record {
    frames = [];
    calls = λ more h. (refl, refl);
    going = refl;
    within = within;
    settings = same;
    own = own;
    some = (nothing, refl);
    fits = inl (unparsed, refl, none);
  }

  -- more bytes come
  pub goes_read : (got : List ℕ) (q : Parser) (rest : List ℕ) (v : Validator) (bs : List ℕ) → Goes got false q rest v → Goes (got ++ bs) false q (rest ++ bs) v
  goes_read got q rest v bs g = record {
    frames = g.frames;
    calls = λ more h. subst (λ (t : List ℕ). Calls (begins z) t g.frames q ((rest ++ bs) ++ more)) (sym (append_assoc got bs more))
        (subst (λ (t : List ℕ). Calls (begins z) (got ++ (bs ++ more)) g.frames q t) (sym (append_assoc rest bs more)) (g.calls (bs ++ more) (λ e. absurd (true_false (sym e)))));
    going = g.going;
    within = g.within;
    settings = g.settings;
    own = g.own;
    some = g.some;
    fits = g.fits;
  }

  -- no more bytes come
  pub goes_last : (got : List ℕ) (q : Parser) (rest : List ℕ) (v : Validator) → Goes got false q rest v → Goes got true q rest v
  goes_last got q rest v g = record {
    frames = g.frames;
    calls = λ more h. g.calls more (λ e. absurd (true_false (sym e)));
    going = g.going;
    within = g.within;
    settings = g.settings;
    own = g.own;
    some = g.some;
    fits = g.fits;
  }

  -- its parser stands where the bytes that are left begin
  pub goes_place : (got : List ℕ) (eof : Bool) (q : Parser) (rest : List ℕ) (v : Validator) → Goes got eof q rest v → q.offset + length rest ≡ length got
  goes_place got eof q rest v g =
      let there = calls_offset g.frames (begins z) q (got ++ []) (rest ++ []) (g.calls [] (λ e. refl)) in
      let left : length (rest ++ []) ≡ length rest = ap length (append-nil rest) in
      let all : length (got ++ []) ≡ length got = ap length (append-nil got) in
      omega (arith, there, left, all)

  -- ---- a module that is accepted

  -- These frames and one more come first among those of an accepted module.
  record ComesFirst (text : List ℕ) (fs : List Frame) (f : Frame) : Type 0 where
    all : List Shape
    others : List Shape
    is : IsModule z text all
    front : all ++ the_end ∷ [] ≡ shapes_of fs ++ shape_of f ∷ others
    before : SoFar
    judged : AreJudged fs before
    behind : SoFar
    next : JudgesShape z before (shape_of f) behind
    last : SoFar
    rest : JudgesShapes z behind others last
    bodies : AreFirst z last.tree last.bodies

  comes_first : (text : List ℕ) (fs : List Frame) (f : Frame) (r : Parser) (rest : List ℕ) → length text < 2 ^ 64 → Calls (begins z) text (fs ++ f ∷ []) r rest
      → AcceptsUnder z text → ComesFirst text fs f
  comes_first text fs f r rest room calls a =
      let h = accepted_is_read z text a in
      let ys : List Shape = h.1.0 in
      let zs = calls_with_end (begins z) r text rest (fs ++ f ∷ []) ys refl (omega (arith, room)) h.1.1 calls in
      let front = shapes_before fs f (ys ++ the_end ∷ []) zs.0 zs.1 in
      let whole : JudgesShapes z nothing (ys ++ the_end ∷ []) h.0 = judged_joined z ys (the_end ∷ []) nothing h.0 h.0 h.1.2 (h.0, refl, refl) in
      let parts = judged_split z (shapes_of fs) (shape_of f ∷ zs.0) nothing h.0 (subst (λ (xs : List Shape). JudgesShapes z nothing xs h.0) front whole) in
      record {
        all = ys;
        others = zs.0;
        is = h.1.1;
        front = front;
        before = parts.0;
        judged = parts.1;
        behind = parts.2.0;
        next = parts.2.1;
        last = h.0;
        rest = parts.2.2;
        bodies = first_bodies z h.0 (as_many_bodies z text h.0 h.1) h.2;
      }

  -- ---- a frame

  module _ (got : List ℕ) (eof : Bool) (q : Parser) (rest : List ℕ) (v : Validator) (g : Goes got eof q rest v)
      (n : ℕ) (f : Frame) (r : Parser) (parses : Parses q rest eof (Ok (Parsed n f)) r) where
    called : (more : List ℕ) → (eof ≡ true → more ≡ []) → Called q (rest ++ more) (Ok (Parsed n f)) r
    called more last = record { piece = rest; later = more; eof = eof; whole = refl; told = last; parses = parses }

    called_on : (more : List ℕ) → (eof ≡ true → more ≡ []) → Calls (begins z) (got ++ more) (g.frames ++ f ∷ []) r (drop n rest ++ more)
    called_on more last =
        subst (λ (t : List ℕ). Calls (begins z) (got ++ more) (g.frames ++ f ∷ []) r t) (drop_within n rest more (parsed_within q rest eof n f r parses).0)
        (calls_joined g.frames (begins z) q r (got ++ more) (rest ++ more) n f (g.calls more last) (called more last))

    -- before the header the parser stands where it began
    not_header : g.frames ≡ [] → IsNoHeader f → ⊥
    not_header none later =
        let same : Calls (begins z) (got ++ []) [] q (rest ++ []) = subst (λ (fs : List Frame). Calls (begins z) (got ++ []) fs q (rest ++ [])) none (g.calls [] (λ e. refl)) in
        first_parsed q rest eof n f r (ap (λ (p : Parser). p.progress) (sym same.0)) parses later

    -- what was judged behind the frame too
    judged_with : (m k : SoFar) → AreJudged g.frames m → JudgesShape z m (shape_of f) k → AreJudged (g.frames ++ f ∷ []) k
    judged_with m k j s = judged_more z g.frames f m k j s

    comes : (more : List ℕ) → (eof ≡ true → more ≡ []) → length (got ++ more) < 2 ^ 64 → AcceptsUnder z (got ++ more) → ComesFirst (got ++ more) g.frames f
    comes more last room a = comes_first (got ++ more) g.frames f r (drop n rest ++ more) room (called_on more last) a

    module _ (x : Payload) (is : IsPayloadOf f x) (w : Validator) where
      -- the frame goes on
      goes_with : w.settings ≡ z → w.id ≡ id → is_end f ≡ false → w.state ≡ Module → ((m : SoFar) → AreJudged g.frames m → Next z m f)
          → ((m : SoFar) → AreJudged g.frames m → (k : SoFar) → JudgesShape z m (shape_of f) k → IsJudgedSoFar z w.reached k)
          → Grows (nothing_kept z).kept w.reached.progress.kept → Goes got eof r (drop n rest) w
      goes_with same own on going next fits grown = record {
        frames = g.frames ++ f ∷ [];
        calls = called_on;
        going = parsed_is_over q rest eof n f r parses ∙ on;
        within = g.within;
        settings = same;
        own = own;
        some = let k = next g.some.0 g.some.1 in (k.0, judged_with g.some.0 k.0 g.some.1 k.1);
        fits = inr (going, some_frame g.frames, (λ k j. let a = judged_less z g.frames f k j in fits a.0 a.1 k a.2), grown);
      }
        where
          some_frame : (fs : List Frame) → HasFrame (fs ++ f ∷ [])
          some_frame [] = tt
          some_frame (h ∷ hs) = tt

      -- the same of a header that comes first
      judged_is_nothing : g.frames ≡ [] → (m : SoFar) → AreJudged g.frames m → nothing ≡ m
      judged_is_nothing none m j = subst (λ (fs : List Frame). AreJudged fs m) none j

      -- a payload that passes
      pub goes_on : TakesPayload x v (Ok valid.Ok) w → Goes got eof r (drop n rest) w
      goes_on t = go g.fits (header_or_not f)
        where
          before_end : (h : Frame) → IsPayloadOf h x → is_end h ≡ false
          before_end (frames.Version i l s) k = refl
          before_end (frames.Custom c) k = refl
          before_end (frames.Section i b) k = refl
          before_end (frames.CodeStart i s k) h = refl
          before_end (frames.CodeEntry b) k = refl
          before_end (frames.End place) k = absurd (passes_before_end place v w (subst (λ (y : Payload). TakesPayload y v (Ok valid.Ok) w) k t))

          go : FitsFrames g.frames v → IsNoHeader f ⊎ IsHeader f → Goes got eof r (drop n rest) w
          go (inl (st, none, empty)) (inl later) = absurd (not_header none later)
          go (inl (st, none, empty)) (inr (i, l, s, e)) =
              let first : x ≡ payloads.Version i l s = subst (λ (h : Frame). IsPayloadOf h x) e is in
              let h = header_taken z v w st g.settings i l s (subst (λ (y : Payload). TakesPayload y v (Ok valid.Ok) w) first t) in
              goes_with (h.1 ∙ g.settings) (h.2 ∙ g.own) (before_end f is) h.0
              (λ m j. subst (λ (k : SoFar). Next z k f) (judged_is_nothing none m j) (subst (λ (y : Frame). Next z nothing y) (sym e) h.3))
              (λ m j k shape. h.4 k (subst (λ (y : Frame). JudgesShape z nothing (shape_of y) k) e (subst (λ (k' : SoFar). JudgesShape z k' (shape_of f) k) (sym (judged_is_nothing none m j)) shape))) (h.5 empty)
          go (inr (st, some, fits, grown)) (inl later) =
              let first = taken z v w st g.some.0 f (fits g.some.0 g.some.1) later x is t in
              goes_with (ap (λ (u : Validator). u.settings) first.0 ∙ g.settings) (ap (λ (u : Validator). u.id) first.0 ∙ g.own) (before_end f is) (ap (λ (u : Validator). u.state) first.0 ∙ st)
              (λ m j. (taken z v w st m f (fits m j) later x is t).1) (λ m j. (taken z v w st m f (fits m j) later x is t).2)
              (grows_further (nothing_kept z).kept v.reached.progress.kept w.reached.progress.kept grown first.3)
          go (inr (st, some, fits, grown)) (inr (i, l, s, e)) =
              absurd (late_header v w st i l s (subst (λ (y : Payload). TakesPayload y v (Ok valid.Ok) w) (subst (λ (h : Frame). IsPayloadOf h x) e is) t))

      -- the list of types is not full because of this module alone
      not_past : Grows (nothing_kept z).kept v.reached.progress.kept → (e : ErrorValue) (Has : List TypeTree → ℕ → Type 0)
          → IsPastTotal v.reached.progress.kept.groups v.reached.progress.kept.items Has e → ⊥
      not_past grown e Has p = none_past z g.within Has e (total_before (nothing_kept z).kept v.reached.progress.kept Has e grown p)

      -- a payload that is refused
      pub payload_denied : (e : ErrorValue) → TakesPayload x v (Err e) w → (more : List ℕ) → (eof ≡ true → more ≡ []) → length (got ++ more) < 2 ^ 64 → Denies e.kind (AcceptsUnder z (got ++ more))
      payload_denied e t more last room = go g.fits (header_or_not f)
        where
          go : FitsFrames g.frames v → IsNoHeader f ⊎ IsHeader f → Denies e.kind (AcceptsUnder z (got ++ more))
          go (inl (st, none, empty)) (inl later) = absurd (not_header none later)
          go (inl (st, none, empty)) (inr (i, l, s, h)) =
              let first : x ≡ payloads.Version i l s = subst (λ (y : Frame). IsPayloadOf y x) h is in
              denies_from e.kind (Next z nothing (frames.Version i l s)) (AcceptsUnder z (got ++ more))
              (λ a. let c = comes more last room a in (
                c.behind,
                subst (λ (y : Frame). JudgesShape z nothing (shape_of y) c.behind) h
                    (subst (λ (k : SoFar). JudgesShape z k (shape_of f) c.behind) (sym (judged_is_nothing none c.before c.judged)) c.next),
              ))
              (header_denied z v w st g.settings i l s e (subst (λ (y : Payload). TakesPayload y v (Err e) w) first t))
          go (inr (st, some, fits, grown)) (inl later) =
              denies_each {X = (m : SoFar) × AreJudged g.frames m} e.kind (λ m. Next z m.0 f) (AcceptsUnder z (got ++ more))
              (λ a. let c = comes more last room a in ((c.before, c.judged), (c.behind, c.next)))
              (λ m. denied z v w st m.0 f (fits m.0 m.1) later x e (not_past grown e (HasGroup (read_by z x))) is t)
          go (inr (st, some, fits, grown)) (inr (i, l, s, h)) = denies e.kind (AcceptsUnder z (got ++ more)) (λ a.
              let c = comes more last room a in
              no_second_header z (got ++ more) c.all c.others g.frames _ c.is some (subst (λ (y : Frame). c.all ++ the_end ∷ [] ≡ shapes_of g.frames ++ shape_of y ∷ c.others) h c.front))

      -- ---- a body

      module _ (h : Handed) (body : Bytes) (t : TakesPayload x v (Ok (valid.Func h body)) w) where
        abbrev pub IsHandedText : List ℕ → Type 0
        IsHandedText text = IsFunctionOf z (context_of v.reached.progress.kept.groups v.reached.progress.kept.items.spaces) h.ty text

        abbrev pub IsHandedBody : Type 0
        IsHandedBody = IsHandedText body.rest

        handed : (b : Bytes) × (x ≡ payloads.CodeSectionEntry b) × (body ≡ set v.settings b) × TakesBody b v (Ok h) w
        handed = handed_out x v w h body t

        is_entry : IsPayloadOf f (payloads.CodeSectionEntry handed.0)
        is_entry = subst (IsPayloadOf f) handed.1 is

        entry_is : f ≡ frames.CodeEntry handed.0
        entry_is = frame_is f (payloads.CodeSectionEntry handed.0) (frames.CodeEntry handed.0) refl is_entry

        -- the bytes are those of the frame
        same_bytes : body.rest ≡ handed.0.rest
        same_bytes = ap (λ (b : Bytes). b.rest) handed.2

        -- it comes behind the header
        fits_body : (v.state ≡ Module) × ((m : SoFar) → AreJudged g.frames m → IsJudgedSoFar z v.reached m) × Grows (nothing_kept z).kept v.reached.progress.kept
        fits_body = go g.fits
          where
            go : FitsFrames g.frames v → (v.state ≡ Module) × ((m : SoFar) → AreJudged g.frames m → IsJudgedSoFar z v.reached m) × Grows (nothing_kept z).kept v.reached.progress.kept
            go (inl (st, none, empty)) = absurd (not_header none (subst IsNoHeader (sym entry_is) tt))
            go (inr (st, some, fits, grown)) = (st, fits, grown)

        -- what judges it reads it by the settings of the module
        pub body_read : (z.limits ≡ h.limits) × IsReadBy z h.features.0 body
        body_read =
            let m = g.some.0 in
            let s = fits_body.1 m g.some.1 in (
              limits_are z v w fits_body.0 m f s handed.0 is_entry h handed.3 g.settings,
              subst (IsReadBy z h.features.0) (sym handed.2) (read_so z v w fits_body.0 m f s handed.0 is_entry h handed.3 g.settings),
            )

        pub body_goes_on : IsHandedBody → Goes got eof r (drop n rest) w
        body_goes_on valid =
            let st = fits_body.0 in
            let step = λ (m : SoFar) (j : AreJudged g.frames m). body_taken z v w st m f (fits_body.1 m j) handed.0 is_entry h handed.3 (subst IsHandedText same_bytes valid) in
            let first = step g.some.0 g.some.1 in
            goes_with (ap (λ (u : Validator). u.settings) first.0 ∙ g.settings) (ap (λ (u : Validator). u.id) first.0 ∙ g.own) (ap is_end entry_is)
            (ap (λ (u : Validator). u.state) first.0 ∙ st) (λ m j. (step m j).1) (λ m j. (step m j).2)
            (grows_further (nothing_kept z).kept v.reached.progress.kept w.reached.progress.kept fits_body.2 first.3)

        pub body_denied : (k : ErrorKind) → Denies k IsHandedBody → (more : List ℕ) → (eof ≡ true → more ≡ []) → length (got ++ more) < 2 ^ 64 → Denies k (AcceptsUnder z (got ++ more))
        body_denied k d more last room = denies_from k IsHandedBody (AcceptsUnder z (got ++ more)) valid d
          where
            valid : AcceptsUnder z (got ++ more) → IsHandedBody
            valid a =
                let c = comes more last room a in
                let st = fits_body.0 in
                let s = fits_body.1 c.before c.judged in
                let j = is_body z v w st c.before f s handed.0 is_entry c.behind c.next in
                let known = shape_keeps z (shape_of f) c.before c.behind s.reached.2.judged c.next in
                let firsts = shapes_less z c.others c.behind c.last known c.rest c.bodies in
                subst IsHandedText (sym same_bytes)
                (by_module z v w st c.before f s handed.0 is_entry h handed.3 c.behind j (body_less z c.before c.behind handed.0.rest j firsts).1)

      -- ---- the end

      pub end_accepts : (t : Learned) → TakesPayload x v (Ok (valid.End t)) w → length got < 2 ^ 64 → (eof ≡ true) × AcceptsUnder z got × IsShown z got t × (t.id ≡ id)
      end_accepts t told room =
          let place = (end_is_told x v w t told).0 in
          let is_the_end = (end_is_told x v w t told).1 in
          let end_is : f ≡ frames.End place = frame_is f (payloads.End place) (frames.End place) refl (subst (IsPayloadOf f) is_the_end is) in
          let parsed : Parses q rest eof (Ok (Parsed n (frames.End place))) r = subst (λ (h : Frame). Parses q rest eof (Ok (Parsed n h)) r) end_is parses in
          let call : Called q (rest ++ []) (Ok (Parsed n (frames.End place))) r = record { piece = rest; later = []; eof = eof; whole = refl; told = λ e. refl; parses = parsed } in
          let whole = end_given g.frames (begins z) q r (got ++ []) (rest ++ []) n place refl (g.calls [] (λ e. refl)) call in
          let is_module : IsModule z got (shapes_of g.frames) = subst (λ (text : List ℕ). IsModule z text (shapes_of g.frames)) (append-nil got) whole.0 in
          let read : IsReadAs z got g.some.0 = (shapes_of g.frames, is_module, g.some.1) in
          let k = go is_module read (subst (λ (y : Payload). TakesPayload y v (Ok (valid.End t)) w) is_the_end told) g.fits end_is in
          (end_is_last q rest eof n place r parsed, k.0, k.1, k.2)
        where
          go : IsModule z got (shapes_of g.frames) → IsReadAs z got g.some.0 → {place : ℕ} → TakesPayload (payloads.End place) v (Ok (valid.End t)) w → FitsFrames g.frames v
              → f ≡ frames.End place → AcceptsUnder z got × IsShown z got t × (t.id ≡ id)
          go is_module read told' (inl (st, none, empty)) e = absurd (not_header none (subst IsNoHeader (sym e) tt))
          go is_module read {place} told' (inr (st, some, fits, grown)) e =
              let m = g.some.0 in
              let s = fits m g.some.1 in
              let accepted : AcceptsUnder z got = read_is_accepted z got m read (all_bodies z m (as_many_bodies z got m read) s.bodies) in
              let known : t ≡ learned v = end_learned z v w st place t told' in
              let front = module_comes z accepted.0 got accepted.1.spelled accepted.1.valid in
              let same : front.0 ≡ shapes_of g.frames = modules_one z got front.0 (shapes_of g.frames) room front.1 is_module in
              let judged : AreJudged g.frames front.2.0 = subst (λ (xs : List Shape). JudgesShapes z nothing xs front.2.0) same front.2.1 in
              let stands : Stands v.reached.progress.kept.groups v.reached.progress.kept.items z (record accepted.0 { code = [] }) =
              subst (λ (y : ModuleTree). Stands v.reached.progress.kept.groups v.reached.progress.kept.items z y) front.2.2 (fits front.2.0 judged).reached.2.stands in
              let shown : IsShown z got (learned v) = (accepted.0, accepted.1, stands) in
              (accepted, subst (λ (l : Learned). IsShown z got l) (sym known) shown, ap (λ (l : Learned). l.id) known ∙ g.own)

  -- ---- bytes that are refused

  pub bytes_refused : (got : List ℕ) (eof : Bool) (q : Parser) (rest : List ℕ) (v : Validator) (e : ErrorValue) (r : Parser) → Goes got eof q rest v → ParsesPayload q rest eof (Err e) r
      → (more : List ℕ) → (eof ≡ true → more ≡ []) → length (got ++ more) < 2 ^ 64 → AcceptsUnder z (got ++ more) → ⊥
  bytes_refused got eof q rest v e r g (inl h) more last room a =
      let read = accepted_is_read z (got ++ more) a in
      let m = read.1.1 in
      let call : Called q (rest ++ more) (Err e) r = record { piece = rest; later = more; eof = eof; whole = refl; told = last; parses = h } in
      not_refused g.frames (begins z) q r (got ++ more) (rest ++ more) e refl (g.calls more last) g.going call m.outer read.1.0 m.frames m.ordered m.counted m.counts (omega (arith, room))
  bytes_refused got eof q rest v e r g (inr h) more last room a = go h.frame h.refused (comes got eof q rest v g h.size h.frame h.behind h.parses more last room a)
    where
      go : (f : Frame) → IsRefusedAs f e → ComesFirst (got ++ more) g.frames f → ⊥
      go (frames.Version n l k) refused c = refused
      go (frames.Custom k) refused c = refused
      go (frames.Section i b) refused c = judged_is_payload z c.before c.behind i b e.kind e.offset c.next h.no_memory refused
      go (frames.CodeStart n k i) refused c = refused
      go (frames.CodeEntry b) refused c = refused
      go (frames.End place) refused c = refused
