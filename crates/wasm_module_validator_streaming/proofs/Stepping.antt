-- What a step of a module that comes in pieces leads to, by the laws of `specs/laws`.
use Rattle.std.proofs.Common.{◌≡◌, ◌∙◌, ◌⊎◌, ◌<◌, ◌≤◌, ◌+◌, ◌-◌, ◌^◌, ℕ, Bool, true, false, List, [], ◌∷◌, ◌++◌, length, drop, min, Option, Result, Ok, Err, inl, inr, refl, sym, ap, subst, arith, append-nil}
use Rattle.std.proofs.lemmas.Bool.{cases_order}
use Rattle.wasm_types.specs.decoding.Decoder.{State as Bytes}
use Rattle.wasm_types.specs.decoding.Denials.{Tells}
use Rattle.wasm_types.specs.decoding.DenialLaws.{denies}
use Rattle.wasm_types.specs.decoding.ErrorValue.{ErrorValue}
use Rattle.wasm_types.specs.decoding.declared.error.ErrorKind.TheVariants.{EndOfData}
use Rattle.wasm_types.specs.settings.Limits.{IsWithinCeilings}
use Rattle.wasm_types.specs.settings.Settings.{Settings}
use Rattle.wasm_sections_parser.specs.declared.frame.Frame.{Frame}
use Rattle.wasm_sections_parser.specs.declared.parser.Chunk.TheVariants.{Parsed}
use Rattle.wasm_sections_parser.specs.Parsers.{Parser}
use Rattle.wasm_sections_parser.specs.Parsing.{between, reads, Parses}
use Rattle.wasm_sections_parser.specs.runs.calls.Advance.{parsed_is_over, parsed_within}
use Rattle.wasm_sections_parser.specs.runs.calls.Calls.{shapes_of, Calls}
use Rattle.wasm_sections_parser.specs.runs.hints.Hints.{AreBytes}
use Rattle.wasm_sections.specs.declared.payload.Payload.{Payload}
use Rattle.wasm_sections.specs.declared.parser.Chunk.TheVariants as chunks
use Rattle.wasm_sections.specs.declared.parser.Parser.{Parser as Payloads}
use Rattle.wasm_sections.specs.Parsing.{ParsesPayload}
use Rattle.wasm_sections.specs.Payloads.{IsPayloadOf}
use Rattle.wasm_module_validator.specs.resources.Reading.{context_of}
use Rattle.wasm_module_validator_index_spaces.specs.declared.view.validator_id.ValidatorId.{ValidatorId}
use Rattle.wasm_module_validator.specs.drivers.Sharing.{Handed}
use Rattle.wasm_module_validator_function_bodies.specs.code.Code.{IsFunctionOf}
use Rattle.wasm_module_validator.specs.module_validator_payloads.Progress.{Kept}
use Rattle.wasm_module_validator_section_order.specs.rules_in_order.Steps.{SoFar, nothing, JudgesShapes}
use Rattle.wasm_module_validator_section_order.specs.rules.Accepts.{AcceptsUnder}
use Rattle.wasm_module_validator.proofs.Validity.{accepted_sound}
use Rattle.wasm_module_validator.specs.declared.validator.State.TheVariants.{Unparsed}
use Rattle.wasm_module_validator.specs.declared.validator.Validator.{Validator}
use Rattle.wasm_module_validator.specs.declared.payloads.ValidPayload.TheVariants as valid
use Rattle.wasm_module_validator.specs.Payloads.{TakesPayload}
use Rattle.wasm_module_validator.specs.Shown.{Learned}
use Rattle.wasm_module_validator_streaming.specs.declared.judging.Judging.{Judging}
use Rattle.wasm_module_validator_streaming.specs.declared.reading.ReadError.{ReadError}
use Rattle.wasm_module_validator_streaming.specs.declared.reading.ReadError.TheVariants as errors
use Rattle.wasm_module_validator_streaming.specs.declared.taking.Taken.{Taken}
use Rattle.wasm_module_validator_streaming.specs.declared.taking.Taken.TheVariants as taken
use Rattle.wasm_module_validator_streaming.specs.Awaiting.{Awaits, IsNotRefused}
use Rattle.wasm_module_validator_streaming.specs.Bodies.{AreFirst}
use Rattle.wasm_module_validator_streaming.specs.Judges.{HasItsJudge}
use Rattle.wasm_module_validator_streaming.specs.Passing.{IsHead, HasHead, Passes, behind}
use Rattle.wasm_module_validator_streaming.specs.Pieces.{Answers, Stops}
use Rattle.wasm_module_validator_streaming.specs.Payloads.{JudgesFunction, StepsPayload}
use Rattle.wasm_module_validator_streaming.specs.Taking.{IsMidst, IsPassed, Takes}
use Rattle.wasm_module_validator_streaming.specs.Verdicts.{IsVerdict, IsRefusal, GoesAt, StandsAt, ShownAt, DeniedAt, WaitsAt, AnswersReader, StopsReader}
use Rattle.wasm_module_validator_streaming.specs.laws.GoingBy.{GoesBy, begins_by, some_by, all_by, by_ends, by_awaits}
use Rattle.wasm_module_validator_streaming.specs.laws.Passing.{head_passes, head_some, none_between}
use Rattle.wasm_module_validator_streaming.specs.laws.Payloads.{handed_out, body_handed}
use Rattle.wasm_module_validator_streaming.specs.laws.Waiting.{awaits_more, asks_some, awaits_header}
use Rattle.wasm_module_validator_streaming.specs.laws.Running.{Goes, FitsFrames, begins, goes_first, asked, goes_place, goes_on, payload_denied, body_read, body_goes_on, body_denied, end_accepts, bytes_refused}

module _ (z : Settings) (id : ValidatorId) (got : List ℕ) (eof : Bool) (q : Parser) (rest : List ℕ) (v : Validator) (g : Goes z id got eof q rest v)
    (n : ℕ) (f : Frame) (r : Parser) (parses : Parses q rest eof (Ok (Parsed n f)) r) (x : Payload) (is : IsPayloadOf f x) (w : Validator) where
  -- the answer tells whether a body is that of a valid function of the module as it is kept
  judged_here : (answer : Result (Unit {0}) ErrorValue) (j : JudgesFunction x v answer w)
      → Tells answer (IsFunctionOf z (context_of v.reached.progress.kept.groups v.reached.progress.kept.items.spaces) j.handed.ty j.body.rest)
  judged_here answer j =
      let read = body_read z id got eof q rest v g n f r parses x is w j.handed j.body j.takes in
      let out = handed_out x v w j.handed j.body j.takes in
      let handed = body_handed out.0 v w j.handed out.3 in
      subst (λ (k : Kept). Tells answer (IsFunctionOf z (context_of k.groups k.items.spaces) j.handed.ty j.body.rest)) handed.resources (j.told z read.0 read.1)

  passed_on : TakesPayload x v (Ok valid.Ok) w ⊎ JudgesFunction x v (Ok tt) w → Goes z id got eof r (drop n rest) w
  passed_on (inl t) = goes_on z id got eof q rest v g n f r parses x is w t
  passed_on (inr j) = body_goes_on z id got eof q rest v g n f r parses x is w j.handed j.body j.takes (judged_here (Ok tt) j)

  item_taken : (k : ℕ) → StepsPayload x n v (taken.Item k) w → (0 < k) × (k ≤ length rest) × Goes z id got eof r (drop k rest) w
  item_taken k (same, t) =
      let next = passed_on t in
      let within = parsed_within q rest eof n f r parses in
      let some = within.1 (sym (parsed_is_over q rest eof n f r parses) ∙ next.going) in
      subst (λ (m : ℕ). (0 < m) × (m ≤ length rest) × Goes z id got eof r (drop m rest) w) (sym same) (some, within.0, next)

  end_is_verdict : (t : Learned) → StepsPayload x n v (taken.Ended t) w → length got < 2 ^ 64 → (eof ≡ true) × IsVerdict z id got t
  end_is_verdict t told room =
      let k = end_accepts z id got eof q rest v g n f r parses x is w t told room in
      (k.0, (k.1, k.2, accepted_sound z got k.1, k.3))

  refusal_denies : (e : ErrorValue) → StepsPayload x n v (taken.Refused e) w → (more : List ℕ) → (eof ≡ true → more ≡ []) → length (got ++ more) < 2 ^ 64 → IsRefusal z (got ++ more) e
  refusal_denies e (inl t) more last room = payload_denied z id got eof q rest v g n f r parses x is w e t more last room
  refusal_denies e (inr j) more last room = body_denied z id got eof q rest v g n f r parses x is w j.handed j.body j.takes e.kind (judged_here (Err e) j) more last room

-- ---- a call

-- where no contents go by, the parser stands before what is left
pub goes_next : (first now : Judging) (got : List ℕ) (eof : Bool) (rest : List ℕ) → StandsAt first got eof rest now → now.passing ≡ 0
    → Goes first.validator.settings first.validator.id got eof now.parser.frames rest now.validator
goes_next first now got eof rest s idle = go s.goes
  where
    go : GoesAt first.validator.settings first.validator.id got eof rest now → Goes first.validator.settings first.validator.id got eof now.parser.frames rest now.validator
    go (inl (none, g)) = g
    go (inr b) = absurd (let some = b.passes.some in omega (arith, some, idle))

-- and where some do, before them
pub goes_by : (first now : Judging) (got : List ℕ) (eof : Bool) (rest : List ℕ) → StandsAt first got eof rest now → 0 < now.passing
    → GoesBy first.validator.settings first.validator.id got eof now.parser.frames rest now.validator now.passing now.contents
goes_by first now got eof rest s some = go s.goes
  where
    go : GoesAt first.validator.settings first.validator.id got eof rest now
        → GoesBy first.validator.settings first.validator.id got eof now.parser.frames rest now.validator now.passing now.contents
    go (inl (none, g)) = absurd (omega (arith, none, some))
    go (inr b) = b

-- more bytes are asked for: more may come, and the parser stays
pub asked_for : (q r : Parser) (rest : List ℕ) (eof : Bool) (n : ℕ) → ParsesPayload q rest eof (Ok (chunks.NeedMoreData n)) r
    → (eof ≡ false) × (r ≡ q) × ParsesPayload r rest false (Ok (chunks.NeedMoreData n)) r × (0 < n)
asked_for q r rest eof n h =
    let k = asked q rest eof n r h in
    let more = subst (λ (b : Bool). ParsesPayload q rest b (Ok (chunks.NeedMoreData n)) r) k.0 h in
    (k.0, k.1, subst (λ (p : Parser). ParsesPayload p rest false (Ok (chunks.NeedMoreData n)) r) (sym k.1) more, asks_some q r rest n more)

module _ (first now after : Judging) (got : List ℕ) (eof : Bool) (rest : List ℕ) (s : StandsAt first got eof rest now) (idle : now.passing ≡ 0) where
  g : Goes first.validator.settings first.validator.id got eof now.parser.frames rest now.validator
  g = goes_next first now got eof rest s idle

  -- a payload was taken
  pub payload_takes : (n : ℕ) (x : Payload) → ParsesPayload now.parser.frames rest eof (Ok (chunks.Parsed n x)) after.parser.frames → length got < 2 ^ 64
      → (result : Taken Learned) → StepsPayload x n now.validator result after.validator → HasItsJudge after → after.passing ≡ 0
      → Takes StandsAt ShownAt DeniedAt WaitsAt first got eof rest result after
  payload_takes n x (f, parses, is) room (taken.Item k) t judge still =
      let item = item_taken first.validator.settings first.validator.id got eof now.parser.frames rest now.validator g n f after.parser.frames parses x is after.validator k t in
      (item.0, item.1, record { goes = inl (still, item.2); judge = judge })
  payload_takes n x (f, parses, is) room (taken.Waits k) t judge still = absurd t
  payload_takes n x (f, parses, is) room (taken.Ended l) t judge still = end_is_verdict first.validator.settings first.validator.id got eof now.parser.frames rest now.validator g n f after.parser.frames parses x is after.validator l t room
  payload_takes n x (f, parses, is) room (taken.Refused e) t judge still = refusal_denies first.validator.settings first.validator.id got eof now.parser.frames rest now.validator g n f after.parser.frames parses x is after.validator e t

  -- the bytes are refused
  pub refusal_takes : (e : ErrorValue) (r : Parser) → ParsesPayload now.parser.frames rest eof (Err e) r → Takes StandsAt ShownAt DeniedAt WaitsAt first got eof rest (taken.Refused e) after
  refusal_takes e r h = λ more last room. denies e.kind (AcceptsUnder first.validator.settings (got ++ more)) (λ a. bytes_refused first.validator.settings first.validator.id got eof now.parser.frames rest now.validator e r g h more last room a)

  -- with a parser that is as it was it stands there too
  pub stands_same : after.parser.frames ≡ now.parser.frames → after.validator ≡ now.validator → after.passing ≡ now.passing → HasItsJudge after → StandsAt first got eof rest after
  stands_same same_parser same_validator same_passing judge = record {
    goes = inl (
      same_passing ∙ idle,
      subst (λ (q : Parser). Goes first.validator.settings first.validator.id got eof q rest after.validator) (sym same_parser)
          (subst (λ (v : Validator). Goes first.validator.settings first.validator.id got eof now.parser.frames rest v) (sym same_validator) g),
    );
    judge = judge;
  }

  -- and where it is said that more may come
  pub stands_still : eof ≡ false → after.parser.frames ≡ now.parser.frames → after.validator ≡ now.validator → after.passing ≡ now.passing → HasItsJudge after
      → StandsAt first got false rest after
  stands_still may same_parser same_validator same_passing judge =
      subst (λ (b : Bool). StandsAt first got b rest after) may (stands_same same_parser same_validator same_passing judge)

module _ (first now : Judging) (got : List ℕ) (rest : List ℕ) (s : StandsAt first got false rest now) (idle : now.passing ≡ 0)
    (n : ℕ) (asks : ParsesPayload now.parser.frames rest false (Ok (chunks.NeedMoreData n)) now.parser.frames) where
  -- so many more bytes are needed, or fewer; and with these there is no front
  pub wait_takes : (k : ℕ) → 0 < k → k ≤ n → ((more : List ℕ) → length more < k → HasHead now.parser.frames (rest ++ more) → ⊥)
      → Takes StandsAt ShownAt DeniedAt WaitsAt first got false rest (taken.Waits k) now
  wait_takes k some few none = (
    refl,
    s,
    (some, λ more bytes less. inl (idle, awaits_more now.parser.frames now.parser.frames rest n asks more bytes (omega (arith, few, less)), none more less)),
  )

  -- the front of a custom section was taken
  pub front_takes : (after : Judging) (missing place : ℕ) → between now.parser.frames.progress.stage now.parser.frames.offset ≡ true
      → IsHead (reads now.parser.frames rest) missing place → after.parser.frames ≡ behind now.parser.frames (length rest + missing)
      → after.passing ≡ missing → after.contents ≡ place → after.validator ≡ now.validator → HasItsJudge after
      → Takes StandsAt ShownAt DeniedAt WaitsAt first got false rest (taken.Item (length rest)) after
  front_takes after missing place b h same_parser same_passing same_contents same_validator judge = (
    head_some now.parser.frames rest missing place h b,
    omega arith,
    record { goes = inr (begins_by first.validator.settings first.validator.id got false after.parser.frames after.validator after.passing after.contents now.parser.frames rest (length rest) refl there passes); judge = judge },
  )
    where
      there : Goes first.validator.settings first.validator.id got false now.parser.frames rest after.validator
      there = subst (λ (v : Validator). Goes first.validator.settings first.validator.id got false now.parser.frames rest v) (sym same_validator) (goes_next first now got false rest s idle)

      passes : Passes now.parser.frames rest after.passing after.contents after.parser.frames
      passes =
          subst (λ (q : Parser). Passes now.parser.frames rest after.passing after.contents q) (sym same_parser)
          (subst (λ (c : ℕ). Passes now.parser.frames rest after.passing c (behind now.parser.frames (length rest + missing))) (sym same_contents)
          (subst (λ (m : ℕ). Passes now.parser.frames rest m place (behind now.parser.frames (length rest + missing))) (sym same_passing)
          (head_passes now.parser.frames rest missing place h b)))

-- ---- contents that go by

pub none_left : (xs : List ℕ) → length xs ≡ 0 → xs ≡ []
none_left [] e = refl
none_left (x ∷ xs) e = absurd (omega (arith, e))

module _ (first now : Judging) (got : List ℕ) (eof : Bool) (rest : List ℕ) (s : StandsAt first got eof rest now) (some : 0 < now.passing) where
  underway : GoesBy first.validator.settings first.validator.id got eof now.parser.frames rest now.validator now.passing now.contents
  underway = goes_by first now got eof rest s some

  -- if no more bytes come, they end too early
  pub contents_end : eof ≡ true → rest ≡ [] → (e : ErrorValue) → e.kind ≡ EndOfData now.passing → e.offset ≡ now.contents
      → Takes StandsAt ShownAt DeniedAt WaitsAt first got eof rest (taken.Refused e) now
  contents_end last none e kind offset = λ more no_more room. denies e.kind (AcceptsUnder first.validator.settings (got ++ more)) (λ a.
      by_ends first.validator.settings first.validator.id got now.parser.frames rest now.validator now.passing now.contents
      (subst (λ (b : Bool). GoesBy first.validator.settings first.validator.id got b now.parser.frames rest now.validator now.passing now.contents) last underway) none e kind offset
      more (λ t. no_more last) room a)

  -- none is there, and some may come
  pub contents_wait : eof ≡ false → rest ≡ [] → Takes StandsAt ShownAt DeniedAt WaitsAt first got eof rest (taken.Waits 1) now
  contents_wait may none = (may, s, (omega arith, λ more bytes few. inr (some, ap (λ (l : List ℕ). l ++ more) none ∙ none_left more (omega (arith, few)))))

  -- those that are there go by
  pub contents_take : (n : ℕ) → n ≡ min now.passing (length rest) → 0 < length rest → (after : Judging) → after.parser ≡ now.parser → after.validator ≡ now.validator
      → after.passing ≡ now.passing - n → after.contents ≡ now.contents → HasItsJudge after
      → Takes StandsAt ShownAt DeniedAt WaitsAt first got eof rest (taken.Item n) after
  contents_take n least there after same_parser same_validator same_passing same_contents judge =
      (omega (arith, least, there, some), omega (arith, least), record { goes = go (cases_order now.passing (length rest)); judge = judge })
    where
      done : now.passing ≤ length rest → GoesAt first.validator.settings first.validator.id got eof (drop n rest) after
      done enough =
          let all : n ≡ now.passing = omega (arith, least, enough) in
          inl (
            omega (arith, same_passing, all),
            subst (λ (q : Payloads). Goes first.validator.settings first.validator.id got eof q.frames (drop n rest) after.validator) (sym same_parser)
                (subst (λ (v : Validator). Goes first.validator.settings first.validator.id got eof now.parser.frames (drop n rest) v) (sym same_validator)
                (subst (λ (k : ℕ). Goes first.validator.settings first.validator.id got eof now.parser.frames (drop k rest) now.validator) (sym all)
                (all_by first.validator.settings first.validator.id got eof now.parser.frames now.validator now.passing now.contents rest underway enough))),
          )

      more : length rest < now.passing → GoesAt first.validator.settings first.validator.id got eof (drop n rest) after
      more few =
          let all : n ≡ length rest = omega (arith, least, few) in
          inr (subst (λ (q : Payloads). GoesBy first.validator.settings first.validator.id got eof q.frames (drop n rest) after.validator after.passing after.contents) (sym same_parser)
          (subst (λ (v : Validator). GoesBy first.validator.settings first.validator.id got eof now.parser.frames (drop n rest) v after.passing after.contents) (sym same_validator)
          (subst (λ (m : ℕ). GoesBy first.validator.settings first.validator.id got eof now.parser.frames (drop n rest) now.validator m after.contents) (sym same_passing)
          (subst (λ (c : ℕ). GoesBy first.validator.settings first.validator.id got eof now.parser.frames (drop n rest) now.validator (now.passing - n) c) (sym same_contents)
          (some_by first.validator.settings first.validator.id got eof now.parser.frames now.validator now.passing now.contents rest underway n all few)))))

      go : (now.passing ≡ length rest) ⊎ ((now.passing < length rest) ⊎ (length rest < now.passing)) → GoesAt first.validator.settings first.validator.id got eof (drop n rest) after
      go (inl e) = done (omega (arith, e))
      go (inr (inl l)) = done (omega (arith, l))
      go (inr (inr l)) = more l

-- offsets have 64 bits
pub midst_room : (eof : Bool) (rest : List ℕ) (now : Judging) → IsMidst StandsAt eof rest now → now.passing ≡ 0 → now.parser.frames.offset + length rest < 2 ^ 64
midst_room eof rest now m idle =
    let there = goes_place m.first.validator.settings m.first.validator.id m.got eof now.parser.frames rest now.validator (goes_next m.first now m.got eof rest m.there idle) in
    let room = m.room in
    omega (arith, there, room)

-- ---- the first and the last

-- one that is new stands behind no bytes
pub begins_there : (z : Settings) (j : Judging) → IsWithinCeilings z.limits → j.validator.state ≡ Unparsed → j.validator.settings ≡ z → j.validator.reached.progress.kept.groups ≡ []
    → j.parser.frames ≡ begins z → HasItsJudge j → j.passing ≡ 0 → StandsAt j [] false [] j
begins_there z j within unparsed same none there judge idle =
    let y = j.validator.settings in
    record {
      goes = inl (
        idle,
        subst (λ (q : Parser). Goes y j.validator.id [] false q [] j.validator) (ap begins same ∙ sym there)
            (goes_first y j.validator.id j.validator (subst (λ (s : Settings). IsWithinCeilings s.limits) (sym same) within) unparsed none refl refl),
      );
      judge = judge;
    }

-- and waits for the header
pub waits_first : (z : Settings) (j : Judging) → j.parser.frames ≡ begins z → j.passing ≡ 0 → WaitsAt j []
waits_first z j there idle = inl (
  idle,
  subst (λ (q : Parser). Awaits q []) (sym there) (awaits_header z),
  none_between j.parser.frames (ap (λ (q : Parser). between q.progress.stage q.offset) there) [],
)

-- what is answered is of the settings that it judges by
pub answers_reader : (z : Settings) (id : ValidatorId) (j : Judging) → j.validator.settings ≡ z → j.validator.id ≡ id → (most : ℕ) (before after : Option (List ℕ))
    → (result : Result Learned ReadError) → Answers (ShownAt j) (DeniedAt j) most before after result → AnswersReader z id most before after result
answers_reader z id j same own most before after (Ok t) a = record {
  all = a.all;
  read = a.read;
  ended = a.ended;
  within = a.within;
  known = subst (λ (y : Settings). IsVerdict y id a.all t) same (subst (λ (i : ValidatorId). IsVerdict j.validator.settings i a.all t) own a.known);
}
answers_reader z id j same own most before after (Err (errors.Refused e)) a = record {
  got = a.got;
  read = a.read;
  eof = a.eof;
  ended = a.ended;
  refused = λ more last room. subst (λ (y : Settings). IsRefusal y (a.got ++ more) e) same (a.refused more last room);
}
answers_reader z id j same own most before after (Err errors.Read) a = a
answers_reader z id j same own most before after (Err errors.TooLong) a = a

-- frames that it took were judged, and none is refused of what is left
unfoldable pub not_refused_here : (z : Settings) (id : ValidatorId) (text : List ℕ) (q : Parser) (rest : List ℕ) (v : Validator) → Goes z id text false q rest v → Awaits q rest → IsNotRefused z text
not_refused_here z id text q rest v g w = record {
  frames = g.frames;
  behind = q;
  left = rest;
  calls = subst (λ (t : List ℕ). Calls (begins z) t g.frames q rest) (append-nil text)
      (subst (λ (t : List ℕ). Calls (begins z) (text ++ []) g.frames q t) (append-nil rest) (g.calls [] (λ e. refl)));
  read = g.some.0;
  judged = g.some.1;
  bodies = go g.fits;
  awaits = w;
}
  where
    none : g.frames ≡ [] → nothing ≡ g.some.0
    none e = subst (λ (fs : List Frame). JudgesShapes z nothing (shapes_of fs) g.some.0) e g.some.1

    go : FitsFrames z id g.frames v → AreFirst z g.some.0.tree g.some.0.bodies
    go (inl (st, empty, types)) = subst (λ (m : SoFar). AreFirst z m.tree m.bodies) (none empty) tt
    go (inr (st, some, fits, grown)) = (fits g.some.0 g.some.1).bodies

-- the same where contents of a section go by, none of which are left
unfoldable pub by_not_refused : (z : Settings) (id : ValidatorId) (text : List ℕ) (q : Parser) (rest : List ℕ) (v : Validator) (missing place : ℕ)
    → GoesBy z id text false q rest v missing place → rest ≡ [] → IsNotRefused z text
by_not_refused z id text q rest v missing place b none =
    not_refused_here z id text b.before (b.gone ++ rest) v b.goes (by_awaits z id text false q rest v missing place b none)

-- What was taken was judged; what is left is in no whole item, and in no custom section of which the front is there.
pub record IsLeft (z : Settings) (text rest : List ℕ) : Type 0 where
  pub judged : IsNotRefused z text
  pub left : length rest ≤ length judged.left
  pub other : 0 < length rest → HasHead judged.behind judged.left → ⊥

pub left_here : (j : Judging) (text rest : List ℕ) (now : Judging) → StandsAt j text false rest now → WaitsAt now rest → IsLeft j.validator.settings text rest
unfolding not_refused_here by_not_refused
left_here j text rest now s (inl (idle, w, none)) = record {
  judged = not_refused_here j.validator.settings j.validator.id text now.parser.frames rest now.validator (goes_next j now text false rest s idle) w;
  left = omega arith;
  other = λ some. none;
}
left_here j text rest now s (inr (some, none)) = record {
  judged = by_not_refused j.validator.settings j.validator.id text now.parser.frames rest now.validator now.passing now.contents (goes_by j now text false rest s some) none;
  left = let e = ap length none in omega (arith, e);
  other = λ there. absurd (let e = ap length none in omega (arith, e, there));
}

pub passed_here : (j : Judging) (text : List ℕ) → IsPassed StandsAt WaitsAt j text → IsNotRefused j.validator.settings text
passed_here j text (rest, now, s, w) = (left_here j text rest now s w).judged

-- how far it was read, by these settings
pub stops_reader : (z : Settings) (j : Judging) → j.validator.settings ≡ z → (most piece : ℕ) (before after : Option (List ℕ)) (result : Result Learned ReadError)
    → Stops (IsPassed StandsAt WaitsAt j) most piece before after result → StopsReader z most piece before after result
stops_reader z j same most piece before after result s = record {
  front = s.front;
  last = s.last;
  read = s.read;
  taken = subst (λ (y : Settings). IsNotRefused y s.front) same (passed_here j s.front s.taken);
  few = s.few;
  count = s.count;
}

-- what judges a function that was handed out holds to limits that are within their ceilings
pub handed_within : (x : Payload) (v w : Validator) (h : Handed) (body : Bytes) → TakesPayload x v (Ok (valid.Func h body)) w → IsWithinCeilings h.limits
handed_within x v w h body t = let out = handed_out x v w h body t in (body_handed out.0 v w h out.3).within
