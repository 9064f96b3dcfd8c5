-- What a payload that a validator takes in turn tells of the frame that it is that of, and what the validator stands for then.
use Rattle.std.proofs.Common.{◌≡◌, ◌∙◌, ◌⊎◌, inl, inr, ◌<◌, ◌≤◌, ◌+◌, ℕ, List, [], length, Option, Some, None, Result, Ok, Err, true, refl, sym, ap, subst, arith}
use Rattle.std.specs.Prelude.{is_some, option_map, slice_get}
use Rattle.std.specs.declared.ops.Range.{Range}
use Rattle.wasm_types.specs.decoding.Decoder.{State as Bytes}
use Rattle.wasm_types.specs.decoding.Denials.{Denies}
use Rattle.wasm_types.specs.decoding.DenialLaws.{denies, denies_from}
use Rattle.wasm_types.specs.decoding.ErrorValue.{ErrorValue}
use Rattle.wasm_types.specs.decoding.declared.error.ErrorKind.{ErrorKind}
use Rattle.wasm_types.specs.decoding.declared.error.ErrorKind.TheVariants as kinds
use Rattle.wasm_types.specs.settings.Settings.{Settings}
use Rattle.wasm_sections_parser.specs.declared.frame.Encoding.{Encoding}
use Rattle.wasm_sections_parser.specs.declared.frame.Frame.{Frame}
use Rattle.wasm_sections_parser.specs.declared.frame.Frame.TheVariants as frames
use Rattle.wasm_sections_parser.specs.Parsing.{shape_of, layer_of}
use Rattle.wasm_sections.specs.declared.payload.Payload.{Payload}
use Rattle.wasm_sections.specs.declared.payload.Payload.TheVariants as payloads
use Rattle.wasm_sections.specs.Payloads.{IsSectionOf, IsPayloadOf, is_unknown, read_by, set}
use Rattle.wasm_operator_validator_state.specs.Refusals.{refused_by}
use Rattle.wasm_module_validator_index_spaces.specs.declared.module.Function.{Function}
use Rattle.wasm_module_validator.specs.resources.Reading.{context_of}
use Rattle.wasm_module_validator.specs.drivers.Sharing.{FullNext, Handed, IsHandedOut, IsReached, Reached, TellsFrame, has_no_code, body_count, renewed_behind}
use Rattle.wasm_module_validator_function_bodies.specs.code.Code.{IsFunctionOf}
use Rattle.wasm_module_validator_section_order.specs.items.Bodies.{IsReadBy}
use Rattle.wasm_module_validator.specs.module_validator_payloads.Progress.{Kept, Grows, HasGroup, nothing_over, nothing_kept, kept_groups}
use Rattle.wasm_module_validator.specs.declarations.Total.{IsPastTotal}
use Rattle.wasm_module_validator.specs.module_validator_payloads.laws.Bodies.{function_is}
use Rattle.wasm_module_validator.specs.module_validator_payloads.laws.Growing.{grows_by_nothing}
use Rattle.wasm_module_validator.specs.module_validator_payloads.laws.Shapes.{frame_back, frame_is, of_frame, of_section}
use Rattle.wasm_module_validator.specs.state.invariant.so_far.laws.Judging.{body_is_judged}
use Rattle.wasm_module_validator_section_order.specs.rules_in_order.Sections.{Section, place, number, code_place}
use Rattle.wasm_module_validator_section_order.specs.rules_in_order.Sections as section
use Rattle.wasm_module_validator_section_order.specs.rules_in_order.Steps.{SoFar, nothing, JudgesSection, JudgesBody, JudgesShape}
use Rattle.wasm_module_validator.specs.declared.validator.State.{State}
use Rattle.wasm_module_validator.specs.declared.validator.State.TheVariants.{Unparsed, Module}
use Rattle.wasm_module_validator.specs.declared.validator.Validator.{Validator}
use Rattle.wasm_module_validator.specs.declared.payloads.ValidPayload.{ValidPayload}
use Rattle.wasm_module_validator.specs.declared.payloads.ValidPayload.TheVariants as valid
use Rattle.wasm_module_validator.specs.Methods.{refusal, header_refusal, failure, Takes, TakesData, BeginsCode, TakesBody, ReadsHeader, Ends, EndsFrom, IsTaken, learned}
use Rattle.wasm_module_validator.specs.Payloads.{Answer, passed, with_body, ended, TakesPayload}
use Rattle.wasm_module_validator.specs.Shown.{Learned}
use Rattle.wasm_module_validator.specs.laws.Beginning.{nothing_is_reached}
use Rattle.wasm_module_validator.specs.laws.Verdict.{none_held}
use Rattle.wasm_module_validator_type_storage.specs.trees.Groups.{Group}
use Rattle.wasm_module_validator_streaming.specs.Bodies.{IsBody, AreFirst, FitsPlace, IsJudgedSoFar}
use Rattle.wasm_module_validator_streaming.specs.laws.Bodies.{stands_before, place_stays, section_alike, body_more}

-- the frame comes next behind what was judged
abbrev pub Next : Settings → SoFar → Frame → Type 0
Next z m f = (n : SoFar) × JudgesShape z m (shape_of f) n

-- What a payload that was taken leaves: what is kept alone has changed, the frame came next, it stands for whatever was judged with the
-- frame, and the list of types may have grown.
abbrev pub IsLeft : Settings → Validator → SoFar → Frame → Validator → Type 0
IsLeft z v m f w = (w ≡ record v { reached = w.reached }) × Next z m f × ((n : SoFar) → JudgesShape z m (shape_of f) n → IsJudgedSoFar z w.reached n)
    × Grows v.reached.progress.kept w.reached.progress.kept

-- a frame that is no header
abbrev pub IsNoHeader : Frame → Type 0
IsNoHeader (frames.Version n e r) = ⊥
IsNoHeader (frames.Custom c) = Unit {0}
IsNoHeader (frames.Section id b) = Unit {0}
IsNoHeader (frames.CodeStart n r k) = Unit {0}
IsNoHeader (frames.CodeEntry b) = Unit {0}
IsNoHeader (frames.End place) = Unit {0}

-- ---- answers

err_is : {X : Type 0} (d e : ErrorValue) → ◌≡◌ {A = Result X ErrorValue} (Err d) (Err e) → d ≡ e
err_is {X} d e h = ap got h
  where
    got : Result X ErrorValue → ErrorValue
    got (Ok x) = d
    got (Err k) = k

passed_err : (p : Result (Unit {0}) ErrorValue) (e : ErrorValue) → Err e ≡ passed p → p ≡ Err e
passed_err (Ok u) e h = absurd cc
passed_err (Err d) e h = ap (λ (k : ErrorValue). Err k) (err_is {X = ValidPayload} d e (sym h))

passed_ok : (p : Result (Unit {0}) ErrorValue) → Ok valid.Ok ≡ passed p → (u : Unit {0}) × (p ≡ Ok u)
passed_ok (Ok u) h = (u, refl)
passed_ok (Err d) h = absurd cc

body_err : (body : Bytes) (h : Result Handed ErrorValue) (e : ErrorValue) → Err e ≡ with_body body h → h ≡ Err e
body_err body (Ok f) e k = absurd cc
body_err body (Err d) e k = ap (λ (x : ErrorValue). Err x) (err_is {X = ValidPayload} d e (sym k))

ended_err : (r : Result Learned ErrorValue) (e : ErrorValue) → Err e ≡ ended r → r ≡ Err e
ended_err (Ok l) e h = absurd cc
ended_err (Err d) e h = ap (λ (k : ErrorValue). Err k) (err_is {X = ValidPayload} d e (sym h))

not_passed_by_body : (body : Bytes) (h : Result Handed ErrorValue) → Ok valid.Ok ≡ with_body body h → ⊥
not_passed_by_body body (Ok f) e = cc
not_passed_by_body body (Err d) e = cc

not_passed_by_end : (r : Result Learned ErrorValue) → Ok valid.Ok ≡ ended r → ⊥
not_passed_by_end (Ok l) e = cc
not_passed_by_end (Err d) e = cc

no_function_passed : (f : Handed) (body : Bytes) (p : Result (Unit {0}) ErrorValue) → Ok (valid.Func f body) ≡ passed p → ⊥
no_function_passed f body (Ok u) e = cc
no_function_passed f body (Err d) e = cc

no_function_ended : (f : Handed) (body : Bytes) (r : Result Learned ErrorValue) → Ok (valid.Func f body) ≡ ended r → ⊥
no_function_ended f body (Ok l) e = cc
no_function_ended f body (Err d) e = cc

no_end_passed : (t : Learned) (p : Result (Unit {0}) ErrorValue) → Ok (valid.End t) ≡ passed p → ⊥
no_end_passed t (Ok u) e = cc
no_end_passed t (Err d) e = cc

no_end_by_body : (t : Learned) (body : Bytes) (h : Result Handed ErrorValue) → Ok (valid.End t) ≡ with_body body h → ⊥
no_end_by_body t body (Ok f) e = cc
no_end_by_body t body (Err d) e = cc

abbrev function_of_answer : Handed → Answer → Handed
function_of_answer d (Ok (valid.Func f body)) = f
function_of_answer d (Ok valid.Ok) = d
function_of_answer d (Ok (valid.End t)) = d
function_of_answer d (Err e) = d

abbrev body_of_answer : Bytes → Answer → Bytes
body_of_answer d (Ok (valid.Func f body)) = body
body_of_answer d (Ok valid.Ok) = d
body_of_answer d (Ok (valid.End t)) = d
body_of_answer d (Err e) = d

abbrev types_of_answer : Learned → Answer → Learned
types_of_answer d (Ok (valid.End t)) = t
types_of_answer d (Ok valid.Ok) = d
types_of_answer d (Ok (valid.Func f body)) = d
types_of_answer d (Err e) = d

not_some : {A : Type 0} (x : A) → None ≡ Some x → ⊥
not_some x e = cc

-- where the list of types is not full it is told
not_full : (x : Payload) (r : Reached) (e : ErrorValue) (P : Type 0) (z : Settings) (p : SoFar) → IsReached z r p
    → (IsPastTotal r.progress.kept.groups r.progress.kept.items (HasGroup (read_by z x)) e → ⊥) → FullNext r x e ⊎ P → P
not_full x r e P z p at none (inl full) = absurd (none (full z p at))
not_full x r e P z p at none (inr told) = told

same_kept : (k l : Kept) → l ≡ k → Grows k l
same_kept k l e = subst (λ (j : Kept). Grows k j) (sym e) (grows_by_nothing k)

-- each section has an id that is known
is_known : (s : Section) → is_unknown (number s) ≡ true → ⊥
is_known section.types e = cc
is_known section.imports e = cc
is_known section.functions e = cc
is_known section.tables e = cc
is_known section.memories e = cc
is_known section.tags e = cc
is_known section.globals e = cc
is_known section.exports e = cc
is_known section.start e = cc
is_known section.element_segments e = cc
is_known section.data_count e = cc
is_known section.data_segments e = cc

-- ---- in turn

module _ (z : Settings) (v w : Validator) (going : v.state ≡ Module) where
  -- the list of types is not full because of this
  abbrev pub NotFull : Payload → ErrorValue → Type 0
  NotFull x e = IsPastTotal v.reached.progress.kept.groups v.reached.progress.kept.items (HasGroup (read_by z x)) e → ⊥

  before_code : v.reached.code ≡ None → refusal v.state (has_no_code v.reached.code) ≡ None
  before_code c = ap (λ (s : State). refusal s (has_no_code v.reached.code)) going ∙ ap (λ (o : Option ℕ). refusal Module (has_no_code o)) c

  behind_code : (k : ℕ) → v.reached.code ≡ Some k → refusal v.state (has_no_code v.reached.code) ≡ Some kinds.Other
  behind_code k c = ap (λ (s : State). refusal s (has_no_code v.reached.code)) going ∙ ap (λ (o : Option ℕ). refusal Module (has_no_code o)) c

  at_any_time : refusal v.state true ≡ None
  at_any_time = ap (λ (s : State). refusal s true) going

  in_code : (k : ℕ) → v.reached.code ≡ Some k → refusal v.state (is_some v.reached.code) ≡ None
  in_code k c = ap (λ (s : State). refusal s (is_some v.reached.code)) going ∙ ap (λ (o : Option ℕ). refusal Module (is_some o)) c

  out_of_code : v.reached.code ≡ None → refusal v.state (is_some v.reached.code) ≡ Some kinds.Other
  out_of_code c = ap (λ (s : State). refusal s (is_some v.reached.code)) going ∙ ap (λ (o : Option ℕ). refusal Module (is_some o)) c

  module _ (m : SoFar) (f : Frame) (s : IsJudgedSoFar z v.reached m) where
    -- no place is free behind the start of the code but that of data segments
    too_late : (k : ℕ) → v.reached.code ≡ Some k → (id : ℕ) (text : List ℕ) (n : SoFar) (t : Section) → id ≡ number t → JudgesSection z m t text n → (id ≡ 11 → ⊥) → ⊥
    too_late k c id text n t e j other =
        let before = stands_before t (λ h. other (e ∙ h)) in
        let behind : code_place ≤ m.last = subst (λ (o : Option ℕ). FitsPlace o m.last) c s.place in
        omega (arith, before, behind, j.ordered)

    -- ---- sections

    module _ (x : Payload) (none : frame_back x ≡ None) (is : IsPayloadOf f x) where
      section_denied : (e : ErrorValue) → NotFull x e → ((id : ℕ) (b : Bytes) → IsSectionOf id b x → id ≡ 11 → ⊥) → Takes {X = Unit {0}} x v (Err e) w → Denies e.kind (Next z m f)
      section_denied e few other t = go v.reached.code refl
        where
          late : (k : ℕ) → v.reached.code ≡ Some k → Next z m f → ⊥
          late k c n = of_section (λ (g : Frame). JudgesShape z m (shape_of g) n.0 → ⊥) f x none (λ id b h j. too_late k c id b.rest n.0 j.0 j.1 j.2 (other id b h)) is n.1

          go : (o : Option ℕ) → v.reached.code ≡ o → Denies e.kind (Next z m f)
          go None c = not_full x v.reached e (TellsFrame {X = Unit {0}} v.reached x (Err e)) z m s.reached few (t.told (before_code c)) z m f s.reached is
          go (Some k) c = denies e.kind (Next z m f) (late k c)

      -- what is left behind a section that was taken
      section_left : IsTaken {X = Unit {0}} x v (Ok tt) w → (n : SoFar) → JudgesShape z m (shape_of f) n → IsJudgedSoFar z w.reached n
      section_left left n j = record {
        reached = left.1 z m n f s.reached is j;
        place = subst (λ (o : Option ℕ). FitsPlace o n.last) (sym left.2)
            (of_section (λ (g : Frame). JudgesShape z m (shape_of g) n → FitsPlace v.reached.code n.last) f x none (λ id b h k. place_stays z m n k.0 b.rest k.2 v.reached.code s.place) is j);
        bodies = of_section (λ (g : Frame). JudgesShape z m (shape_of g) n → AreFirst z n.tree n.bodies) f x none
            (λ id b h k. (section_alike z m n k.0 b.rest s.reached.2.judged k.2).0 s.bodies) is j;
      }

      section_taken : Takes {X = Unit {0}} x v (Ok tt) w → IsLeft z v m f w
      section_taken t = go v.reached.code refl
        where
          go : (o : Option ℕ) → v.reached.code ≡ o → IsLeft z v m f w
          go None c = let left = t.left (before_code c) in (left.0, t.told (before_code c) z m f s.reached is, section_left left, left.3)
          go (Some k) c = absurd (not_some kinds.Other (t.out kinds.Other (behind_code k c)).0)

      data_denied : (e : ErrorValue) → NotFull x e → TakesData {X = Unit {0}} x v (Err e) w → Denies e.kind (Next z m f)
      data_denied e few t = not_full x v.reached e (TellsFrame {X = Unit {0}} v.reached x (Err e)) z m s.reached few (t.told at_any_time) z m f s.reached is

      data_taken : TakesData {X = Unit {0}} x v (Ok tt) w → IsLeft z v m f w
      data_taken t = let left = t.left at_any_time in (left.0, t.told at_any_time z m f s.reached is, section_left left, left.3)

    -- ---- the start of the code

    module _ (x : Payload) (g : Frame) (back : frame_back x ≡ Some g) (is : IsPayloadOf f x)
        (begins : (n : SoFar) → JudgesShape z m (shape_of g) n → (m.last < code_place) × (n ≡ record m { last = code_place }))
        (begun : m.last < code_place → JudgesShape z m (shape_of g) (record m { last = code_place })) where
      begins_so : (n : SoFar) → JudgesShape z m (shape_of f) n → (m.last < code_place) × (n ≡ record m { last = code_place })
      begins_so n j = of_frame (λ (h : Frame). JudgesShape z m (shape_of h) n → (m.last < code_place) × (n ≡ record m { last = code_place })) f x g back is (begins n) j

      code_denied : (e : ErrorValue) → BeginsCode {X = Unit {0}} v (Err e) w → Denies e.kind (Next z m f)
      code_denied e t = go v.reached.code refl
        where
          late : (k : ℕ) → v.reached.code ≡ Some k → Next z m f → ⊥
          late k c n =
              let before = (begins_so n.0 n.1).0 in
              let behind : code_place ≤ m.last = subst (λ (o : Option ℕ). FitsPlace o m.last) c s.place in
              omega (arith, before, behind)

          go : (o : Option ℕ) → v.reached.code ≡ o → Denies e.kind (Next z m f)
          go None c = denies_from e.kind (m.last < code_place) (Next z m f) (λ n. (begins_so n.0 n.1).0) (t.told (before_code c) z m s.reached)
          go (Some k) c = denies e.kind (Next z m f) (late k c)

      code_taken : BeginsCode {X = Unit {0}} v (Ok tt) w → IsLeft z v m f w
      code_taken t = go v.reached.code refl
        where
          there : (c : v.reached.code ≡ None) → (n : SoFar) → JudgesShape z m (shape_of f) n → IsJudgedSoFar z w.reached n
          there c n j =
              let left = t.left (before_code c) in
              subst (IsJudgedSoFar z w.reached) (sym (begins_so n j).1) (record {
                reached = left.3 z m s.reached;
                place = subst (λ (o : Option ℕ). FitsPlace o code_place) (sym left.1) (omega arith);
                bodies = s.bodies;
              })

          go : (o : Option ℕ) → v.reached.code ≡ o → IsLeft z v m f w
          go None c = (
            (t.left (before_code c)).0,
            of_frame (λ (h : Frame). Next z m h) f x g back is (record m { last = code_place }, begun (t.told (before_code c) z m s.reached)),
            there c,
            same_kept v.reached.progress.kept w.reached.progress.kept (t.left (before_code c)).2,
          )
          go (Some k) c = absurd (not_some kinds.Other (t.out kinds.Other (behind_code k c)).0)

    -- ---- a body

    module _ (body : Bytes) (is : IsPayloadOf f (payloads.CodeSectionEntry body)) where
      pub is_body : (n : SoFar) → JudgesShape z m (shape_of f) n → JudgesBody z m body.rest n
      is_body n j = of_frame (λ (h : Frame). JudgesShape z m (shape_of h) n → JudgesBody z m body.rest n) f (payloads.CodeSectionEntry body) (frames.CodeEntry body) refl is (λ k. k) j

      body_denied : (e : ErrorValue) → TakesBody body v (Err e) w → Denies e.kind (Next z m f)
      body_denied e t = go v.reached.code refl
        where
          early : v.reached.code ≡ None → Next z m f → ⊥
          early c n =
              let before : m.last ≡ code_place → ⊥ = subst (λ (o : Option ℕ). FitsPlace o m.last) c s.place in
              before (is_body n.0 n.1).begun

          go : (o : Option ℕ) → v.reached.code ≡ o → Denies e.kind (Next z m f)
          go None c = denies e.kind (Next z m f) (early c)
          go (Some k) c = denies_from e.kind ((q : SoFar) × JudgesBody z m body.rest q) (Next z m f) (λ n. (n.0, is_body n.0 n.1)) (t.told (in_code k c) z m s.reached)

      module _ (h : Handed) (t : TakesBody body v (Ok h) w) where
        -- the code has begun
        in_turn : (k : ℕ) × (v.reached.code ≡ Some k)
        in_turn = go v.reached.code refl
          where
            go : (o : Option ℕ) → v.reached.code ≡ o → (k : ℕ) × (v.reached.code ≡ Some k)
            go None c = absurd (not_some kinds.Other (t.out kinds.Other (out_of_code c)).0)
            go (Some k) c = (k, c)

        body_left : IsHandedOut v.reached v.settings h × (w ≡ record v { reached = w.reached })
            × (w.reached.code ≡ Some (body_count v.reached.code + 1))
            × ((n : SoFar) → JudgesBody z m body.rest n → IsReached z w.reached n) × Grows v.reached.progress.kept w.reached.progress.kept
        body_left =
            let left = t.left (in_code in_turn.0 in_turn.1) in
            (left.0, left.1, left.2, (λ n j. left.4 z m n s.reached j), same_kept v.reached.progress.kept w.reached.progress.kept left.3)

        pub body_comes : Next z m f
        body_comes =
            let n = t.told (in_code in_turn.0 in_turn.1) z m s.reached in
            of_frame (λ (g : Frame). Next z m g) f (payloads.CodeSectionEntry body) (frames.CodeEntry body) refl is n

        -- it is that of a function of this type
        type_is : (n : SoFar) (j : JudgesBody z m body.rest n) → h.ty ≡ j.type
        type_is n j =
            let handed = body_left.0 in
            let count : length s.reached.0 ≡ body_count v.reached.code = s.reached.1 in
            let index : h.index ≡ v.reached.progress.kept.items.spaces.imported_functions + length s.reached.0 =
            handed.index ∙ ap (λ (k : ℕ). v.reached.progress.kept.items.spaces.imported_functions + k) (sym count) in
            let type_at = λ (i : ℕ). option_map (λ (g : Function). g.type_index) (slice_get v.reached.progress.kept.items.spaces.functions i) in
            some_is h.ty j.type (sym handed.type ∙ ap type_at index ∙ function_is z m v.reached.progress s.reached.0 s.reached.2 ∙ j.function)
          where
            some_is : (a b : ℕ) → Some a ≡ Some b → a ≡ b
            some_is a b e = cc

        -- what judges it by the module that was handed out tells whether it is valid by the tree
        abbrev pub IsHandedBody : Type 0
        IsHandedBody = IsFunctionOf z (context_of v.reached.progress.kept.groups v.reached.progress.kept.items.spaces) h.ty body.rest

        -- so whoever judges it reads it
        pub read_so : v.settings ≡ z → IsReadBy z h.features.0 (set v.settings body)
        read_so same = record {
          settings = same;
          features = sym (body_left.0.features ∙ ap (λ (y : Settings). y.features) same);
          within = (is_body body_comes.0 body_comes.1).within;
        }

        pub limits_are : v.settings ≡ z → z.limits ≡ h.limits
        limits_are same = sym (body_left.0.limits ∙ ap (λ (y : Settings). y.limits) same)

        by_tree : (n : SoFar) (j : JudgesBody z m body.rest n) → IsHandedBody → IsBody z m.tree j.type body.rest
        by_tree n j (g, spelled, body) =
            let at = s.reached.2 in
            subst (λ (x : ℕ). IsBody z m.tree x _) (type_is n j)
            (g, spelled, (body_is_judged v.reached.progress.kept.groups v.reached.progress.kept.items.spaces m.tree at.stands.read at.stands.referred z h.ty g).0 body)

        pub by_module : (n : SoFar) (j : JudgesBody z m body.rest n) → IsBody z m.tree j.type body.rest → IsHandedBody
        by_module n j b =
            let at = s.reached.2 in
            let (g, spelled, valid) = subst (λ (x : ℕ). IsBody z m.tree x body.rest) (sym (type_is n j)) b in
            (g, spelled, (body_is_judged v.reached.progress.kept.groups v.reached.progress.kept.items.spaces m.tree at.stands.read at.stands.referred z h.ty g).1 valid)

        pub body_taken : IsHandedBody → IsLeft z v m f w
        body_taken valid = (body_left.1, body_comes, there, body_left.4)
          where
            there : (n : SoFar) → JudgesShape z m (shape_of f) n → IsJudgedSoFar z w.reached n
            there n shape =
                let j = is_body n shape in
                let last : n.last ≡ m.last = ap (λ (q : SoFar). q.last) j.added in
                record {
                  reached = body_left.3 n j;
                  place = subst (λ (o : Option ℕ). FitsPlace o n.last) (sym body_left.2) (omega (arith, last, j.begun));
                  bodies = body_more z m n body.rest j s.bodies (by_tree n j valid);
                }

    -- ---- any payload

    module _ (later : IsNoHeader f) where
      pub denied : (x : Payload) (e : ErrorValue) → NotFull x e → IsPayloadOf f x → TakesPayload x v (Err e) w → Denies e.kind (Next z m f)
      denied (payloads.Version n l r) e none is t = absurd (subst IsNoHeader (frame_is f (payloads.Version n l r) (frames.Version n l r) refl is) later)
      denied (payloads.TypeSection c) e none is (p, same, t) =
          section_denied (payloads.TypeSection c) refl is e none (λ id b h k. omega (arith, h.0, k)) (subst (λ (a : Result (Unit {0}) ErrorValue). Takes (payloads.TypeSection c) v a w) (passed_err p e same) t)
      denied (payloads.ImportSection c) e none is (p, same, t) =
          section_denied (payloads.ImportSection c) refl is e none (λ id b h k. omega (arith, h.0, k)) (subst (λ (a : Result (Unit {0}) ErrorValue). Takes (payloads.ImportSection c) v a w) (passed_err p e same) t)
      denied (payloads.FunctionSection c) e none is (p, same, t) =
          section_denied (payloads.FunctionSection c) refl is e none (λ id b h k. omega (arith, h.0, k)) (subst (λ (a : Result (Unit {0}) ErrorValue). Takes (payloads.FunctionSection c) v a w) (passed_err p e same) t)
      denied (payloads.TableSection c) e none is (p, same, t) =
          section_denied (payloads.TableSection c) refl is e none (λ id b h k. omega (arith, h.0, k)) (subst (λ (a : Result (Unit {0}) ErrorValue). Takes (payloads.TableSection c) v a w) (passed_err p e same) t)
      denied (payloads.MemorySection c) e none is (p, same, t) =
          section_denied (payloads.MemorySection c) refl is e none (λ id b h k. omega (arith, h.0, k)) (subst (λ (a : Result (Unit {0}) ErrorValue). Takes (payloads.MemorySection c) v a w) (passed_err p e same) t)
      denied (payloads.TagSection c) e none is (p, same, t) =
          section_denied (payloads.TagSection c) refl is e none (λ id b h k. omega (arith, h.0, k)) (subst (λ (a : Result (Unit {0}) ErrorValue). Takes (payloads.TagSection c) v a w) (passed_err p e same) t)
      denied (payloads.GlobalSection c) e none is (p, same, t) =
          section_denied (payloads.GlobalSection c) refl is e none (λ id b h k. omega (arith, h.0, k)) (subst (λ (a : Result (Unit {0}) ErrorValue). Takes (payloads.GlobalSection c) v a w) (passed_err p e same) t)
      denied (payloads.ExportSection c) e none is (p, same, t) =
          section_denied (payloads.ExportSection c) refl is e none (λ id b h k. omega (arith, h.0, k)) (subst (λ (a : Result (Unit {0}) ErrorValue). Takes (payloads.ExportSection c) v a w) (passed_err p e same) t)
      denied (payloads.StartSection n r) e none is (p, same, t) =
          section_denied (payloads.StartSection n r) refl is e none (λ id b h k. omega (arith, h.0, k)) (subst (λ (a : Result (Unit {0}) ErrorValue). Takes (payloads.StartSection n r) v a w) (passed_err p e same) t)
      denied (payloads.ElementSection c) e none is (p, same, t) =
          section_denied (payloads.ElementSection c) refl is e none (λ id b h k. omega (arith, h.0, k)) (subst (λ (a : Result (Unit {0}) ErrorValue). Takes (payloads.ElementSection c) v a w) (passed_err p e same) t)
      denied (payloads.DataCountSection n r) e none is (p, same, t) =
          section_denied (payloads.DataCountSection n r) refl is e none (λ id b h k. omega (arith, h.0, k)) (subst (λ (a : Result (Unit {0}) ErrorValue). Takes (payloads.DataCountSection n r) v a w) (passed_err p e same) t)
      denied (payloads.DataSection c) e none is (p, same, t) =
          data_denied (payloads.DataSection c) refl is e none (subst (λ (a : Result (Unit {0}) ErrorValue). TakesData (payloads.DataSection c) v a w) (passed_err p e same) t)
      denied (payloads.CodeSectionStart n r k) e none is (p, same, t) =
          code_denied (payloads.CodeSectionStart n r k) (frames.CodeStart n r k) refl is (λ q j. j) (λ l. (l, refl)) e (subst (λ (a : Result (Unit {0}) ErrorValue). BeginsCode v a w) (passed_err p e same) t)
      denied (payloads.CodeSectionEntry body) e none is (h, same, t) = body_denied body is e (subst (λ a. TakesBody body v a w) (body_err (set v.settings body) h e same) t)
      denied (payloads.CustomSection c) e none is (p, same, (refused, stays)) =
          absurd (not_some e.kind (sym (sym (ap (refused_by {X = Unit {0}}) (passed_err p e same)) ∙ refused ∙ ap failure going)))
      denied (payloads.UnknownSection i c r) e none is (p, same, t) = denies e.kind (Next z m f) (λ n.
          of_section (λ (g : Frame). JudgesShape z m (shape_of g) n.0 → ⊥) f (payloads.UnknownSection i c r) refl
          (λ id b h j. is_known j.0 (subst (λ (k : ℕ). is_unknown k ≡ true) j.1 h.1)) is n.1)
      denied (payloads.End place) e none is (r, same, t) =
          let k : EndsFrom Module v (Err e) w = subst (λ (s : State). EndsFrom s v (Err e) w) going (subst (λ a. EndsFrom v.state v a w) (ended_err r e same) t) in
          subst (λ (kind : ErrorKind). Denies kind (Next z m f)) (sym k.0) tt

      pub taken : (x : Payload) → IsPayloadOf f x → TakesPayload x v (Ok valid.Ok) w → IsLeft z v m f w
      taken (payloads.Version n l r) is t = absurd (subst IsNoHeader (frame_is f (payloads.Version n l r) (frames.Version n l r) refl is) later)
      taken (payloads.TypeSection c) is (p, same, t) = section_taken (payloads.TypeSection c) refl is (subst (λ (a : Result (Unit {0}) ErrorValue). Takes (payloads.TypeSection c) v a w) (passed_ok p same).1 t)
      taken (payloads.ImportSection c) is (p, same, t) = section_taken (payloads.ImportSection c) refl is (subst (λ (a : Result (Unit {0}) ErrorValue). Takes (payloads.ImportSection c) v a w) (passed_ok p same).1 t)
      taken (payloads.FunctionSection c) is (p, same, t) = section_taken (payloads.FunctionSection c) refl is (subst (λ (a : Result (Unit {0}) ErrorValue). Takes (payloads.FunctionSection c) v a w) (passed_ok p same).1 t)
      taken (payloads.TableSection c) is (p, same, t) = section_taken (payloads.TableSection c) refl is (subst (λ (a : Result (Unit {0}) ErrorValue). Takes (payloads.TableSection c) v a w) (passed_ok p same).1 t)
      taken (payloads.MemorySection c) is (p, same, t) = section_taken (payloads.MemorySection c) refl is (subst (λ (a : Result (Unit {0}) ErrorValue). Takes (payloads.MemorySection c) v a w) (passed_ok p same).1 t)
      taken (payloads.TagSection c) is (p, same, t) = section_taken (payloads.TagSection c) refl is (subst (λ (a : Result (Unit {0}) ErrorValue). Takes (payloads.TagSection c) v a w) (passed_ok p same).1 t)
      taken (payloads.GlobalSection c) is (p, same, t) = section_taken (payloads.GlobalSection c) refl is (subst (λ (a : Result (Unit {0}) ErrorValue). Takes (payloads.GlobalSection c) v a w) (passed_ok p same).1 t)
      taken (payloads.ExportSection c) is (p, same, t) = section_taken (payloads.ExportSection c) refl is (subst (λ (a : Result (Unit {0}) ErrorValue). Takes (payloads.ExportSection c) v a w) (passed_ok p same).1 t)
      taken (payloads.StartSection n r) is (p, same, t) = section_taken (payloads.StartSection n r) refl is (subst (λ (a : Result (Unit {0}) ErrorValue). Takes (payloads.StartSection n r) v a w) (passed_ok p same).1 t)
      taken (payloads.ElementSection c) is (p, same, t) = section_taken (payloads.ElementSection c) refl is (subst (λ (a : Result (Unit {0}) ErrorValue). Takes (payloads.ElementSection c) v a w) (passed_ok p same).1 t)
      taken (payloads.DataCountSection n r) is (p, same, t) = section_taken (payloads.DataCountSection n r) refl is (subst (λ (a : Result (Unit {0}) ErrorValue). Takes (payloads.DataCountSection n r) v a w) (passed_ok p same).1 t)
      taken (payloads.DataSection c) is (p, same, t) = data_taken (payloads.DataSection c) refl is (subst (λ (a : Result (Unit {0}) ErrorValue). TakesData (payloads.DataSection c) v a w) (passed_ok p same).1 t)
      taken (payloads.CodeSectionStart n r k) is (p, same, t) =
          code_taken (payloads.CodeSectionStart n r k) (frames.CodeStart n r k) refl is (λ q j. j) (λ l. (l, refl)) (subst (λ (a : Result (Unit {0}) ErrorValue). BeginsCode v a w) (passed_ok p same).1 t)
      taken (payloads.CodeSectionEntry body) is (h, same, t) = absurd (not_passed_by_body (set v.settings body) h same)
      taken (payloads.CustomSection c) is (p, same, (refused, stays)) = (
        stays ∙ ap (λ (u : Validator). record v { reached = u.reached }) (sym stays),
        of_frame (λ (g : Frame). Next z m g) f (payloads.CustomSection c) (frames.Custom c) refl is (m, refl),
        λ n j. subst (λ (q : SoFar). IsJudgedSoFar z w.reached q)
            (sym (of_frame (λ (g : Frame). JudgesShape z m (shape_of g) n → n ≡ m) f (payloads.CustomSection c) (frames.Custom c) refl is (λ k. k) j))
            (subst (λ (u : Validator). IsJudgedSoFar z u.reached m) (sym stays) s),
        same_kept v.reached.progress.kept w.reached.progress.kept (ap (λ (u : Validator). u.reached.progress.kept) stays),
      )
      taken (payloads.UnknownSection i c r) is (p, same, t) =
          absurd (not_some kinds.Other (sym (ap (refused_by {X = Unit {0}}) (passed_ok p same).1) ∙ t.told (ap failure going)))
      taken (payloads.End place) is (r, same, t) = absurd (not_passed_by_end r same)

  -- the end gives what was learned
  pub end_learned : (place : ℕ) (t : Learned) → TakesPayload (payloads.End place) v (Ok (valid.End t)) w → t ≡ learned v
  end_learned place t (r, same, ends) = go r same ends
    where
      go : (r : Result Learned ErrorValue) → Ok (valid.End t) ≡ ended r → Ends v r w → t ≡ learned v
      go (Err e) h k = absurd cc
      go (Ok l) h k =
          let i : EndsFrom Module v (Ok l) w = subst (λ (s : State). EndsFrom s v (Ok l) w) going k in
          ap (types_of_answer t) h ∙ i.0

-- ---- which payload it was

-- a function is handed out for a body alone, which is handed on to be read by the validator's settings
pub handed_out : (x : Payload) (v w : Validator) (h : Handed) (body : Bytes) → TakesPayload x v (Ok (valid.Func h body)) w
    → (b : Bytes) × (x ≡ payloads.CodeSectionEntry b) × (body ≡ set v.settings b) × TakesBody b v (Ok h) w
handed_out (payloads.Version n l r) v w h body (p, same, t) = absurd (no_function_passed h body p same)
handed_out (payloads.TypeSection c) v w h body (p, same, t) = absurd (no_function_passed h body p same)
handed_out (payloads.ImportSection c) v w h body (p, same, t) = absurd (no_function_passed h body p same)
handed_out (payloads.FunctionSection c) v w h body (p, same, t) = absurd (no_function_passed h body p same)
handed_out (payloads.TableSection c) v w h body (p, same, t) = absurd (no_function_passed h body p same)
handed_out (payloads.MemorySection c) v w h body (p, same, t) = absurd (no_function_passed h body p same)
handed_out (payloads.TagSection c) v w h body (p, same, t) = absurd (no_function_passed h body p same)
handed_out (payloads.GlobalSection c) v w h body (p, same, t) = absurd (no_function_passed h body p same)
handed_out (payloads.ExportSection c) v w h body (p, same, t) = absurd (no_function_passed h body p same)
handed_out (payloads.StartSection n r) v w h body (p, same, t) = absurd (no_function_passed h body p same)
handed_out (payloads.ElementSection c) v w h body (p, same, t) = absurd (no_function_passed h body p same)
handed_out (payloads.DataCountSection n r) v w h body (p, same, t) = absurd (no_function_passed h body p same)
handed_out (payloads.DataSection c) v w h body (p, same, t) = absurd (no_function_passed h body p same)
handed_out (payloads.CodeSectionStart n r k) v w h body (p, same, t) = absurd (no_function_passed h body p same)
handed_out (payloads.CustomSection c) v w h body (p, same, t) = absurd (no_function_passed h body p same)
handed_out (payloads.UnknownSection i c r) v w h body (p, same, t) = absurd (no_function_passed h body p same)
handed_out (payloads.End place) v w h body (r, same, t) = absurd (no_function_ended h body r same)
handed_out (payloads.CodeSectionEntry b) v w h body (r, same, t) = let k = go r same t in (b, refl, k.0, k.1)
  where
    go : (r : Result Handed ErrorValue) → Ok (valid.Func h body) ≡ with_body (set v.settings b) r → TakesBody b v r w → (body ≡ set v.settings b) × TakesBody b v (Ok h) w
    go (Err e) k u = absurd cc
    go (Ok g) k u =
        let functions : h ≡ g = ap (function_of_answer h) k in
        (ap (body_of_answer body) k, subst (λ (f : Handed). TakesBody b v (Ok f) w) (sym functions) u)

-- and it is the module as it is kept, and the function behind those that came
pub body_handed : (body : Bytes) (v w : Validator) (h : Handed) → TakesBody body v (Ok h) w → IsHandedOut v.reached v.settings h
body_handed body v w h t = go (refusal v.state (is_some v.reached.code)) refl
  where
    go : (o : Option ErrorKind) → refusal v.state (is_some v.reached.code) ≡ o → IsHandedOut v.reached v.settings h
    go None c = (t.left c).0
    go (Some k) c = absurd (not_some k (t.out k c).0)

-- and the end is told at the end alone
pub end_is_told : (x : Payload) (v w : Validator) (t : Learned) → TakesPayload x v (Ok (valid.End t)) w → (place : ℕ) × (x ≡ payloads.End place)
end_is_told (payloads.Version n l r) v w t (p, same, k) = absurd (no_end_passed t p same)
end_is_told (payloads.TypeSection c) v w t (p, same, k) = absurd (no_end_passed t p same)
end_is_told (payloads.ImportSection c) v w t (p, same, k) = absurd (no_end_passed t p same)
end_is_told (payloads.FunctionSection c) v w t (p, same, k) = absurd (no_end_passed t p same)
end_is_told (payloads.TableSection c) v w t (p, same, k) = absurd (no_end_passed t p same)
end_is_told (payloads.MemorySection c) v w t (p, same, k) = absurd (no_end_passed t p same)
end_is_told (payloads.TagSection c) v w t (p, same, k) = absurd (no_end_passed t p same)
end_is_told (payloads.GlobalSection c) v w t (p, same, k) = absurd (no_end_passed t p same)
end_is_told (payloads.ExportSection c) v w t (p, same, k) = absurd (no_end_passed t p same)
end_is_told (payloads.StartSection n r) v w t (p, same, k) = absurd (no_end_passed t p same)
end_is_told (payloads.ElementSection c) v w t (p, same, k) = absurd (no_end_passed t p same)
end_is_told (payloads.DataCountSection n r) v w t (p, same, k) = absurd (no_end_passed t p same)
end_is_told (payloads.DataSection c) v w t (p, same, k) = absurd (no_end_passed t p same)
end_is_told (payloads.CodeSectionStart n r i) v w t (p, same, k) = absurd (no_end_passed t p same)
end_is_told (payloads.CustomSection c) v w t (p, same, k) = absurd (no_end_passed t p same)
end_is_told (payloads.UnknownSection i c r) v w t (p, same, k) = absurd (no_end_passed t p same)
end_is_told (payloads.CodeSectionEntry b) v w t (h, same, k) = absurd (no_end_by_body t (set v.settings b) h same)
end_is_told (payloads.End place) v w t k = (place, refl)

-- a payload that passes is not the end
pub passes_before_end : (place : ℕ) (v w : Validator) → TakesPayload (payloads.End place) v (Ok valid.Ok) w → ⊥
passes_before_end place v w (r, same, t) = not_passed_by_end r same

-- ---- the header

module _ (z : Settings) (v w : Validator) (fresh : v.state ≡ Unparsed) (by : v.settings ≡ z) (n : ℕ) (l : Encoding) (r : Range ℕ) where
  first_turn : header_refusal v.state ≡ None
  first_turn = ap header_refusal fresh

  pub header_denied : (e : ErrorValue) → TakesPayload (payloads.Version n l r) v (Err e) w → Denies e.kind (Next z nothing (frames.Version n l r))
  header_denied e (p, same, t) =
      let k : ReadsHeader {X = Unit {0}} n l v (Err e) w = subst (λ (a : Result (Unit {0}) ErrorValue). ReadsHeader n l v a w) (passed_err p e same) t in
      denies_from e.kind ((n ≡ 1) × (layer_of l ≡ 0)) (Next z nothing (frames.Version n l r)) (λ j. (j.1.0, j.1.1)) (k.told first_turn)

  pub header_taken : TakesPayload (payloads.Version n l r) v (Ok valid.Ok) w
      → (w.state ≡ Module) × (w.settings ≡ v.settings) × (w.id ≡ v.id) × Next z nothing (frames.Version n l r)
      × ((m : SoFar) → JudgesShape z nothing (shape_of (frames.Version n l r)) m → IsJudgedSoFar z w.reached m)
      × (v.reached.progress.kept.groups ≡ [] → Grows (nothing_kept z).kept w.reached.progress.kept)
  header_taken (p, same, t) =
      let k : ReadsHeader {X = Unit {0}} n l v (Ok tt) w = subst (λ (a : Result (Unit {0}) ErrorValue). ReadsHeader n l v a w) (passed_ok p same).1 t in
      let begun = k.left first_turn in
      let told = k.told first_turn in (
        ap (λ (u : Validator). u.state) begun,
        ap (λ (u : Validator). u.settings) begun,
        ap (λ (u : Validator). u.id) begun,
        (nothing, (told.0, told.1, refl)),
        λ m j. subst (IsJudgedSoFar z w.reached) (sym j.2) (subst (λ (u : Validator). IsJudgedSoFar z u.reached nothing) (sym begun) (record {
          reached = subst (λ (y : Settings). IsReached z (renewed_behind y v.reached) nothing) (sym by) (nothing_is_reached z v.reached);
          place = λ e. omega (arith, e);
          bodies = tt;
        })),
        λ none. subst (λ (u : Validator). Grows (nothing_kept z).kept u.reached.progress.kept) (sym begun)
            (subst (λ (y : Settings). Grows (nothing_kept z).kept (nothing_over (kept_groups y v.reached.progress.kept) y).kept) (sym by)
            (subst (λ (gs : List Group). Grows (nothing_kept z).kept (nothing_over gs z).kept) (sym (none_held z v.reached.progress.kept none)) (grows_by_nothing (nothing_kept z).kept))),
      )

-- another header is out of turn
pub late_header : (v w : Validator) → v.state ≡ Module → (n : ℕ) (l : Encoding) (r : Range ℕ) → TakesPayload (payloads.Version n l r) v (Ok valid.Ok) w → ⊥
late_header v w going n l r (p, same, t) = not_some kinds.Other (sym (ap (refused_by {X = Unit {0}}) (passed_ok p same).1) ∙ (t.out kinds.Other (ap header_refusal going)).0)
