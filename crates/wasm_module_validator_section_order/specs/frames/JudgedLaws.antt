-- Walks over modules whose frames are judged: what is judged behind one frame more, that nothing of such a module is refused, and what is
-- judged at the end.
use Rattle.std.proofs.Common.{◌≡◌, ℕ, ◌+◌, ◌<◌, ◌^◌, List, [], ◌∷◌, ◌++◌, length, Option, Some, None, Err, true, refl, sym, ap, ◌∙◌, subst}
use Rattle.std.proofs.lemmas.List.{append-nil}
use Rattle.wasm_types.specs.settings.Settings.{Settings}
use Rattle.wasm_types.specs.decoding.declared.Refusal.TheVariants.{Other}
use Rattle.wasm_types.specs.decoding.Decoder.{State, Outcome, Done, ended, Grammar}
use Rattle.wasm_types.specs.decoding.Leb.{IsUnsigned, IsListed, u32}
use Rattle.wasm_types.specs.decoding.LebLaws.{decides-u32}
use Rattle.wasm_types.specs.decoding.declared.error.ErrorKind.{ErrorKind}
use Rattle.wasm_types.specs.decoding.declared.error.ErrorKind.TheVariants as kinds
use Rattle.wasm_types.specs.decoding.ErrorValue.{ErrorValue}
use Rattle.wasm_types.specs.reader.Reading.{FailsAt, IsNotMemory}
use Rattle.wasm_sections_parser.specs.declared.frame.Frame.{Frame}
use Rattle.wasm_sections_parser.specs.Parsers.{Parser}
use Rattle.wasm_sections_parser.specs.Parsing.{shape_of}
use Rattle.wasm_sections_parser.specs.Steps.{Shape, section, the_end}
use Rattle.wasm_sections_parser.specs.runs.calls.Runs.{fresh}
use Rattle.wasm_sections_parser.specs.runs.calls.Calls.{shapes_of}
use Rattle.wasm_sections_parser.specs.runs.Modules.{IsModule}
use Rattle.wasm_sections.specs.Payloads.{cut, only_number, front_of}
use Rattle.wasm_sections.specs.Walking.{Standing, NextPayload}
use Rattle.wasm_module_validator_rules_in_order.specs.rules.Syntax.{ModuleTree}
use Rattle.wasm_module_validator_rules_in_order.specs.rules.Binary.{SpelledNumber}
use Rattle.wasm_module_validator_rules_in_order.specs.Sections.{Section, number}
use Rattle.wasm_module_validator_rules_in_order.specs.Sections as sections
use Rattle.wasm_module_validator_rules_in_order.specs.Texts.{SpelledSection}
use Rattle.wasm_module_validator_rules_in_order.specs.Steps.{SoFar, nothing, JudgesShape, JudgesShapes}
use Rattle.wasm_module_validator_rules_in_order.specs.laws.Judged.{judged_joined, judged_split}
use Rattle.wasm_module_validator_section_order.specs.frames.Walks.{IsBehind}
use Rattle.wasm_module_validator_section_order.specs.frames.FrontLaws.{shapes_joined, shapes_before}
use Rattle.wasm_module_validator_section_order.specs.frames.WalkLaws.{refused_next, walk_ended, walk_first}

-- ---- sections that are spelled are payloads

-- what is read of the contents of a section at their front
abbrev IsRead : Outcome ℕ → Type 0
IsRead o = (n : ℕ) × (t : State) × (o ≡ Done n t)

read_u32 : (b : State) (n : ℕ) (count values : List ℕ) → b.rest ≡ count ++ values → IsUnsigned 32 n count
    → u32 b ≡ Done n (record { rest = values; place = b.place + length count; settings = b.settings; start = b.start })
read_u32 b n count values parts counted =
    decides-u32.complete b (record { rest = values; place = b.place + length count; settings = b.settings; start = b.start }) n count
    (record { parts = parts; place = refl; settings = refl; start = refl }) counted

module _ (b : State) where
  -- behind a count
  listed : {A : Type 0} (g : Grammar A) (xs : List A) → IsListed g xs b.rest → IsRead (cut (u32 b))
  listed g xs h = (length xs, _, ap cut (read_u32 b (length xs) h.count h.values h.whole h.counted))

  -- all of one number
  one_number : (o : Option ℕ) → SpelledNumber o (Some b.rest) → IsRead (only_number b)
  one_number None h = absurd h
  one_number (Some n) h = (n, b, ap (ended Other Other b) (read_u32 b n b.rest [] (sym (append-nil b.rest)) h))

  section_read : (z : Settings) (s : Section) (m : ModuleTree) → SpelledSection z s m (Some b.rest) → IsRead (front_of (number s) b)
  section_read z sections.types m h = listed _ m.types h
  section_read z sections.imports m h = listed _ m.imports h
  section_read z sections.functions m h = listed _ m.functions h
  section_read z sections.tables m h = listed _ m.tables h
  section_read z sections.memories m h = listed _ m.memories h
  section_read z sections.tags m h = listed _ m.tags h.0
  section_read z sections.globals m h = listed _ m.globals h
  section_read z sections.exports m h = listed _ m.exports h
  section_read z sections.start m h = one_number m.start h
  section_read z sections.element_segments m h = listed _ m.element_segments h
  section_read z sections.data_count m h = one_number m.data_count h
  section_read z sections.data_segments m h = listed _ m.data_segments h

not_both : (k : ErrorKind) (place : ℕ) (o : Outcome ℕ) → IsNotMemory k → FailsAt k place o → IsRead o → ⊥
not_both (kinds.EndOfData h) place o m f r = let e = sym r.2 ∙ f in cc
not_both (kinds.MissingFeature x) place o m f r = let e = sym r.2 ∙ f in cc
not_both kinds.OutOfMemory place o m f r = m
not_both kinds.Failed place o m f r = f
not_both kinds.Other place o m f r = let e = sym r.2 ∙ f in cc

-- a section that is judged is a payload
judged_is_payload : (z : Settings) (q r : SoFar) (id : ℕ) (b : State) (k : ErrorKind) (place : ℕ) → JudgesShape z q (section id b.rest) r → IsNotMemory k → FailsAt k place (front_of id b) → ⊥
judged_is_payload z q r id b k place j m f =
    not_both k place (front_of (number j.0) b) m (subst (λ (i : ℕ). FailsAt k place (front_of i b)) j.1 f) (section_read b z j.0 r.tree j.2.spelled)

-- ---- walks

module _ (z : Settings) where
  -- one frame more
  pub judged_more : (fs : List Frame) (f : Frame) (q r : SoFar) → JudgesShapes z nothing (shapes_of fs) q → JudgesShape z q (shape_of f) r → JudgesShapes z nothing (shapes_of (fs ++ f ∷ [])) r
  judged_more fs f q r j k =
      subst (λ (xs : List Shape). JudgesShapes z nothing xs r) (sym (shapes_joined fs f)) (judged_joined z (shapes_of fs) (shape_of f ∷ []) nothing q r j (r, k, refl))

  -- the frames before it, and it
  split_at : (fs : List Frame) (f : Frame) (ys zs : List Shape) (r : SoFar) → ys ≡ shapes_of fs ++ shape_of f ∷ zs → JudgesShapes z nothing ys r
      → (q : SoFar) × (s : SoFar) × JudgesShapes z nothing (shapes_of fs) q × JudgesShape z q (shape_of f) s × JudgesShapes z s zs r
  split_at fs f ys zs r e j =
      let k = judged_split z (shapes_of fs) (shape_of f ∷ zs) nothing r (subst (λ (xs : List Shape). JudgesShapes z nothing xs r) e j) in
      (k.0, k.2.0, k.1, k.2.1, k.2.2)

  pub judged_less : (fs : List Frame) (f : Frame) (r : SoFar) → JudgesShapes z nothing (shapes_of (fs ++ f ∷ [])) r
      → (q : SoFar) × JudgesShapes z nothing (shapes_of fs) q × JudgesShape z q (shape_of f) r
  judged_less fs f r j =
      let k = split_at fs f (shapes_of (fs ++ f ∷ [])) [] r (shapes_joined fs f) j in
      (k.0, k.2, subst (λ (s : SoFar). JudgesShape z k.0 (shape_of f) s) k.4 k.3)

  -- the end changes nothing
  with_end : (ys : List Shape) (r : SoFar) → JudgesShapes z nothing ys r → JudgesShapes z nothing (ys ++ the_end ∷ []) r
  with_end ys r j = judged_joined z ys (the_end ∷ []) nothing r r j (r, refl, refl)

  without_end : (ys : List Shape) (r : SoFar) → JudgesShapes z nothing (ys ++ the_end ∷ []) r → JudgesShapes z nothing ys r
  without_end ys r j =
      let k = judged_split z ys (the_end ∷ []) nothing r j in
      subst (λ (s : SoFar). JudgesShapes z nothing ys s) (sym k.2.1 ∙ k.2.2) k.1

module _ (p : Parser) (text : List ℕ) (ys : List Shape) (r : SoFar) (first : p.progress ≡ fresh) (room : p.offset + length text < 2 ^ 64)
    (m : IsModule p.settings text ys) (j : JudgesShapes p.settings nothing ys r) where
  -- a frame that a walk gave is judged behind those before it
  pub judged_next : (fs : List Frame) (f : Frame) (t : Standing) → IsBehind p text (fs ++ f ∷ []) t
      → (q : SoFar) × (s : SoFar) × JudgesShapes p.settings nothing (shapes_of fs) q × JudgesShape p.settings q (shape_of f) s
  judged_next fs f t h =
      let front = walk_first p text (fs ++ f ∷ []) ys t first room m h in
      let k = split_at p.settings fs f (ys ++ the_end ∷ []) front.0 r (shapes_before fs f (ys ++ the_end ∷ []) front.0 front.1) (with_end p.settings ys r j) in
      (k.0, k.1, k.2, k.3)

  -- nothing is refused
  pub judged_not_refused : (fs : List Frame) (s t : Standing) (e : ErrorValue) → IsBehind p text fs s → NextPayload s (Some (Err e)) t → ⊥
  judged_not_refused fs s t e h next =
      let k = refused_next p text fs s t h ys e first room m next in
      let l = judged_split p.settings (shapes_of fs) (section k.0 k.1.rest ∷ k.2) nothing r (subst (λ (xs : List Shape). JudgesShapes p.settings nothing xs r) k.3 j) in
      judged_is_payload p.settings l.0 l.2.0 k.0 k.1 e.kind e.offset l.2.1 k.5 k.6

-- behind the end, what was judged are the frames of the module
pub judged_ended : (p : Parser) (text : List ℕ) (fs : List Frame) (s : Standing) (q : SoFar) → p.progress ≡ fresh → IsBehind p text fs s → s.over ≡ true
    → JudgesShapes p.settings nothing (shapes_of fs) q → (ys : List Shape) × IsModule p.settings text ys × JudgesShapes p.settings nothing ys q
judged_ended p text fs s q first h over j =
    let k = walk_ended p text fs s first h over in
    (k.0, k.2, without_end p.settings k.0 q (subst (λ (xs : List Shape). JudgesShapes p.settings nothing xs q) k.1 j))
