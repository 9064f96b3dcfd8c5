-- A walk over all bytes of a module that takes each payload: what is kept stands for whatever was judged so far.
use Rattle.std.proofs.Common.{◌≡◌, ◌+◌, ◌<◌, ◌^◌, ℕ, List, [], ◌∷◌, ◌++◌, length, refl, sym, subst, arith, false, Some, None, Ok, Err}
use Rattle.wasm_types.specs.settings.Settings.{Settings}
use Rattle.wasm_types.specs.trees.Trees.{TypeTree}
use Rattle.wasm_types.specs.decoding.ErrorValue.{ErrorValue}
use Rattle.wasm_types.specs.decoding.Denials.{Denies}
use Rattle.wasm_types.specs.decoding.DenialLaws.{denies}
use Rattle.wasm_types.specs.decoding.declared.error.ErrorKind.{ErrorKind}
use Rattle.wasm_types.specs.decoding.declared.error.ErrorKind.TheVariants.{EndOfData, MissingFeature, OutOfMemory, Failed, Other}
use Rattle.wasm_sections_parser.specs.declared.frame.Frame.{Frame}
use Rattle.wasm_sections_parser.specs.Parsers.{Parser}
use Rattle.wasm_sections_parser.specs.Parsing.{shape_of}
use Rattle.wasm_sections_parser.specs.Steps.{Shape, the_end}
use Rattle.wasm_sections_parser.specs.runs.calls.Runs.{fresh}
use Rattle.wasm_sections_parser.specs.runs.calls.Calls.{Calls, shapes_of}
use Rattle.wasm_sections.specs.declared.payload.Payload.{Payload}
use Rattle.wasm_sections.specs.Payloads.{IsPayloadOf}
use Rattle.wasm_sections.specs.Walking.{Standing, NextPayload}
use Rattle.wasm_module_validator_section_order.specs.items.AddingLaws.{denies_each}
use Rattle.wasm_module_validator_section_order.specs.declared.items.bodies.Body.{Body}
use Rattle.wasm_module_validator_section_order.specs.rules_in_order.Steps.{SoFar, nothing, JudgesShape, JudgesShapes}
use Rattle.wasm_module_validator_section_order.specs.rules_in_order.laws.Judged.{nothing_is_judged, judged_joined}
use Rattle.wasm_module_validator_payloads.specs.state.invariant.laws.Worked.{worked_nothing}
use Rattle.wasm_module_validator_section_order.specs.frames.Walks.{HasSettings, IsBehind}
use Rattle.wasm_module_validator_section_order.specs.frames.FrontLaws.{modules_one}
use Rattle.wasm_module_validator_section_order.specs.frames.WalkLaws.{behind_nothing, payload_next, walk_ended}
use Rattle.wasm_module_validator_section_order.specs.frames.JudgedLaws.{judged_more, judged_less, judged_next, judged_not_refused, judged_ended}
use Rattle.wasm_module_validator_type_storage.specs.trees.Groups.{Group}
use Rattle.wasm_module_validator_payloads.specs.Progress.{HasGroup, Progress, IsAt, nothing_over}
use Rattle.wasm_module_validator_drivers.specs.reading.Reading.{HasGroupIn, IsReadAs, first_parser}

-- before the first frame
pub nothing_is_at : (groups : List Group) (z : Settings) → IsAt z (nothing_over groups z) [] nothing
nothing_is_at groups z = record {
  stands = worked_nothing groups z;
  judged = nothing_is_judged z;
  counted = refl;
  placed = refl;
  bodies = refl;
  types = refl;
  read = tt;
}

module _ (p : Parser) (text : List ℕ) where
  abbrev z : Settings
  z = p.settings

  -- these frames were judged, and lead to this
  abbrev Judges : List Frame → SoFar → Type 0
  Judges fs q = JudgesShapes z nothing (shapes_of fs) q

  -- The walk stands behind some frames. They were judged, and what is kept stands for whatever was read so.
  pub record Goes (s : Standing) (r : Progress) (bodies : List Body) : Type 0 where
    pub frames : List Frame
    pub behind : IsBehind p text frames s
    pub some : (q : SoFar) × Judges frames q
    pub stands : (q : SoFar) → Judges frames q → IsAt z r bodies q

  module _ (first : p.progress ≡ fresh) (room : p.offset + length text < 2 ^ 64) where
    pub goes_first : (s : Standing) (r : Progress) → s ≡ record { parser = p; rest = text; over = false } → IsAt z r [] nothing → Goes s r []
    goes_first s r e at = record {
      frames = [];
      behind = behind_nothing p text s first e;
      some = (nothing, refl);
      stands = λ q is. subst (IsAt z r []) is at;
    }

    -- ---- a payload

    module _ (s t : Standing) (r : Progress) (bodies : List Body) (x : Payload) (g : Goes s r bodies) (next : NextPayload s (Some (Ok x)) t) where
      taken : (f : Frame) × IsPayloadOf f x × HasSettings z f × IsBehind p text (g.frames ++ f ∷ []) t
      taken = payload_next p text g.frames s t g.behind x next

      pub goes_on : (r' : Progress) (bodies' : List Body)
          → ((z : Settings) (q : SoFar) (f : Frame) → IsAt z r bodies q → HasSettings z f → IsPayloadOf f x → (n : SoFar) × JudgesShape z q (shape_of f) n)
          → ((z : Settings) (q n : SoFar) (f : Frame) → IsAt z r bodies q → HasSettings z f → IsPayloadOf f x → JudgesShape z q (shape_of f) n → IsAt z r' bodies' n)
          → Goes t r' bodies'
      goes_on r' bodies' answer added =
          let n = answer z g.some.0 taken.0 (g.stands g.some.0 g.some.1) taken.2 taken.1 in
          record {
            frames = g.frames ++ taken.0 ∷ [];
            behind = taken.3;
            some = (n.0, judged_more z g.frames taken.0 g.some.0 n.0 g.some.1 n.1);
            stands = λ m h. let a = judged_less z g.frames taken.0 m h in added z a.0 m taken.0 (g.stands a.0 a.1) taken.2 taken.1 a.2;
          }

      -- a group of the payload is one of the bytes
      pub group_in : (b : List TypeTree) (n : ℕ) → p ≡ first_parser z → HasGroup x b n → HasGroupIn z text b n
      group_in b n at h = record {
        frames = g.frames;
        last = taken.0;
        section = x;
        parser = t.parser;
        rest = t.rest;
        calls = subst (λ (q : Parser). Calls q text (g.frames ++ taken.0 ∷ []) t.parser t.rest) at taken.3.calls;
        is = taken.1;
        has = h;
      }

      pub refused_payload : (k : ErrorKind)
          → ((z : Settings) (q : SoFar) (f : Frame) → IsAt z r bodies q → HasSettings z f → IsPayloadOf f x → Denies k ((n : SoFar) × JudgesShape z q (shape_of f) n))
          → Denies k ((q : SoFar) × IsReadAs z text q)
      refused_payload k answer = denies_each {X = (q : SoFar) × Judges g.frames q} k (λ q. (n : SoFar) × JudgesShape z q.0 (shape_of taken.0) n) _ come
          (λ q. answer z q.0 taken.0 (g.stands q.0 q.1) taken.2 taken.1)
        where
          come : (q : SoFar) × IsReadAs z text q → (q : (q : SoFar) × Judges g.frames q) × ((n : SoFar) × JudgesShape z q.0 (shape_of taken.0) n)
          come (m, (ys, is, judged)) =
              let a = judged_next p text ys m first room is judged g.frames taken.0 t taken.3 in
              ((a.0, a.2), (a.1, a.3))

    -- ---- bytes that are refused

    pub refused_bytes : (s t : Standing) (r : Progress) (bodies : List Body) (e : ErrorValue) → Goes s r bodies → NextPayload s (Some (Err e)) t
        → Denies e.kind ((q : SoFar) × IsReadAs z text q)
    refused_bytes s t r bodies e g next = denies e.kind _ (λ h. judged_not_refused p text h.1.0 h.0 first room h.1.1 h.1.2 g.frames s t e g.behind next)

    -- ---- the end

    module _ (s t : Standing) (r : Progress) (bodies : List Body) (g : Goes s r bodies) (none : NextPayload s None t) where
      pub is_read : (q : SoFar) × IsReadAs z text q
      is_read = (g.some.0, judged_ended p text g.frames s g.some.0 first g.behind none.0 g.some.1)

      pub stands_for : (q : SoFar) → IsReadAs z text q → IsAt z r bodies q
      stands_for q (ys, is, judged) =
          let k = walk_ended p text g.frames s first g.behind none.0 in
          let same : ys ≡ k.0 = modules_one z text ys k.0 (omega (arith, room)) is k.2 in
          let whole : JudgesShapes z nothing (k.0 ++ the_end ∷ []) q
          = judged_joined z k.0 (the_end ∷ []) nothing q q (subst (λ (xs : List Shape). JudgesShapes z nothing xs q) same judged) (q, refl, refl) in
          g.stands q (subst (λ (xs : List Shape). JudgesShapes z nothing xs q) (sym k.1) whole)
