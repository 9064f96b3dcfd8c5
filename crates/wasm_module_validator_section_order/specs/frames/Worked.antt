-- Worked settings of frames, and worked walks over a header, a start section and the end.
use Rattle.std.proofs.Common.{◌≡◌, ℕ, List, [], ◌∷◌, refl, sym, ap, subst, arith, Bool, true, false, None}
use Rattle.wasm_types.specs.settings.Settings.{Settings, no_features}
use Rattle.wasm_types.specs.decoding.Decoder.{State}
use Rattle.wasm_types.specs.decoding.Leb.{unsigned}
use Rattle.wasm_types.specs.decoding.declared.error.ErrorKind.TheVariants.{Other}
use Rattle.wasm_types.specs.decoding.ErrorValue.{ErrorValue}
use Rattle.wasm_types.specs.reader.Reading.{Fails}
use Rattle.wasm_sections_items.specs.frames.Decode.{header}
use Rattle.wasm_sections_parser.specs.declared.frame.Encoding.TheVariants.{Module}
use Rattle.wasm_sections_parser.specs.declared.frame.Frame.{Frame}
use Rattle.wasm_sections_parser.specs.declared.frame.Frame.TheVariants as frames
use Rattle.wasm_sections_parser.specs.Parsers.{Parser}
use Rattle.wasm_sections_parser.specs.declared.progress.Stage.{Stage}
use Rattle.wasm_sections_parser.specs.declared.progress.Stage.TheVariants as stages
use Rattle.wasm_sections_parser.specs.Steps.{Shape, version, section, next_header, step}
use Rattle.wasm_sections_parser.specs.Parsing.{IsNext}
use Rattle.wasm_sections.specs.Payloads.{front_of}
use Rattle.wasm_sections.specs.Walking.{Standing}
use Rattle.wasm_module_validator_section_order.specs.frames.Walks.{HasSettings, IsBehind, RefusesNext}

-- bytes that are read by these settings
abbrev under : Settings → List ℕ → State
under z text = record { rest = text; place = 10; settings = z; start = 10 }

-- the same limits, with the feature of the lowest bit alone
abbrev one_feature : Settings
one_feature = record no_features { features = 1 }

abbrev parser : Settings → ℕ → Stage → Parser
parser z place g = record { offset = place; settings = z; progress = record { stage = g; last = 0; functions = 0; bodies = 0; data_count = None; segments = 0 } }

abbrev begun : Settings → Parser
begun z = parser z 0 stages.Header

abbrev standing : Parser → List ℕ → Bool → Standing
standing p text over = record { parser = p; rest = text; over = over }

abbrev first_eight : List ℕ
first_eight = 0x00 ∷ 0x61 ∷ 0x73 ∷ 0x6d ∷ 0x01 ∷ 0x00 ∷ 0x00 ∷ 0x00 ∷ []

abbrev version_1 : Frame
version_1 = frames.Version 1 Module (record { start = 0; end = 8 })

abbrev shape_1 : Shape
shape_1 = version (record { version = 1; layer = 0 })

abbrev error : ErrorValue
error = record { kind = Other; offset = 11; message = [] }

-- A section or a body that is read with no features is not read with one; what is read of a header depends on none. A walk over a bare
-- header stands at its start, behind the header, behind the end; it is not over at its start, and no byte was taken there. Behind the
-- header a start section with a byte behind its number is refused, and one that is one number is not.
pub record WalkRows : Type 0 where
  pub contents : HasSettings no_features (frames.Section 1 (under no_features []))
  pub not_under_one : HasSettings no_features (frames.Section 1 (under one_feature [])) → ⊥
  pub body : HasSettings no_features (frames.CodeEntry (under no_features []))
  pub no_body : HasSettings no_features (frames.CodeEntry (under one_feature [])) → ⊥
  pub any_header : (z : Settings) → HasSettings z version_1
  pub starts : (z : Settings) → IsBehind (begun z) first_eight [] (standing (begun z) first_eight false)
  pub not_over : (z : Settings) → IsBehind (begun z) first_eight [] (standing (begun z) first_eight true) → ⊥
  pub none_taken : (z : Settings) → IsBehind (begun z) first_eight [] (standing (begun z) [] false) → ⊥
  pub headed : (z : Settings) → IsBehind (begun z) first_eight (version_1 ∷ []) (standing (parser z 8 stages.Sections) [] false)
  pub ended : (z : Settings) → IsBehind (begun z) first_eight (version_1 ∷ frames.End 8 ∷ []) (standing (parser z 8 stages.Ended) [] true)
  pub refused : (z : Settings) → RefusesNext (begun z) (version_1 ∷ []) (shape_1 ∷ section 8 (0x05 ∷ 0x00 ∷ []) ∷ []) error
  pub not_refused : (z : Settings) → RefusesNext (begun z) (version_1 ∷ []) (shape_1 ∷ section 8 (0x05 ∷ []) ∷ []) error → ⊥

header_next : (z : Settings) → IsNext (begun z) first_eight 8 version_1 (parser z 8 stages.Sections)
unfolding step next_header header
header_next z =
    let after : State = record { rest = []; place = 8; settings = z; start = 0 } in
    record { after = after; read = refl; placed = (refl, refl); consumed = refl; offset = refl; settings = refl }

id_is : (i j : ℕ) (a b : List ℕ) (xs ys : List Shape) → shape_1 ∷ section i a ∷ xs ≡ shape_1 ∷ section j b ∷ ys → i ≡ j
id_is i j a b xs ys e = cc

text_is : (i j : ℕ) (a b : List ℕ) (xs ys : List Shape) → shape_1 ∷ section i a ∷ xs ≡ shape_1 ∷ section j b ∷ ys → a ≡ b
text_is i j a b xs ys e = cc

-- a start section that is one number is not refused
one_number : (s : State) → Fails error (front_of 8 (record { rest = 0x05 ∷ []; place = s.place; settings = s.settings; start = s.start })) → ⊥
unfolding unsigned
one_number s h = cc

no_refusal : (z : Settings) → RefusesNext (begun z) (version_1 ∷ []) (shape_1 ∷ section 8 (0x05 ∷ []) ∷ []) error → ⊥
no_refusal z h =
    let id : 8 ≡ h.0 = id_is 8 h.0 (0x05 ∷ []) h.1.rest [] h.2 h.3 in
    let text : 0x05 ∷ [] ≡ h.1.rest = text_is 8 h.0 (0x05 ∷ []) h.1.rest [] h.2 h.3 in
    one_number h.1
    (subst (λ (x : List ℕ). Fails error (front_of 8 (record { rest = x; place = h.1.place; settings = h.1.settings; start = h.1.start }))) (sym text)
    (subst (λ (i : ℕ). Fails error (front_of i h.1)) (sym id) h.6))

pub walk_rows : WalkRows
unfolding unsigned
walk_rows = record {
  contents = refl;
  not_under_one = λ h. let n : 1 ≡ 0 = ap (λ (z : Settings). z.features) h in omega (arith, n);
  body = refl;
  no_body = λ h. let n : 1 ≡ 0 = ap (λ (z : Settings). z.features) h in omega (arith, n);
  any_header = λ z. tt;
  starts = λ z. record { calls = (refl, refl); over = refl };
  not_over = λ z h. let e : false ≡ true = h.over in cc;
  none_taken = λ z h. let e = h.calls.1 in cc;
  headed = λ z. record { calls = (8, parser z 8 stages.Sections, record { piece = first_eight; later = []; eof = true; whole = refl; told = λ e. refl; parses = header_next z }, (refl, refl)); over = refl };
  ended = λ z. record {
    calls = (
      8,
      parser z 8 stages.Sections,
      record { piece = first_eight; later = []; eof = true; whole = refl; told = λ e. refl; parses = header_next z },
      (0, parser z 8 stages.Ended, record { piece = []; later = []; eof = true; whole = refl; told = λ e. refl; parses = (refl, refl, refl, refl, refl) }, (refl, refl)),
    );
    over = refl;
  };
  refused = λ z. (8, record { rest = 0x05 ∷ 0x00 ∷ []; place = 10; settings = z; start = 10 }, [], refl, refl, tt, refl);
  not_refused = no_refusal;
}
