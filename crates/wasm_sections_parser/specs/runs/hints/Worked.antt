-- Worked bytes that end too early: how many the decoder lacks, and where a size is cut.
use Rattle.std.proofs.Common.{◌≡◌, inl, inr, ℕ, List, [], ◌∷◌, refl, arith, None}
use Rattle.wasm_types.specs.settings.Settings.{no_features}
use Rattle.wasm_types.specs.decoding.declared.Refusal.TheVariants.{Other}
use Rattle.wasm_types.specs.decoding.Decoder.{Short, Fault}
use Rattle.wasm_types.specs.decoding.Leb.{unsigned}
use Rattle.wasm_types.specs.values.WorkedTypeLaws.{start_of}
use Rattle.wasm_sections_items.specs.frames.Decode.{header}
use Rattle.wasm_sections_parser.specs.declared.progress.Stage.{Stage}
use Rattle.wasm_sections_parser.specs.declared.progress.Stage.TheVariants as stages
use Rattle.wasm_sections_parser.specs.declared.progress.Progress.{Progress}
use Rattle.wasm_sections_parser.specs.Steps.{number_before, in_part, contents, code_start, next_section, next_entry, behind_code, next_header, step}
use Rattle.wasm_sections_parser.specs.runs.hints.Hints.{IsBegun, EndsWithinSize}

-- a parser in this stage, behind sections up to this place
abbrev at : Stage → ℕ → Progress
at s last = record { stage = s; last = last; functions = 0; bodies = 0; data_count = None; segments = 0 }

abbrev first : Progress
first = at stages.Header 0

abbrev sections : Progress
sections = at stages.Sections 0

-- A header cut at each of its bytes: it is judged at its fourth and its eighth.
pub record HeaderRows : Type 0 where
  pub none : step no_features first (start_of []) ≡ Short 0 4
  pub one : step no_features first (start_of (0x00 ∷ [])) ≡ Short 0 3
  pub two : step no_features first (start_of (0x00 ∷ 0x61 ∷ [])) ≡ Short 0 2
  pub three : step no_features first (start_of (0x00 ∷ 0x61 ∷ 0x73 ∷ [])) ≡ Short 0 1
  pub four : step no_features first (start_of (0x00 ∷ 0x61 ∷ 0x73 ∷ 0x6d ∷ [])) ≡ Short 4 4
  pub five : step no_features first (start_of (0x00 ∷ 0x61 ∷ 0x73 ∷ 0x6d ∷ 0x01 ∷ [])) ≡ Short 4 3
  pub six : step no_features first (start_of (0x00 ∷ 0x61 ∷ 0x73 ∷ 0x6d ∷ 0x01 ∷ 0x00 ∷ [])) ≡ Short 4 2
  pub seven : step no_features first (start_of (0x00 ∷ 0x61 ∷ 0x73 ∷ 0x6d ∷ 0x01 ∷ 0x00 ∷ 0x00 ∷ [])) ≡ Short 4 1
  pub fourth : step no_features first (start_of (0x00 ∷ 0x61 ∷ 0x73 ∷ 0x00 ∷ [])) ≡ Fault Other 0
  pub eighth : step no_features first (start_of (0x00 ∷ 0x61 ∷ 0x73 ∷ 0x6d ∷ 0x01 ∷ 0x00 ∷ 0x00 ∷ 0xff ∷ [])) ≡ Fault Other 4

pub header_rows : HeaderRows
unfolding step next_header header
header_rows = record { none = refl; one = refl; two = refl; three = refl; four = refl; five = refl; six = refl; seven = refl; fourth = refl; eighth = refl }

-- A section without its size, of which one byte may bring a frame or a refusal; one cut within its size, to which no single byte
-- brings either, nor two or three that end or go on with it, but four that make it too large; its contents cut; a body cut within its
-- size and behind it.
pub record CutRows : Type 0 where
  pub no_size : step no_features sections (start_of (0x01 ∷ [])) ≡ Short 1 1
  pub empty : step no_features sections (start_of (0x03 ∷ 0x00 ∷ [])) ≡ Fault Other 2
  pub within : step no_features sections (start_of (0x01 ∷ 0x85 ∷ [])) ≡ Short 2 1
  pub size_ends : step no_features sections (start_of (0x01 ∷ 0x85 ∷ 0x00 ∷ [])) ≡ Short 3 5
  pub size_goes_on : step no_features sections (start_of (0x01 ∷ 0x85 ∷ 0x80 ∷ [])) ≡ Short 3 1
  pub two_bytes : step no_features sections (start_of (0x01 ∷ 0x85 ∷ 0x80 ∷ 0x00 ∷ [])) ≡ Short 4 5
  pub three_bytes : step no_features sections (start_of (0x01 ∷ 0x85 ∷ 0x00 ∷ 0x00 ∷ 0x00 ∷ [])) ≡ Short 3 3
  pub size_too_long : step no_features sections (start_of (0x01 ∷ 0x85 ∷ 0x80 ∷ 0x80 ∷ 0x80 ∷ 0x10 ∷ [])) ≡ Fault Other 5
  pub contents : step no_features sections (start_of (0x01 ∷ 0x05 ∷ 0x01 ∷ [])) ≡ Short 2 4
  pub body_within : step no_features (at (stages.Code 1 900) 12) (start_of (0x84 ∷ [])) ≡ Short 1 1
  pub body_behind : step no_features (at (stages.Code 1 900) 12) (start_of (0x04 ∷ 0x00 ∷ [])) ≡ Short 1 3
  pub is_within : EndsWithinSize stages.Sections 0 (0x01 ∷ 0x85 ∷ [])
  pub is_body : EndsWithinSize (stages.Code 1 900) 0 (0x84 ∷ [])
  pub not_before : EndsWithinSize stages.Sections 0 (0x01 ∷ []) → ⊥
  pub not_behind : EndsWithinSize stages.Sections 0 (0x01 ∷ 0x05 ∷ []) → ⊥

not_before_it : EndsWithinSize stages.Sections 0 (0x01 ∷ []) → ⊥
not_before_it (inl h) = go h.1.1 h.1.2 h.1.3
  where
    go : (number : List ℕ) → (0x01 ∷ []) ≡ h.1.0 ∷ number → IsBegun number → ⊥
    go [] e b = b
    go (x ∷ xs) e b = absurd cc
not_before_it (inr h) = let no = h.2 in absurd cc

not_behind_it : EndsWithinSize stages.Sections 0 (0x01 ∷ 0x05 ∷ []) → ⊥
not_behind_it (inl h) = go h.1.1 h.1.2 h.1.3
  where
    second : (x y : ℕ) (xs : List ℕ) → (0x01 ∷ 0x05 ∷ []) ≡ y ∷ x ∷ xs → 0x05 ≡ x
    second x y xs e = cc

    go : (number : List ℕ) → (0x01 ∷ 0x05 ∷ []) ≡ h.1.0 ∷ number → IsBegun number → ⊥
    go [] e b = b
    go (x ∷ xs) e b = omega (arith, b.0, second x h.1.0 xs e)
not_behind_it (inr h) = let no = h.2 in absurd cc

pub cut_rows : CutRows
unfolding step next_section contents in_part code_start next_entry behind_code number_before unsigned
cut_rows = record {
  no_size = refl;
  empty = refl;
  within = refl;
  size_ends = refl;
  size_goes_on = refl;
  two_bytes = refl;
  three_bytes = refl;
  size_too_long = refl;
  contents = refl;
  body_within = refl;
  body_behind = refl;
  is_within = inl (refl, (0x01, 0x85 ∷ [], refl, (omega arith, tt)));
  is_body = inr (1, 900, refl, omega arith, (omega arith, tt));
  not_before = not_before_it;
  not_behind = not_behind_it;
}
