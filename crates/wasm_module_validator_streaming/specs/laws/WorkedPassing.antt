-- The front of a custom section, worked: where there is one, and where there is none.
use Rattle.std.proofs.Common.{◌≡◌, ◌<◌, ◌+◌, ℕ, List, [], ◌∷◌, None, true, refl, sym, ap, arith}
use Rattle.std.specs.Str.{is_utf8}
use Rattle.wasm_types.specs.settings.Limits.{default_limits}
use Rattle.wasm_types.specs.settings.Settings.{no_features}
use Rattle.wasm_types.specs.decoding.Decoder.{State}
use Rattle.wasm_types.specs.decoding.Leb.{unsigned}
use Rattle.wasm_types.specs.decoding.Text.{counted_within, text_of}
use Rattle.wasm_sections_parser.specs.declared.progress.Stage.{Stage}
use Rattle.wasm_sections_parser.specs.declared.progress.Stage.TheVariants as stages
use Rattle.wasm_sections_parser.specs.Parsers.{Parser}
use Rattle.wasm_module_validator_streaming.specs.Passing.{IsHead, HasHead}
use Rattle.wasm_module_validator_streaming.specs.laws.Passing.{none_between, other_id, no_missing, no_name, missing_is, there_is}

-- bytes that begin at the offset 8
abbrev at : List ℕ → State
at text = record { rest = text; place = 8; settings = no_features; start = 8 }

-- behind the id, and behind the size
abbrev tagged : ℕ → ℕ → State
tagged size count = record { rest = size ∷ (count ∷ (0x61 ∷ [])); place = 9; settings = no_features; start = 8 }

abbrev sized : ℕ → State
sized count = record { rest = count ∷ (0x61 ∷ []); place = 10; settings = no_features; start = 8 }

-- a parser that stands there
abbrev parser : Stage → Parser
parser g = record { offset = 8; settings = no_features; progress = record { stage = g; last = 0; functions = 0; bodies = 0; data_count = None; segments = 0 } }

-- a section of seven bytes with the name "a" and none of its contents; the same with a name of two bytes, of which one is there; all of one with two
-- bytes; and a section that is not custom
abbrev named : List ℕ
named = 0x00 ∷ (0x07 ∷ (0x01 ∷ (0x61 ∷ [])))

abbrev half_named : List ℕ
half_named = 0x00 ∷ (0x07 ∷ (0x02 ∷ (0x61 ∷ [])))

abbrev whole : List ℕ
whole = 0x00 ∷ (0x02 ∷ (0x01 ∷ (0x61 ∷ [])))

abbrev types : List ℕ
types = 0x01 ∷ (0x07 ∷ (0x01 ∷ (0x61 ∷ [])))

-- the name is UTF-8
abbrev pub IsName : Type 0
IsName = is_utf8 (0x61 ∷ []) ≡ true

pub record FrontRows : Type 0 where
  -- its contents begin at the offset 10, and five of their bytes are missing
  pub head : IsName → IsHead (at named) 5 10
  pub not_four : IsHead (at named) 4 10 → ⊥
  pub not_at_nine : IsHead (at named) 5 9 → ⊥
  pub no_name : (missing place : ℕ) → IsHead (at half_named) missing place → ⊥
  pub not_whole : (missing place : ℕ) → IsHead (at whole) missing place → ⊥
  pub not_types : (missing place : ℕ) → IsHead (at types) missing place → ⊥
  -- a section may come there, and not before the header
  pub comes : IsName → HasHead (parser stages.Sections) named
  pub not_first : HasHead (parser stages.Header) named → ⊥

the_head : IsName → IsHead (at named) 5 10
unfolding default_limits unsigned counted_within text_of
the_head e = record {
  size = 7;
  text = 0x61 ∷ [];
  tagged = tagged 7 1;
  sized = sized 1;
  named = record { rest = []; place = 12; settings = no_features; start = 10 };
  tag = refl;
  count = refl;
  begins = rw e refl;
  some = omega arith;
  cut = refl;
  there = refl;
}

pub front_rows : FrontRows
unfolding default_limits unsigned counted_within text_of
front_rows = record {
  head = the_head;
  not_four = λ h. let e = missing_is (at named) (tagged 7 1) 0 refl 7 (sized 1) refl [] 4 10 h in omega (arith, e);
  not_at_nine = λ h. let e = there_is (at named) (tagged 7 1) 0 refl 7 (sized 1) refl [] 5 9 h in omega (arith, e);
  no_name = λ missing place h. (no_name (at half_named) (tagged 7 2) 0 refl 7 (sized 2) refl 11 1 refl).1 [] missing place (omega arith) h;
  not_whole = λ missing place h. no_missing (at whole) (tagged 2 1) 0 refl 2 (sized 1) refl (omega arith) [] missing place h;
  not_types = λ missing place h. other_id (at types) (tagged 7 1) 1 refl (λ e. cc) [] missing place h;
  comes = λ e. record { missing = 5; place = 10; between = refl; head = the_head e; room = omega arith };
  not_first = λ h. none_between (parser stages.Header) refl named h;
}
