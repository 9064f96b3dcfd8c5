-- Worked runs from the start of a module.
use Rattle.std.proofs.Common.{◌≡◌, inl, inr, ℕ, List, [], ◌∷◌, ◌++◌, refl, subst, sym, arith, true, false, None}
use Rattle.std.proofs.lemmas.List.{length-append}
use Rattle.wasm_types.specs.settings.Settings.{no_features}
use Rattle.wasm_types.specs.decoding.declared.Refusal.TheVariants.{Other}
use Rattle.wasm_types.specs.decoding.Decoder.{State, Short, Fault}
use Rattle.wasm_types.specs.decoding.Leb.{unsigned, last}
use Rattle.wasm_types.specs.values.WorkedTypeLaws.{start_of}
use Rattle.wasm_sections_items.specs.frames.Outer as outer
use Rattle.wasm_sections_items.specs.frames.Outer.{Counts, Declares, DeclaresOrAbsent}
use Rattle.wasm_sections_items.specs.frames.Decode.{header}
use Rattle.wasm_sections_parser.specs.declared.progress.Stage.{Stage}
use Rattle.wasm_sections_parser.specs.declared.progress.Stage.TheVariants as stages
use Rattle.wasm_sections_parser.specs.declared.progress.Progress.{Progress}
use Rattle.wasm_sections_parser.specs.Steps.{
  Shape,
  version,
  section,
  code,
  entry,
  counts_agree,
  number_before,
  in_part,
  contents,
  code_start,
  next_section,
  next_entry,
  behind_code,
  next_header,
  step,
}
use Rattle.wasm_sections_parser.specs.runs.calls.Advance.{some_bytes}
use Rattle.wasm_sections_parser.specs.runs.calls.Runs.{fresh, Run, Opened}
use Rattle.wasm_sections_parser.specs.runs.steps.Remembered.{HasBodies, CountsFit}
use Rattle.wasm_sections_parser.specs.runs.Modules.{IsCut}

abbrev first_eight : List ℕ
first_eight = 0x00 ∷ 0x61 ∷ 0x73 ∷ 0x6d ∷ 0x01 ∷ 0x00 ∷ 0x00 ∷ 0x00 ∷ []

-- what is left at an offset
abbrev at : ℕ → List ℕ → State
at place rest = record { rest = rest; place = place; settings = no_features; start = 0 }

-- behind sections up to this place, with so many functions and bodies
abbrev behind : Stage → ℕ → ℕ → ℕ → Progress
behind g place f b = record { stage = g; last = place; functions = f; bodies = b; data_count = None; segments = 0 }

-- one type of a function
abbrev a_type : List ℕ
a_type = 0x01 ∷ 0x04 ∷ 0x01 ∷ 0x60 ∷ 0x00 ∷ 0x00 ∷ []

-- one function
abbrev a_function : List ℕ
a_function = 0x03 ∷ 0x02 ∷ 0x01 ∷ 0x00 ∷ []

abbrev declared : List ℕ
declared = first_eight ++ (a_type ++ a_function)

abbrev declared_frames : List Shape → List Shape
declared_frames xs = version (record { version = 1; layer = 0 }) ∷ section 1 (0x01 ∷ 0x60 ∷ 0x00 ∷ 0x00 ∷ []) ∷ section 3 (0x01 ∷ 0x00 ∷ []) ∷ xs

abbrev sections : Progress
sections = behind stages.Sections 0 0 0

abbrev types : Progress
types = behind stages.Sections 1 0 0

abbrev functions : Progress
functions = behind stages.Sections 3 1 0

-- A bare header, which is a module. A section of a padded size. Functions without code, which are no module; with a body they are.
-- A body that passes its section's end, and two sections exchanged, are refused.
pub record RunRows : Type 0 where
  pub bare_header : Run no_features fresh (start_of first_eight) (version (record { version = 1; layer = 0 }) ∷ []) sections (at 8 [])
  pub bare_counts : counts_agree sections ≡ true
  pub padded_size : Run no_features fresh (start_of (first_eight ++ (0x01 ∷ 0x84 ∷ 0x00 ∷ 0x01 ∷ 0x60 ∷ 0x00 ∷ 0x00 ∷ [])))
      (version (record { version = 1; layer = 0 }) ∷ section 1 (0x01 ∷ 0x60 ∷ 0x00 ∷ 0x00 ∷ []) ∷ []) types (at 15 [])
  pub missing_code : Run no_features fresh (start_of declared) (declared_frames []) functions (at 18 [])
  pub missing_counts : counts_agree functions ≡ false
  pub body : Run no_features functions (at 18 (0x0a ∷ 0x06 ∷ 0x01 ∷ 0x04 ∷ 0x00 ∷ 0x41 ∷ 0x2a ∷ 0x0b ∷ []))
      (code 1 6 ∷ entry (0x00 ∷ 0x41 ∷ 0x2a ∷ 0x0b ∷ []) ∷ []) (behind (stages.Code 0 26) 12 1 1) (at 26 [])
  pub body_counts : counts_agree (behind (stages.Code 0 26) 12 1 1) ≡ true
  pub long_body : Run no_features functions (at 18 (0x0a ∷ 0x03 ∷ 0x01 ∷ 0x04 ∷ 0x00 ∷ [])) (code 1 3 ∷ []) (behind (stages.Code 1 23) 12 1 1) (at 21 (0x04 ∷ 0x00 ∷ []))
  pub long_body_refused : step no_features (behind (stages.Code 1 23) 12 1 1) (at 21 (0x04 ∷ 0x00 ∷ [])) ≡ Fault Other 22
  pub exchanged : step no_features (behind stages.Sections 5 0 0) (at 13 (0x04 ∷ 0x04 ∷ 0x01 ∷ 0x70 ∷ 0x00 ∷ 0x00 ∷ [])) ≡ Fault Other 15

pub run_rows : RunRows
unfolding step next_header header next_section contents in_part code_start next_entry behind_code number_before unsigned
run_rows = record {
  bare_header = (sections, at 8 [], refl, (refl, refl));
  bare_counts = refl;
  padded_size = (sections, at 8 (0x01 ∷ 0x84 ∷ 0x00 ∷ 0x01 ∷ 0x60 ∷ 0x00 ∷ 0x00 ∷ []), refl, (types, at 15 [], refl, (refl, refl)));
  missing_code = (sections, at 8 (a_type ++ a_function), refl, (types, at 14 a_function, refl, (functions, at 18 [], refl, (refl, refl))));
  missing_counts = refl;
  body = (behind (stages.Code 1 26) 12 1 1, at 21 (0x04 ∷ 0x00 ∷ 0x41 ∷ 0x2a ∷ 0x0b ∷ []), refl, (behind (stages.Code 0 26) 12 1 1, at 26 [], refl, (refl, refl)));
  body_counts = refl;
  long_body = (behind (stages.Code 1 23) 12 1 1, at 21 (0x04 ∷ 0x00 ∷ []), refl, (refl, refl));
  long_body_refused = refl;
  exchanged = refl;
}

-- ---- a code section that is cut

-- one body of four bytes, and two bytes of a second, in a section of eleven
abbrev a_body : List ℕ
a_body = 0x00 ∷ 0x41 ∷ 0x2a ∷ 0x0b ∷ []

abbrev cut_section : List ℕ
cut_section = 0x0a ∷ 0x0b ∷ 0x02 ∷ 0x04 ∷ 0x00 ∷ 0x41 ∷ 0x2a ∷ 0x0b ∷ []

-- A code section cut within its second body gives its start and the first, and then bytes are missing. It is the front of a module
-- behind two functions; without functions it has no bodies. More bodies than its count, or than its size, are none, and so is a code
-- section behind a data section.
pub record CutRows : Type 0 where
  pub given : Run no_features (behind stages.Sections 3 2 0) (at 18 (cut_section ++ (0x04 ∷ 0x00 ∷ []))) (code 2 11 ∷ entry a_body ∷ []) (behind (stages.Code 1 31) 12 2 2) (at 26 (0x04 ∷ 0x00 ∷ []))
  pub missing : step no_features (behind (stages.Code 1 31) 12 2 2) (at 26 (0x04 ∷ 0x00 ∷ [])) ≡ Short 27 3
  pub opened : Opened 2 11 (a_body ∷ []) cut_section
  pub in_place : (c : List ℕ) → Counts 2 c → IsCut (outer.section 3 c ∷ []) cut_section (code 2 11 ∷ entry a_body ∷ []) 13
  pub without_functions : (text : List ℕ) (xs : List Shape) (n : ℕ) (h : IsCut [] text xs n) → h.count ≡ 0
  pub too_many : (k : ℕ) (e text : List ℕ) → Opened 0 k (e ∷ []) text → ⊥
  pub too_long : (n : ℕ) (es : List (List ℕ)) (text : List ℕ) → Opened n 0 es text → ⊥
  pub too_late : (c text : List ℕ) (xs : List Shape) (n : ℕ) → IsCut (outer.section 11 c ∷ []) text xs n → ⊥

cut_opened : Opened 2 11 (a_body ∷ []) cut_section
cut_opened = record {
  size = 0x0b ∷ [];
  count = 0x02 ∷ [];
  each = 0x04 ∷ 0x00 ∷ 0x41 ∷ 0x2a ∷ 0x0b ∷ [];
  sized = last 32 11 11 (omega arith) (omega arith) refl;
  counted = last 32 2 2 (omega arith) (omega arith) refl;
  bodies = (
    0x04 ∷ 0x00 ∷ 0x41 ∷ 0x2a ∷ 0x0b ∷ [],
    [],
    record { size = 0x04 ∷ []; content = a_body; counted = last 32 4 4 (omega arith) (omega arith) refl; spelled = refl; whole = refl },
    refl,
    refl,
  );
  fewer = omega arith;
  inside = omega arith;
  whole = refl;
}

no_room : (n : ℕ) (es : List (List ℕ)) (text : List ℕ) → Opened n 0 es text → ⊥
no_room n es text h = omega (arith, some_bytes 32 n h.count h.counted, h.inside, length-append h.count h.each)

none_declared : (n : ℕ) → DeclaresOrAbsent 3 n [] → n ≡ 0
none_declared n (inl d) = absurd d
none_declared n (inr a) = a.0

pub cut_rows : CutRows
unfolding step next_section in_part contents code_start next_entry behind_code number_before unsigned cut_opened
cut_rows = record {
  given = (behind (stages.Code 2 31) 12 2 2, at 21 (0x04 ∷ 0x00 ∷ 0x41 ∷ 0x2a ∷ 0x0b ∷ 0x04 ∷ 0x00 ∷ []), refl, (behind (stages.Code 1 31) 12 2 2, at 26 (0x04 ∷ 0x00 ∷ []), refl, (refl, refl)));
  missing = refl;
  opened = cut_opened;
  in_place = λ c two. record { count = 2; size = 11; bodies = a_body ∷ []; opened = cut_opened; declared = inl (inl (refl, two)); ordered = (omega arith, (omega arith, tt)); frames = refl; ends = refl };
  without_functions = λ text xs n h. none_declared h.count h.declared;
  too_many = λ k e text h. let few = h.fewer in omega arith;
  too_long = no_room;
  too_late = λ c text xs n h. let late = h.ordered.1.0 in omega arith;
}

-- ---- counts of sections that are there

-- As many bodies as functions, and as many data segments as announced, whichever of them are there; bodies without functions, and other
-- than as many data segments as announced.
pub record FitRows : Type 0 where
  pub one : (c : List ℕ) → Counts 1 c → CountsFit (outer.section 3 c ∷ outer.code (a_body ∷ []) ∷ [])
  pub no_code_yet : (c : List ℕ) → CountsFit (outer.section 3 c ∷ [])
  pub no_functions : CountsFit (outer.code (a_body ∷ []) ∷ []) → ⊥
  pub no_data_yet : (c : List ℕ) → CountsFit (outer.section 12 c ∷ [])
  pub other_data : (c d : List ℕ) → Counts 2 c → Counts 1 d → CountsFit (outer.section 12 c ∷ outer.section 11 d ∷ []) → ⊥

one_fits : (c : List ℕ) → Counts 1 c → (n : ℕ) → HasBodies n (outer.section 3 c ∷ outer.code (a_body ∷ []) ∷ []) → DeclaresOrAbsent 3 n (outer.section 3 c ∷ outer.code (a_body ∷ []) ∷ [])
one_fits c k n (inl e) = inl (inl (refl, subst (λ (m : ℕ). Counts m c) (sym e) k))
one_fits c k n (inr b) = absurd b

not_announced : (c : List ℕ) (n : ℕ) → Declares 12 n (outer.section 3 c ∷ []) → ⊥
not_announced c n (inl d) = let e = d.0 in omega (arith, e)
not_announced c n (inr d) = d

no_data : (c : List ℕ) (m : ℕ) → Declares 11 m (outer.section 12 c ∷ []) → ⊥
no_data c m (inl d) = let e = d.0 in omega (arith, e)
no_data c m (inr d) = d

unfit : DeclaresOrAbsent 3 1 (outer.code (a_body ∷ []) ∷ []) → ⊥
unfit (inl d) = d
unfit (inr a) = let e = a.0 in omega (arith, e)

pub fit_rows : FitRows
fit_rows = record {
  one = λ c k. record { bodies = one_fits c k; segments = λ n m d s. absurd (not_announced c n d) };
  no_code_yet = λ c. record { bodies = λ n b. absurd b; segments = λ n m d s. absurd (not_announced c n d) };
  no_functions = λ h. unfit (h.bodies 1 (inl refl));
  no_data_yet = λ c. record { bodies = λ n b. absurd b; segments = λ n m d s. absurd (no_data c m s) };
  other_data = λ c d k l h. let e = h.segments 2 1 (inl (refl, k)) (inr (inl (refl, l))) in omega (arith, e);
}
