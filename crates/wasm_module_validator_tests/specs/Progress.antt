-- What is kept of a module that is being read, and when it stands for what was judged, also once it is shared (WebAssembly 3.0, binary
-- format and validation, modules): where nothing was read, and with one part turned.
use Rattle.std.specs.Prelude.{◌≡◌, ◌+◌, ◌<◌, ℕ, Bool, true, false, List, [], ◌∷◌, length, Option, Some, None, Result, Ok, Err}
use Rattle.wasm_types.specs.decoding.Decoder.{State}
use Rattle.wasm_types.specs.decoding.ErrorValue.{ErrorValue}
use Rattle.wasm_types.specs.decoding.declared.error.ErrorKind.TheVariants.{OutOfMemory, Other}
use Rattle.wasm_types.specs.trees.declared.index.CoreTypeId.{CoreTypeId}
use Rattle.wasm_types.specs.settings.Limits.{default_limits}
use Rattle.wasm_types.specs.settings.Settings.{Settings}
use Rattle.wasm_sections_parser.specs.declared.frame.Encoding.TheVariants as encodings
use Rattle.wasm_module_validator_section_order.specs.sections_below.declared.payload.Payload.{Payload}
use Rattle.wasm_module_validator_section_order.specs.sections_below.declared.payload.Payload.TheVariants as payloads
use Rattle.wasm_module_validator_initialisers.specs.index_spaces.Spaces.{own_function}
use Rattle.wasm_module_validator.specs.drivers.judging.Bodies.{AreBodies}
use Rattle.wasm_module_validator_section_order.specs.declared.items.bodies.Body.{Body}
use Rattle.wasm_module_validator_type_storage.specs.trees.Groups.{Group, count}
use Rattle.wasm_module_validator_type_groups.specs.adding.Interned.{ids_from}
use Rattle.wasm_module_validator_initialisers.specs.state.Items.{no_items}
use Rattle.wasm_module_validator_initialisers.specs.state.Adding.{adding_function}
use Rattle.wasm_module_validator_section_order.specs.rules_in_order.Sections.{code_place}
use Rattle.wasm_module_validator_section_order.specs.rules_in_order.Sections as section
use Rattle.wasm_module_validator_section_order.specs.rules_in_order.contexts.InOrder as tree
use Rattle.wasm_module_validator_section_order.specs.rules_in_order.Steps.{SoFar, nothing}
use Rattle.wasm_module_validator_section_order.specs.rules_in_order.Worked.{in_code}
use Rattle.wasm_module_validator.specs.module_validator_payloads.Progress.{Kept, Progress, nothing_over, nothing_kept, kept_groups, renewed, next_over, Grows, Reads, IsAt}
use Rattle.wasm_module_validator.specs.drivers.Sharing.{Reached, nothing_reached, reached, IsNext, renewed_behind, next_behind, has_no_code, body_count, IsReached, TellsNext, Follows, Handed, TellsBody, IsHandedOut, FitsNext, NoneLeft, BodyFollows}

-- ---- what is kept

-- features with these bits, and the limits by default
abbrev pub under : ℕ → Settings
under bits = record { features = bits; limits = default_limits }

-- the same with at most 10 locals
abbrev pub of_ten_locals : ℕ → Settings
of_ten_locals bits = record { features = bits; limits = record default_limits { locals = 10 } }

-- what was read of a module by features with these bits, over a list with these groups: a function, of two groups of types
abbrev pub one_function : ℕ → List Group → Kept
one_function bits groups = record {
  groups = groups;
  items = record (no_items (under bits)) { spaces = adding_function 0 (no_items (under bits)).spaces };
  count = 2;
}

-- the same with types of these ids
abbrev pub of_types : List CoreTypeId → Kept → Kept
of_types ids k = record k { items = record k.items { spaces = record k.items.spaces { types = ids } } }

pub record KeptRows (z : Settings) (g h : Group) : Type 0 where
  pub nothing : nothing_kept z ≡ record { kept = record { groups = []; items = no_items z; count = 0 }; last = 0 }
  pub over : nothing_over (g ∷ []) z ≡ record { kept = record { groups = g ∷ []; items = no_items z; count = 0 }; last = 0 }
  pub renewed_alike : renewed (under 5) (one_function 5 (g ∷ [])) ≡ nothing_over (g ∷ []) (under 5)
  pub renewed_otherwise : renewed (under 6) (one_function 5 (g ∷ [])) ≡ nothing_kept (under 6)
  pub renewed_by_limits : renewed (of_ten_locals 5) (one_function 5 (g ∷ [])) ≡ nothing_kept (of_ten_locals 5)
  pub next : next_over (one_function 5 (g ∷ [])) ≡ nothing_over (g ∷ []) (under 5)
  pub grows : Grows (one_function 5 (g ∷ [])) (of_types (ids_from (count (g ∷ [])) (length h.types)) (one_function 5 (h ∷ g ∷ [])))
  pub grows_again : Grows (one_function 5 (g ∷ [])) (of_types (ids_from 0 (length g.types)) (one_function 5 (g ∷ [])))
  pub grows_by_others : 0 < length h.types → Grows (one_function 5 (g ∷ [])) (of_types (ids_from (count (h ∷ g ∷ [])) (length h.types)) (one_function 5 (h ∷ g ∷ []))) → ⊥
  pub grows_by_more : 0 < length h.types → Grows (one_function 5 (g ∷ [])) (one_function 5 (h ∷ g ∷ [])) → ⊥
  pub grows_not : Grows (one_function 5 (g ∷ [])) (one_function 5 []) → ⊥
  pub grows_alike : Grows (one_function 5 []) (one_function 6 []) → ⊥
  pub reads : Reads section.types (g ∷ []) (no_items z) 0 z tree.no_items
  pub reads_uncounted : Reads section.types (g ∷ []) (no_items z) 1 z tree.no_items → ⊥
  pub reads_late : (x : ℕ) → Reads section.types (g ∷ []) (no_items z) 0 z (record tree.no_items { start = Some x }) → ⊥

-- ---- what it stands for

-- nothing was read by features with these bits, over a list with these groups
abbrev pub begun : List Group → ℕ → Progress
begun groups bits = nothing_over groups (under bits)

pub record StandsFor (groups : List Group) (bits : ℕ) : Type 0 where
  pub at_first : IsAt (under bits) (begun groups bits) [] nothing
  pub of_other_features : IsAt (under (bits + 1)) (begun groups bits) [] nothing → ⊥
  pub of_other_limits : IsAt (of_ten_locals bits) (begun groups bits) [] nothing → ⊥
  pub elsewhere : IsAt (under bits) (record (begun groups bits) { last = 1 }) [] nothing → ⊥
  pub of_more_groups : IsAt (under bits) (record (begun groups bits) { kept = record (begun groups bits).kept { count = 1 } }) [] nothing → ⊥
  pub with_a_body : (b : Body) → IsAt (under bits) (begun groups bits) (b ∷ []) nothing → ⊥
  pub of_a_body : IsAt (under bits) (begun groups bits) [] (record nothing { bodies = [] ∷ [] }) → ⊥
  pub of_a_function : IsAt (under bits) (begun groups bits) [] (record nothing { tree = record tree.no_items { functions = 0 ∷ [] } }) → ⊥

-- a body's type is that of its function, and it is read by the settings
pub record BodiesStand (groups : List Group) (z : Settings) (r : Progress) (b : Body) (p : SoFar) : Type 0 where
  pub of_another_type : p.tree.functions ≡ 3 ∷ [] → b.type_index ≡ 4 → IsAt z r (b ∷ []) p → ⊥
  pub of_other_bytes : p.bodies ≡ (0x00 ∷ 0x0b ∷ []) ∷ [] → b.body.rest ≡ [] → IsAt z r (b ∷ []) p → ⊥
  pub read_otherwise : b.body.settings.features ≡ z.features + 1 → IsAt z r (b ∷ []) p → ⊥

-- each body is of a valid function, and there is one for each function
pub record BodiesJudged (z : Settings) : Type 0 where
  pub none : AreBodies z nothing
  pub missing : AreBodies z (record nothing { tree = record tree.no_items { functions = 0 ∷ [] } }) → ⊥
  pub further : AreBodies z (record nothing { bodies = (0x00 ∷ 0x0b ∷ []) ∷ [] }) → ⊥
  pub of_no_bytes : AreBodies z (record nothing { tree = record tree.no_items { functions = 0 ∷ [] }; bodies = [] ∷ [] }) → ⊥

-- ---- once it is shared

pub record ReachedRows (groups : List Group) (z : Settings) (k : Kept) (r : Progress) : Type 0 where
  pub nothing : nothing_reached z ≡ record { progress = nothing_kept z; code = None }
  pub own : reached r None 12 3 ≡ record { progress = r; code = None }
  pub shared : reached r (Some k) 12 3 ≡ record { progress = record { kept = k; last = 12 }; code = Some 3 }
  pub next_own : IsNext r None
  pub next_shared : IsNext (next_over k) (Some k)
  pub next_read : IsNext (record (next_over k) { last = 1 }) (Some k) → ⊥
  pub renewed_alike : renewed_behind (under 5) (record { progress = record { kept = one_function 5 groups; last = 12 }; code = Some 3 }) ≡ record { progress = begun groups 5; code = None }
  pub renewed_otherwise : renewed_behind (under 6) (record { progress = record { kept = one_function 5 groups; last = 12 }; code = Some 3 }) ≡ nothing_reached (under 6)
  pub behind : next_behind (record { progress = record { kept = one_function 5 groups; last = 12 }; code = Some 3 }) ≡ record { progress = begun groups 5; code = None }
  pub without_code : has_no_code None ≡ true
  pub with_code : has_no_code (Some 0) ≡ false
  pub no_bodies : body_count None ≡ 0
  pub three_bodies : body_count (Some 3) ≡ 3

-- what was begun, before its code
abbrev pub fresh : List Group → ℕ → Reached
fresh groups bits = record { progress = begun groups bits; code = None }

-- not out of memory
abbrev pub at_seven : ErrorValue
at_seven = record { kind = Other; offset = 7; message = [] }

pub record ReachedStands (groups : List Group) (bits : ℕ) : Type 0 where
  pub at_first : IsReached (under bits) (fresh groups bits) nothing
  pub no_bodies : IsReached (under bits) (record (fresh groups bits) { code = Some 0 }) nothing
  pub a_body : IsReached (under bits) (record (fresh groups bits) { code = Some 1 }) nothing → ⊥
  pub elsewhere : IsReached (under bits) (fresh groups bits) (record nothing { last = 1 }) → ⊥

-- The end of a module may come next, and the header of a version that there is not may not.
pub record NextTold (groups : List Group) (bits : ℕ) : Type 0 where
  pub end : (n : ℕ) → TellsNext {X = ℕ} (fresh groups bits) (payloads.End n) (Ok 0)
  pub end_refused : (n : ℕ) → TellsNext {X = ℕ} (fresh groups bits) (payloads.End n) (Err at_seven) → ⊥
  pub another_version : (r : _) → TellsNext {X = ℕ} (fresh groups bits) (payloads.Version 2 encodings.Module r) (Ok 0) → ⊥
  pub another_version_refused : (r : _) → TellsNext {X = ℕ} (fresh groups bits) (payloads.Version 2 encodings.Module r) (Err at_seven)
  pub follows : (n : ℕ) → Follows (fresh groups bits) (payloads.End n) (fresh groups bits)
  pub follows_not : (n : ℕ) → Follows (fresh groups bits) (payloads.End n) (record (fresh groups bits) { code = Some 1 }) → ⊥

-- ---- bodies

-- what was judged up to the code of one function, by every feature
abbrev pub text : List ℕ
text = 0x00 ∷ 0x0b ∷ []

-- of one function the code has begun, of which so many bodies came
abbrev pub code_of : ℕ → Reached
code_of n = record { progress = record { kept = one_function 5 []; last = code_place }; code = Some n }

pub record BodiesTold (f : Handed) : Type 0 where
  pub handed : TellsBody (under 5) in_code text (Ok (Some f))
  pub handed_early : TellsBody (under 5) nothing text (Ok (Some f)) → ⊥
  pub none_left : TellsBody (under 5) nothing text (Ok None)
  pub some_left : TellsBody (under 5) in_code text (Ok None) → ⊥
  pub refused : TellsBody (under 5) nothing text (Err at_seven)
  pub refused_wrongly : TellsBody (under 5) in_code text (Err at_seven) → ⊥
  pub another_index : f.index ≡ 1 → IsHandedOut (code_of 0) (under 5) f → ⊥
  pub another_type : f.index ≡ 0 → f.ty ≡ 1 → IsHandedOut (code_of 0) (under 5) f → ⊥
  pub other_features : f.features.0 ≡ 6 → IsHandedOut (code_of 0) (under 5) f → ⊥
  pub other_limits : f.limits.locals ≡ 10 → IsHandedOut (code_of 0) (under 5) f → ⊥
  pub no_function : IsHandedOut (code_of 1) (under 5) f → ⊥
  pub left : NoneLeft (code_of 0) → ⊥
  pub all : NoneLeft (code_of 1)
  pub fits : (s : State) → s.rest ≡ text → FitsNext (code_of 0) s
  pub fits_early : (s : State) → FitsNext (fresh [] 5) s → ⊥
  pub fits_long : (s : State) → 7654321 < length s.rest → FitsNext (code_of 0) s → ⊥
  pub follows_none : (s : State) → BodyFollows (code_of 1) (under 5) s (Ok None) (code_of 1)
  pub follows_none_changed : (s : State) → BodyFollows (code_of 1) (under 5) s (Ok None) (code_of 2) → ⊥
  pub follows_none_left : (s : State) → BodyFollows (code_of 0) (under 5) s (Ok None) (code_of 0) → ⊥
  pub follows_uncounted : (s : State) → BodyFollows (code_of 0) (under 5) s (Ok (Some f)) (code_of 0) → ⊥
  pub follows_refused : (s : State) → BodyFollows (fresh [] 5) (under 5) s (Err at_seven) (fresh [] 5)
  pub follows_refused_wrongly : (s : State) → s.rest ≡ text → BodyFollows (code_of 0) (under 5) s (Err at_seven) (code_of 0) → ⊥
  pub follows_refused_changed : (s : State) → BodyFollows (code_of 0) (under 5) s (Err at_seven) (code_of 1) → ⊥
