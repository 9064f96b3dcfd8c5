-- What is said of the bytes of a reader, worked: where it holds, and where it does not.
use Rattle.std.proofs.Common.{◌≡◌, ◌∙◌, ◌<◌, ◌≤◌, ◌^◌, ◌+◌, ℕ, Bool, true, false, List, [], ◌∷◌, ◌++◌, length, append-nil, Some, Ok, Err, refl, sym, ap, subst, arith, length-append}
use Rattle.std.proofs.lemmas.Bool.{false≢true}
use Rattle.wasm_module_validator_streaming.specs.declared.reading.ReadError.TheVariants as errors
use Rattle.wasm_module_validator_streaming.specs.Pieces.{AcceptsAll, Concludes, HasCome, RefusesAll, ReadsSome, Stops, fails}
use Rattle.wasm_module_validator_streaming.specs.Reads.{Gives}
use Rattle.wasm_sections_parser.specs.runs.hints.Hints.{AreBytes}
use Rattle.wasm_module_validator_streaming.specs.Taking.{IsMidst, IsDenied, IsPassed, IsPending, Takes, Advances}
use Rattle.wasm_module_validator_streaming.specs.declared.taking.Taken.TheVariants as taken
use Rattle.wasm_module_validator_streaming.specs.declared.taking.Advanced.TheVariants as advanced
use Rattle.wasm_types.specs.decoding.ErrorValue.{ErrorValue}

-- what accepts one byte alone, and says which
abbrev pub IsOne : List ℕ → ℕ → Type 0
IsOne text n = text ≡ n ∷ []

-- what refuses whatever has a byte
abbrev pub HasByte : List ℕ → ℕ → Type 0
HasByte text n = text ≡ [] → ⊥

pub record ReaderRows : Type 0 where
  -- all of one byte
  pub accepted : AcceptsAll IsOne 1 (Some (7 ∷ [])) (Some []) 7
  -- one is left, or it is one too many
  pub not_left : AcceptsAll IsOne 1 (Some (7 ∷ (8 ∷ []))) (Some (8 ∷ [])) 7 → ⊥
  pub not_long : AcceptsAll IsOne 0 (Some (7 ∷ [])) (Some []) 7 → ⊥
  -- whatever begins with a byte
  pub refused : RefusesAll HasByte (Some (7 ∷ (8 ∷ []))) (Some (8 ∷ [])) 3
  -- but not where none is
  pub not_refused : RefusesAll HasByte (Some []) (Some []) 3 → ⊥
  -- two bytes are more than one
  pub long : ReadsSome (λ n. 1 < n) (Some (7 ∷ (8 ∷ []))) (Some [])
  pub not_too_long : ReadsSome (λ n. 1 < n) (Some (7 ∷ [])) (Some []) → ⊥
  -- one byte was taken, and one was read behind it, not none; what was taken are as many as there may be
  pub stops : Stops {D = ℕ} (λ text. IsOne text 7) 1 1 (Some (7 ∷ (8 ∷ []))) (Some []) (Err errors.TooLong)
  pub not_behind : Stops {D = ℕ} (λ text. IsOne text 7) 1 0 (Some (7 ∷ (8 ∷ []))) (Some []) (Err errors.TooLong) → ⊥
  pub not_all : Stops {D = ℕ} (λ text. IsOne text 7) 2 1 (Some (7 ∷ (8 ∷ []))) (Some []) (Err errors.TooLong) → ⊥
  pub fewer : Stops {D = ℕ} (λ text. IsOne text 7) 2 1 (Some (7 ∷ (8 ∷ []))) (Some []) (Err errors.Read)
  pub not_fewer : Stops {D = ℕ} (λ text. IsOne text 7) 0 1 (Some (7 ∷ (8 ∷ []))) (Some []) (Err errors.Read) → ⊥
  -- a read that failed alone
  pub failed : fails {D = ℕ} (Err errors.Read) ≡ true
  pub not_failed : fails {D = ℕ} (Err errors.TooLong) ≡ true → ⊥
  -- a read of none is the end
  pub ended : Gives (Some []) (Some []) (Some 0) (0 ∷ [])
  pub not_ended : Gives (Some (7 ∷ [])) (Some (7 ∷ [])) (Some 0) (0 ∷ []) → ⊥

one_more : (got : List ℕ) → 7 ∷ [] ≡ got ++ [] → length got ≡ 1
one_more got e = let n : 1 ≡ length (got ++ []) = ap length e in let m : length (got ++ []) ≡ length got + 0 = length-append got [] in omega (arith, n, m)

one_front : (front : List ℕ) → IsOne front 7 → length front ≡ 1
one_front front is = ap length is

none_behind : (front last : List ℕ) → 7 ∷ (8 ∷ []) ≡ (front ++ last) ++ [] → IsOne front 7 → length last ≤ 0 → ⊥
none_behind front [] e is few = let two : 2 ≡ length ((front ++ []) ++ []) = ap length e in let one : length front ≡ 1 = ap length is in
    let all : length ((front ++ []) ++ []) ≡ length front = ap length (append-nil (front ++ []) ∙ append-nil front) in omega (arith, two, one, all)
none_behind front (b ∷ bs) e is few = omega (arith, few)

pub reader_rows : ReaderRows
reader_rows = record {
  accepted = record { all = 7 ∷ []; read = refl; ended = refl; within = omega arith; known = refl };
  not_left = λ h. let e : 8 ∷ [] ≡ [] = h.ended in cc;
  not_long = λ h. let n = one_more h.all h.read in let w = h.within in omega (arith, n, w);
  refused = record { got = 7 ∷ []; read = refl; eof = false; ended = λ t. absurd (false≢true t); refused = λ more last room e. cc };
  not_refused = λ h. let e : [] ≡ h.got ++ [] = h.read in h.refused [] (λ t. refl) (subst (λ (l : List ℕ). length l < 2 ^ 64) e (omega arith)) (sym e);
  long = (7 ∷ (8 ∷ []), refl, omega arith);
  not_too_long = λ (got, read, more). let n = one_more got read in omega (arith, n, more);
  stops = record { front = 7 ∷ []; last = 8 ∷ []; read = refl; taken = refl; few = omega arith; count = refl };
  not_behind = λ h. none_behind h.front h.last h.read h.taken h.few;
  not_all = λ h. let n = one_front h.front h.taken in let m = h.count in omega (arith, n, m);
  fewer = record { front = 7 ∷ []; last = 8 ∷ []; read = refl; taken = refl; few = omega arith; count = omega arith };
  not_fewer = λ h. let n = one_front h.front h.taken in let m = h.count in omega (arith, n, m);
  failed = refl;
  not_failed = λ e. absurd (false≢true e);
  ended = (omega arith, refl, λ e some. refl);
  not_ended = λ (within, read, end). let e : 7 ∷ [] ≡ [] = end refl (omega arith) in cc;
}

-- ---- steps

-- what stands where one byte came and none is left
abbrev pub StandsBehind : ℕ → List ℕ → Bool → List ℕ → ℕ → Type 0
StandsBehind first got eof rest now = (got ≡ 7 ∷ []) × (rest ≡ [])

abbrev pub ShownOne : ℕ → List ℕ → ℕ → Type 0
ShownOne first text n = IsOne text n

abbrev pub DeniedNone : ℕ → List ℕ → ErrorValue → Type 0
DeniedNone first text e = HasByte text e.offset

-- what takes items of two bytes
abbrev pub WaitsTwo : ℕ → List ℕ → Type 0
WaitsTwo now rest = length rest < 2

pub record StepRows (e : ErrorValue) : Type 0 where
  -- an item of the byte that is left is taken, and none of two
  pub item : Takes StandsBehind ShownOne DeniedNone WaitsTwo 0 (7 ∷ []) false (7 ∷ []) (taken.Item 1) 0
  pub no_item : Takes StandsBehind ShownOne DeniedNone WaitsTwo 0 (7 ∷ []) false (7 ∷ []) (taken.Item 2) 0 → ⊥
  -- where no more come nothing waits
  pub no_wait : Takes StandsBehind ShownOne DeniedNone WaitsTwo 0 (7 ∷ []) true [] (taken.Waits 1) 0 → ⊥
  pub waits : Advances StandsBehind ShownOne DeniedNone WaitsTwo 0 (7 ∷ []) false (7 ∷ []) (advanced.Waits 1 2) 0
  -- where more may come nothing has ended
  pub not_ended : Advances StandsBehind ShownOne DeniedNone WaitsTwo 0 (7 ∷ []) false [] (advanced.Ended 7) 0 → ⊥
  -- whatever begins with a byte is denied, and not whatever begins with none
  pub denied : IsDenied DeniedNone 0 (7 ∷ []) false e
  pub not_denied : IsDenied DeniedNone 0 [] false e → ⊥
  -- one byte came and none is left; not so of two
  pub midst : IsMidst StandsBehind false [] 0
  pub no_midst : IsMidst StandsBehind false (7 ∷ (8 ∷ [])) 0 → ⊥
  pub come : HasCome StandsBehind 0 3 2 (Some (7 ∷ (8 ∷ []))) (Some (8 ∷ [])) [] 0
  pub not_come : HasCome StandsBehind 0 3 2 (Some (7 ∷ (8 ∷ []))) (Some []) [] 0 → ⊥
  -- the byte that came was taken, and none is left; one that is left may wait, and two may not
  pub passed : IsPassed StandsBehind WaitsTwo 0 (7 ∷ [])
  pub not_passed : IsPassed StandsBehind WaitsTwo 0 (8 ∷ []) → ⊥
  pub pending : IsPending WaitsTwo 2 (7 ∷ []) 0
  pub not_pending : IsPending WaitsTwo 3 (7 ∷ []) 0 → ⊥
  -- the bytes that came are concluded on, and no read fails then
  pub concluded : Concludes ShownOne DeniedNone 0 (7 ∷ []) (Ok 7)
  pub not_failing : Concludes {D = ℕ} ShownOne DeniedNone 0 (7 ∷ []) (Err errors.Read) → ⊥

two_came : (got : List ℕ) → got ≡ 7 ∷ [] → 7 ∷ (8 ∷ []) ≡ got ++ [] → ⊥
two_came got is e =
    let same : 7 ∷ (8 ∷ []) ≡ 7 ∷ [] = e ∙ ap (λ (l : List ℕ). l ++ []) is in
    let n : 2 ≡ 1 = ap length same in
    omega (arith, n)

two_more : (more : List ℕ) → AreBytes more → length more < 2 → WaitsTwo 0 more
two_more more bytes few = few

pub step_rows : (e : ErrorValue) → StepRows e
step_rows e = record {
  item = (omega arith, omega arith, (refl, refl));
  no_item = λ h. let n = h.1 in omega (arith, n);
  no_wait = λ h. absurd (false≢true (sym h.0));
  waits = (refl, omega arith, (refl, refl), (omega arith, two_more));
  not_ended = λ h. absurd (false≢true h.0);
  denied = λ more last room none. cc;
  not_denied = λ h. h [] (λ t. refl) (omega arith) refl;
  midst = record { first = 0; got = 7 ∷ []; there = (refl, refl); room = omega arith };
  no_midst = λ h. let none : 7 ∷ (8 ∷ []) ≡ [] = h.there.1 in cc;
  come = (7 ∷ [], refl, refl, (refl, refl));
  not_come = λ h. two_came h.0 h.3.0 h.2;
  passed = ([], 0, (refl, refl), omega arith);
  not_passed = λ h. let e : 8 ∷ [] ≡ 7 ∷ [] = h.2.0 in cc;
  pending = record { here = omega arith; later = λ more bytes few. few };
  not_pending = λ h. let n = h.later (8 ∷ []) (omega arith, tt) (omega arith) in omega (arith, n);
  concluded = refl;
  not_failing = λ h. h;
}
