-- What takes bytes item by item: where it stands, and what an item leads to.
use Rattle.std.specs.Prelude.{◌≡◌, ◌<◌, ◌≤◌, ◌^◌, ◌++◌, ℕ, Bool, true, false, List, [], length, drop}
use Rattle.wasm_types.specs.decoding.ErrorValue.{ErrorValue}
use Rattle.wasm_sections_parser.specs.runs.hints.Hints.{AreBytes}
use Rattle.wasm_module_validator_streaming.specs.declared.taking.Taken.{Taken}
use Rattle.wasm_module_validator_streaming.specs.declared.taking.Taken.TheVariants as taken
use Rattle.wasm_module_validator_streaming.specs.declared.taking.Advanced.{Advanced}
use Rattle.wasm_module_validator_streaming.specs.declared.taking.Advanced.TheVariants as advanced

-- From what it was at first some bytes came, of which these are left.
pub record IsMidst {S : Type 0} (stands : S → List ℕ → Bool → List ℕ → S → Type 0) (eof : Bool) (rest : List ℕ) (now : S) : Type 0 where
  pub first : S
  pub got : List ℕ
  pub there : stands first got eof rest now
  pub room : length got < 2 ^ 64

-- Wherever it stood, with these left of the bytes that came, it stands now, with those left.
abbrev pub Carries : {S : Type 0} → (S → List ℕ → Bool → List ℕ → S → Type 0) → Bool → List ℕ → S → List ℕ → S → Type 0
Carries {S = S} stands eof before then rest now = (first : S) (got : List ℕ) → stands first got eof before then → length got < 2 ^ 64
    → stands first got eof rest now

-- An error denies whatever begins with the bytes that came.
abbrev pub IsDenied : {S E : Type 0} → (S → List ℕ → E → Type 0) → S → List ℕ → Bool → E → Type 0
IsDenied denied first got eof e = (more : List ℕ) → (eof ≡ true → more ≡ []) → length (got ++ more) < 2 ^ 64 → denied first (got ++ more) e

-- ---- bytes of which nothing is taken yet

-- With fewer than so many bytes more, and there are some so many, these hold no whole item, and none is refused.
abbrev pub WaitsFor : {S : Type 0} → (S → List ℕ → Type 0) → ℕ → List ℕ → S → Type 0
WaitsFor waits n rest now = (0 < n) × ((more : List ℕ) → AreBytes more → length more < n → waits now (rest ++ more))

-- They hold none, and with more they hold none as long as there are fewer than are needed.
pub record IsPending {S : Type 0} (waits : S → List ℕ → Type 0) (needed : ℕ) (rest : List ℕ) (now : S) : Type 0 where
  pub here : waits now rest
  pub later : (more : List ℕ) → AreBytes more → length (rest ++ more) < needed → waits now (rest ++ more)

-- Of these bytes all whole items were taken, and none is refused.
abbrev pub IsPassed : {S : Type 0} → (S → List ℕ → Bool → List ℕ → S → Type 0) → (S → List ℕ → Type 0) → S → List ℕ → Type 0
IsPassed {S = S} stands waits first text = (rest : List ℕ) × (now : S) × stands first text false rest now × waits now rest

-- ---- what a call answers

-- What a call answers to the bytes that are left, and where it stands then.
abbrev pub Takes : {S D : Type 0} → (S → List ℕ → Bool → List ℕ → S → Type 0) → (S → List ℕ → D → Type 0)
    → (S → List ℕ → ErrorValue → Type 0)
    → (S → List ℕ → Type 0) → S → List ℕ → Bool → List ℕ → Taken D → S → Type 0
Takes stands shown denied waits first got eof rest (taken.Item n) now = (0 < n) × (n ≤ length rest) × stands first got eof (drop n rest) now
Takes stands shown denied waits first got eof rest (taken.Waits n) now = (eof ≡ false) × stands first got eof rest now
    × WaitsFor waits n rest now
Takes stands shown denied waits first got eof rest (taken.Ended d) now = (eof ≡ true) × shown first got d
Takes stands shown denied waits first got eof rest (taken.Refused e) now = IsDenied denied first got eof e

-- The same of all whole items.
abbrev pub Advances : {S D : Type 0} → (S → List ℕ → Bool → List ℕ → S → Type 0) → (S → List ℕ → D → Type 0)
    → (S → List ℕ → ErrorValue → Type 0)
    → (S → List ℕ → Type 0) → S → List ℕ → Bool → List ℕ → Advanced D → S → Type 0
Advances stands shown denied waits first got eof rest (advanced.Waits n k) now = (eof ≡ false) × (n ≤ length rest)
    × stands first got eof (drop n rest) now × WaitsFor waits k (drop n rest) now
Advances stands shown denied waits first got eof rest (advanced.Ended d) now = (eof ≡ true) × shown first got d
Advances stands shown denied waits first got eof rest (advanced.Refused e) now = IsDenied denied first got eof e

-- Wherever it stood, the error denies whatever begins with the bytes that came.
abbrev pub DeniesFrom : {S E : Type 0} → (S → List ℕ → Bool → List ℕ → S → Type 0) → (S → List ℕ → E → Type 0) → Bool → List ℕ → S → E
    → Type 0
DeniesFrom {S = S} stands denied eof before then e = (first : S) (got : List ℕ) → stands first got eof before then → length got < 2 ^ 64
    → IsDenied denied first got eof e
