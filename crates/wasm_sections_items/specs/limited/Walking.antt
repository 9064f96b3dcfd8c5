-- Walks over the items of a section.
use Rattle.std.specs.Prelude.{◌≡◌, ◌⊎◌, ℕ, ◌+◌, ◌<◌, Bool, true, false, List, [], ◌∷◌, length, take, Result, Ok, Err, Option, Some, None}
use Rattle.wasm_types.specs.decoding.Decoder.{State, Decoder, Done, Takes}
use Rattle.wasm_types.specs.decoding.declared.error.ErrorKind.TheVariants.{Other}
use Rattle.wasm_types.specs.decoding.ErrorValue.{ErrorValue}
use Rattle.wasm_types.specs.reader.Reading.{Fails, IsNotMemory}

-- Where a walk stands: how many items were counted and are not read yet, where the reader stands, and whether nothing comes any
-- more.
pub record Walk : Type 0 where
  pub left : ℕ
  pub reader : State
  pub over : Bool

-- a walk over n items from here
abbrev pub fresh : ℕ → State → Walk
fresh n s = record { left = n; reader = s; over = false }

-- a byte that is left where no item is
abbrev pub IsTrailing : Walk → ErrorValue → Type 0
IsTrailing w e = (w.left ≡ 0) × (0 < length w.reader.rest) × (e.kind ≡ Other) × (e.offset ≡ w.reader.place)

-- What comes next, where `reads` says which items are read and `refuses` which are refused: an item as long as one is left, then
-- nothing if no byte is left. A byte that is left there is refused, and nothing comes behind an error.
abbrev pub NextIn : {X : Type 0} → (State → X → State → Type 0) → (State → ErrorValue → Type 0) → Walk → Option (Result X ErrorValue) → Walk
    → Type 0
NextIn reads refuses w None v = ((w.over ≡ true) ⊎ ((w.left ≡ 0) × (w.reader.rest ≡ []))) × (v.over ≡ true)
NextIn reads refuses w (Some (Ok x)) v = (w.over ≡ false) × (v.over ≡ false) × (w.left ≡ v.left + 1) × reads w.reader x v.reader
NextIn reads refuses w (Some (Err e)) v = (w.over ≡ false) × (v.over ≡ true) × (IsTrailing w e ⊎ ((0 < w.left) × refuses w.reader e))

-- from one place so many bytes are passed, and so many items are left then
abbrev pub Passes : ℕ → ℕ → Walk → Walk → Type 0
Passes n left w v = Takes w.reader (take n w.reader.rest) v.reader × (v.left ≡ left) × (v.over ≡ w.over)

-- the same of values, where they are read by d
abbrev pub plainly : {A : Type 0} → Decoder A → Walk → Option (Result A ErrorValue) → Walk → Type 0
plainly d = NextIn (λ s x t. d s ≡ Done x t) (λ s e. Fails e (d s))

-- a value that was read
abbrev pub ok : {A : Type 0} → A → Result A ErrorValue
ok x = Ok x

-- an item that is not refused for memory
abbrev pub IsNoLack : {A : Type 0} → Result A ErrorValue → Type 0
IsNoLack (Ok x) = Unit {0}
IsNoLack (Err e) = IsNotMemory e.kind

-- no item is refused for memory
abbrev pub NeverLacksMemory : {A : Type 0} → List (Result A ErrorValue) → Type 0
NeverLacksMemory [] = Unit {0}
NeverLacksMemory (r ∷ rs) = IsNoLack r × NeverLacksMemory rs

-- no more items come than this: those that are left, and one error
abbrev pub items_left : Bool → ℕ → ℕ
items_left true n = 0
items_left false n = n + 1
