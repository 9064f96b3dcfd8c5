-- The items of a section, added to what was read before them (WebAssembly 3.0, binary format, modules; validation, modules).
--
-- `adds` says what is read with an item more: it is a relation, since of a constant expression the bytes are an item and the code is
-- what is added. An item that may not be added stands in it to nothing.
use Rattle.std.specs.Prelude.{◌≡◌, ◌⊎◌, ◌<◌, ◌≤◌, ◌+◌, ℕ, List, [], ◌∷◌, ◌++◌, length, drop, Result, Ok, Err}
use Rattle.wasm_types.specs.settings.declared.Limits.{Limits}
use Rattle.wasm_types.specs.settings.Settings.{Settings}
use Rattle.wasm_types.specs.decoding.Decoder.{State, Done, Decoder, Grammar, Many}
use Rattle.wasm_types.specs.decoding.declared.error.ErrorKind.TheVariants.{Other}
use Rattle.wasm_types.specs.decoding.ErrorValue.{ErrorValue}
use Rattle.wasm_types.specs.reader.Reading.{Fails}

-- the bytes of an item: those of what is read of it
abbrev pub Spelled : {T V A : Type 0} → (T → V) → (T → A) → Grammar V → Grammar A
Spelled view item g a text = (x : _) × (item x ≡ a) × g (view x) text

-- each of these is added behind those before it, from the first of these to the last
abbrev pub AddsEach : {M A : Type 0} → (M → A → M → Type 0) → M → List A → M → Type 0
AddsEach adds m [] n = m ≡ n
AddsEach adds m (x ∷ xs) n = (k : _) × adds m x k × AddsEach adds k xs n

-- The bytes spell so many items, and no byte is left; and each is added, which leads from what was read before to what is read then.
pub record AreAdded {M A : Type 0} (g : Grammar A) (adds : M → A → M → Type 0) (n : ℕ) (text : List ℕ) (before after : M) : Type 0 where
  pub items : List A
  pub spelled : Many g n items text
  pub each : AddsEach adds before items after

-- ---- an item that is told from its bytes alone

-- From one offset of a text to another stand the bytes of an item, by any settings with these limits. It may be added to whatever was
-- read before, and the state stands for what is read then.
pub record AddsShort {T V A M S : Type 0} (view : T → V) (of : T → A) (g : Settings → Grammar V) (adds : M → A → M → Type 0)
    (reads : S → M → Type 0)
    (before after : S) (l : Limits) (text : List ℕ) (i j : ℕ) : Type 0 where
  pub item : T
  pub front : List ℕ
  pub whole : drop i text ≡ front ++ drop j text
  pub place : j ≡ i + length front
  pub inside : j ≤ length text
  pub spelled : (z : Settings) → z.limits ≡ l → g z (view item) front
  pub may : (m : M) → reads before m → (n : M) × adds m (of item) n
  pub added : (m n : M) → reads before m → adds m (of item) n → reads after n

-- ---- why a section is refused

-- an item is read, from one place to another
abbrev pub IsRead : {T V A : Type 0} → (T → V) → (T → A) → Decoder V → State → A → State → Type 0
IsRead view item d s a t = (x : _) × (item x ≡ a) × (d s ≡ Done (view x) t)

-- a byte is left behind the last item
abbrev pub IsByteLeft : State → ErrorValue → Type 0
IsByteLeft s e = (0 < length s.rest) × (e.kind ≡ Other) × (e.offset ≡ s.place)

-- the item here is read and refused
abbrev pub IsItemRefused : {T V A M : Type 0} → (T → V) → (T → A) → Decoder V → (M → A → ℕ → ErrorValue → Type 0) → State → M → ErrorValue
    → Type 0
IsItemRefused view item d refuses s m e = (x : _) × (t : State) × (d s ≡ Done (view x) t) × refuses m (item x) s.place e

-- Some items were read and added, which leads here. Behind them all a byte is left; or the next item is not read, or is refused.
pub record StopsAdding {T V A M : Type 0} (view : T → V) (item : T → A) (d : Decoder V) (adds : M → A → M → Type 0)
    (refuses : M → A → ℕ → ErrorValue → Type 0) (n : ℕ)
    (s : State) (before : M) (e : ErrorValue) : Type 0 where
  pub items : List A
  pub here : State
  pub now : M
  pub read : AddsEach (IsRead view item d) s items here
  pub each : AddsEach adds before items now
  pub stops : ((length items ≡ n) × IsByteLeft here e)
      ⊎ ((length items < n) × (Fails e (d here) ⊎ IsItemRefused view item d refuses here now e))

-- ---- what is full

-- An answer of what may be full: where it is, the refusal is one of these, and no more is said. Else this holds.
abbrev pub UnlessFull : {X : Type 0} → (ErrorValue → Type 0) → Result X ErrorValue → Type 0 → Type 0
UnlessFull Full (Ok x) P = P
UnlessFull Full (Err e) P = Full e ⊎ P

-- ---- which item of a section has no room

-- An item is read in a section of so many, whose first begins here, after these.
pub record IsItemOf {T V A : Type 0} (view : T → V) (item : T → A) (d : Settings → Decoder V) (n : ℕ) (s : State) (front : List A)
    (x : A) : Type 0 where
  pub here : State
  pub there : State
  pub read : AddsEach (IsRead view item (d s.settings)) s front here
  pub fewer : length front < n
  pub is : IsRead view item (d s.settings) here x there

-- An item is refused with this. Those before it were added, which leads to a state that has no room for it.
pub record IsFullFor {A M S : Type 0} (Is : List A → A → Type 0) (adds : M → A → M → Type 0) (reads : S → M → Type 0) (grows : S → S → Type 0)
    (Full : S → A → ErrorValue → Type 0) (first : S) (e : ErrorValue) : Type 0 where
  pub front : List A
  pub item : A
  pub is : Is front item
  pub state : S
  pub grown : grows first state
  pub some : (m : M) → reads first m → (k : M) × AddsEach adds m front k × reads state k
  pub full : Full state item e
