-- Decoders of bytes: what they answer, how they are put together, and their laws.
use Rattle.std.specs.Prelude.{◌≡◌, ℕ, zero, suc, ◌+◌, ◌-◌, ◌<◌, ◌≤◌, List, [], ◌∷◌, ◌++◌, length, take, drop, nat_lt, ◌==◌, if◌then◌else◌}
use Rattle.wasm_types_settings.specs.Settings.{Settings}
use Rattle.wasm_types_decoding.specs.declared.Refusal.{Refusal}

-- Where a reader stands: the bytes that are left, the offset of the first of them, the features that are allowed and
-- the limits that hold, and the offset where its data began.
pub record State : Type 0 where
  pub rest : List ℕ
  pub place : ℕ
  pub settings : Settings
  pub start : ℕ

-- the same, with more bytes at the end of the buffer
abbrev pub extended : State → List ℕ → State
extended s more = record { rest = s.rest ++ more; place = s.place; settings = s.settings; start = s.start }

-- what a decoder answers
pub data Outcome (A : Type 0) : Type 0 where
  -- a value, and where the reader stands behind it
  Done : A → State → Outcome A
  -- the bytes end at this offset, and at least so many more are needed there
  Short : ℕ → ℕ → Outcome A
  -- what no further byte mends, and its offset
  Fault : Refusal → ℕ → Outcome A

-- from where a reader stands to what it answers
abbrev pub Decoder : Type 0 → Type 0
Decoder A = State → Outcome A

-- a value goes on with f; an end of data and a fault stay
abbrev pub continue_with : {A B : Type 0} → Outcome A → (A → Decoder B) → Outcome B
continue_with (Done x s) f = f x s
continue_with (Short p h) f = Short p h
continue_with (Fault k p) f = Fault k p

-- ---- decoders

infixl 10 ◌>>=◌
-- d, and then what f makes of its value
abbrev pub ◌>>=◌ : {A B : Type 0} → Decoder A → (A → Decoder B) → Decoder B
(d >>= f) s = continue_with (d s) f

-- a value of no bytes
abbrev pub pure : {A : Type 0} → A → Decoder A
pure x s = Done x s

-- a fault at this many bytes before the offset reached
abbrev pub refuse : {A : Type 0} → Refusal → ℕ → Decoder A
refuse k back s = Fault k (s.place - back)

-- the first of these bytes, if there is one
abbrev pub first_of_rest : List ℕ → State → Outcome ℕ
first_of_rest [] s = Short s.place 1
first_of_rest (b ∷ rest) s = Done b (record { rest = rest; place = s.place + 1; settings = s.settings; start = s.start })

-- the next byte
abbrev pub byte : Decoder ℕ
byte s = first_of_rest s.rest s

-- n bytes as they stand
abbrev pub bytes : ℕ → Decoder (List ℕ)
bytes n s = if nat_lt (length s.rest) n then Short s.place (n - length s.rest) else Done (take n s.rest)
    (record { rest = drop n s.rest; place = s.place + n; settings = s.settings; start = s.start })

-- n values, one after the other
unfoldable pub repeated : {A : Type 0} → ℕ → Decoder A → Decoder (List A)
repeated zero d = pure []
repeated (suc n) d = d >>= λ x. repeated n d >>= λ xs. pure (x ∷ xs)

-- what stands for a byte in the list, or else what is last
abbrev pub choice : {A : Type 0} → List (ℕ × Decoder A) → Decoder A → ℕ → Decoder A
choice [] other b = other
choice (c ∷ cs) other b = if b == c.0 then c.1 else choice cs other b

-- ---- laws

-- from s a reader took this text, and stands at t
pub record Takes (s : State) (text : List ℕ) (t : State) : Type 0 where
  pub parts : s.rest ≡ text ++ t.rest
  pub place : t.place ≡ s.place + length text
  pub settings : t.settings ≡ s.settings
  pub start : t.start ≡ s.start

-- t stands at s or further on, in the same bytes
pub record Reaches (s t : State) : Type 0 where
  pub text : List ℕ
  pub taken : Takes s text t

-- it has gone on beyond an offset
abbrev pub IsBeyond : {A : Type 0} → ℕ → Outcome A → Type 0
IsBeyond p (Done x s) = p < s.place
IsBeyond p (Short q h) = p < q
IsBeyond p (Fault k q) = Unit {0}

-- What a decoder answers once more bytes stand behind the buffer. A value and a fault stay. Where the bytes end, it
-- stays there until as many have come as were needed, and then no longer.
abbrev pub GoesOn : {A : Type 0} → Outcome A → List ℕ → Outcome A → Type 0
GoesOn (Done x s) more after = after ≡ Done x (extended s more)
GoesOn (Short p h) more after = (length more < h → after ≡ Short p (h - length more)) × (h ≤ length more → IsBeyond p after)
GoesOn (Fault k p) more after = after ≡ Fault k p

-- an answer is final, and a hint is exact
abbrev pub IsSteady : {A : Type 0} → Decoder A → Type 0
IsSteady d = (s : State) (more : List ℕ) → GoesOn (d s) more (d (extended s more))

-- a value is taken from the front; the bytes end no earlier than here, and one more is needed at least
abbrev pub GoesForward : {A : Type 0} → State → Outcome A → Type 0
GoesForward s (Done x t) = (text : List ℕ) × Takes s text t
GoesForward s (Short p h) = (s.place ≤ p) × (0 < h)
GoesForward s (Fault k p) = Unit {0}

-- for each state
abbrev pub IsForward : {A : Type 0} → Decoder A → Type 0
IsForward d = (s : State) → GoesForward s (d s)

-- what every decoder here is proved to be
pub record IsLawful {A : Type 0} (d : Decoder A) : Type 0 where
  pub forward : IsForward d
  pub steady : IsSteady d

-- ---- grammars

-- standard: binary-grammar: productions and their attributes
-- which bytes spell a value; a grammar knows nothing of states
abbrev pub Grammar : Type 0 → Type 1
Grammar A = A → List ℕ → Type 0

-- d answers x exactly where a front of the bytes spells x
pub record Decides {A : Type 0} (d : Decoder A) (g : Grammar A) : Type 0 where
  pub sound : (s t : State) (x : A) → d s ≡ Done x t → (text : List ℕ) × Takes s text t × g x text
  pub complete : (s t : State) (x : A) (text : List ℕ) → Takes s text t → g x text → d s ≡ Done x t

-- x by g, and then y by what x asks for
pub record Then {A B : Type 0} (g : Grammar A) (h : A → Grammar B) (y : B) (text : List ℕ) : Type 0 where
  pub value : A
  pub front : List ℕ
  pub back : List ℕ
  pub first : g value front
  pub second : h value y back
  pub whole : text ≡ front ++ back

-- standard: binary-grammar: A^n
-- each of the values, one after the other, n of them
abbrev pub Many : {A : Type 0} → Grammar A → ℕ → Grammar (List A)
Many g zero [] text = text ≡ []
Many g zero (x ∷ xs) text = ⊥
Many g (suc n) [] text = ⊥
Many g (suc n) (x ∷ xs) text = (front : List ℕ) × (back : List ℕ) × g x front × Many g n xs back × (text ≡ front ++ back)

-- ---- parts and looks ahead

-- The outcome of reading a part, with the reader behind the part. A part that ends too early is a fault, and so is one of
-- which bytes are left.
abbrev pub ended : {A : Type 0} → Refusal → Refusal → State → Outcome A → Outcome A
ended early late t (Done x u) = if length u.rest == 0 then Done x t else Fault late u.place
ended early late t (Short p h) = Fault early p
ended early late t (Fault k p) = Fault k p

-- the next n bytes, all of them, by d
abbrev pub inside : {A : Type 0} → Refusal → Refusal → ℕ → Decoder A → List ℕ → Decoder A
inside early late n d part t = ended early late t (d (record { rest = part; place = t.place - n; settings = t.settings; start = t.place - n }))

-- the same; where fewer than n bytes are left, that is an end of data
unfoldable pub within : {A : Type 0} → Refusal → Refusal → ℕ → Decoder A → Decoder A
within early late n d = bytes n >>= inside early late n d

-- f of the next byte, which stays
abbrev pub look_first : {A : Type 0} → List ℕ → State → (ℕ → Decoder A) → Outcome A
look_first [] s f = Short s.place 1
look_first (b ∷ rest) s f = f b s

-- f of the next byte, which is not taken
abbrev pub look : {A : Type 0} → (ℕ → Decoder A) → Decoder A
look f s = look_first s.rest s f

-- with a byte there it does not end here
abbrev pub TakesOne : {A : Type 0} → Decoder A → Type 0
TakesOne d = (s : State) → 0 < length s.rest → IsBeyond s.place (d s)

-- a choice that another goes on with
abbrev pub choice_or : {A : Type 0} → List (ℕ × Decoder A) → (ℕ → Decoder A) → ℕ → Decoder A
choice_or [] next b = next b
choice_or (c ∷ cs) next b = if b == c.0 then c.1 else choice_or cs next b
