-- Each way to put decoders together keeps them exact.
use Rattle.std.proofs.Common.{◌≡◌, ℕ, zero, suc, ◌+◌, ◌≤◌, List, [], ◌∷◌, ◌++◌, length, take, drop, refl, sym, ap, ◌∙◌, subst, append_assoc, arith}
use Rattle.std.proofs.Common.{cond, Bool, true, false, inl, inr}
use Rattle.std.specs.Prelude.{if◌then◌else◌, ◌==◌}
use Rattle.std.proofs.lemmas.List.{length-append, append-nil, take-append-drop, length-take, take_at, drop_at}
use Rattle.std.proofs.lemmas.Bool.{cases_lt, eqb-true}
use Rattle.wasm_types_settings.specs.Settings.{Settings}
use Rattle.wasm_types_decoding.specs.declared.Refusal.{Refusal}
use Rattle.wasm_types_decoding.specs.Decoder.{State, Outcome, Done, Short, Fault, Decoder, continue_with, ◌>>=◌, pure, refuse, first_of_rest, byte}
use Rattle.wasm_types_decoding.specs.Decoder.{bytes, repeated, Takes, Grammar, Decides, Then, Many, choice, choice_or, look_first, look}
use Rattle.wasm_types_decoding.specs.Laws.{takes_none, Takes-then, bytes-enough, bytes-short}

-- ---- what an outcome tells

abbrev done : {A : Type 0} → A → State → Outcome A
done x s = Done x s

pub value_is : {A : Type 0} (x y : A) (s t : State) → done x s ≡ done y t → x ≡ y
value_is x y s t e = cc

pub state_is : {A : Type 0} (x y : A) (s t : State) → done x s ≡ done y t → s ≡ t
state_is x y s t e = cc

pub done_then : {A B : Type 0} (o : Outcome A) (f : A → Decoder B) (y : B) (t : State) → continue_with o f ≡ Done y t → (x : A) × (u : State) × (o ≡ Done x u) × (f x u ≡ Done y t)
done_then (Done x u) f y t e = (x, u, refl, e)
done_then (Short p h) f y t e = absurd cc
done_then (Fault k p) f y t e = absurd cc

-- ---- one after the other

pub decides->>= : {A B : Type 0} (d : Decoder A) (f : A → Decoder B) (g : Grammar A) (h : A → Grammar B) → Decides d g
    → ((x : A) → Decides (f x) (h x)) → Decides (d >>= f) (Then g h)
decides->>= {A} {B} d f g h dg fh = record {
  sound = λ s t y e.
      let m = done_then (d s) f y t e in
      let p = dg.sound s m.1 m.0 m.2 in
      let q = (fh m.0).sound m.1 t y m.3 in
      (p.0 ++ q.0, Takes-then s m.1 t p.0 q.0 p.1 q.1, record { value = m.0; front = p.0; back = q.0; first = p.2; second = q.2; whole = refl });
  complete = λ s t y text p g.
      let m : State = record { rest = g.back ++ t.rest; place = s.place + length g.front; settings = s.settings; start = s.start } in
      let a : Takes s g.front m = record {
        parts = p.parts ∙ ap (λ (x : List ℕ). x ++ t.rest) g.whole ∙ append_assoc g.front g.back t.rest;
        place =
            refl;
        settings = refl;
        start = refl;
      } in
      let b : Takes m g.back t = record { parts = refl; place = omega (arith, p.place, ap length g.whole, length-append g.front g.back); settings = p.settings; start = p.start } in
      ap (λ (o : Outcome A). continue_with o f) (dg.complete s m g.value g.front a g.first) ∙ (fh g.value).complete m t y g.back b g.second;
}

-- another grammar for the same texts
pub decides-same : {A : Type 0} (d : Decoder A) (g h : Grammar A) → Decides d g → ((x : A) (text : List ℕ) → g x text → h x text)
    → ((x : A) (text : List ℕ) → h x text → g x text) → Decides d h
decides-same d g h dg to from = record {
  sound = λ s t x e. let p = dg.sound s t x e in (p.0, p.1, to x p.0 p.2);
  complete = λ s t x text p q. dg.complete s t x text p (from x text q);
}

-- ---- where a decoder ends

pub same_state : (s t : State) → s.rest ≡ t.rest → s.place ≡ t.place → s.settings ≡ t.settings → s.start ≡ t.start → s ≡ t
same_state s t p q f a =
    ap (λ (r : List ℕ). record s { rest = r }) p ∙ ap (λ (l : ℕ). record { rest = t.rest; place = l; settings = s.settings; start = s.start }) q
    ∙ ap (λ (z : Settings). record { rest = t.rest; place = t.place; settings = z; start = s.start }) f
    ∙ ap (λ (l : ℕ). record { rest = t.rest; place = t.place; settings = t.settings; start = l }) a

pub decides-pure : {A : Type 0} (x : A) (g : Grammar A) → g x [] → ((y : A) (text : List ℕ) → g y text → (y ≡ x) × (text ≡ [])) → Decides (pure x) g
decides-pure {A} x g here only = record {
  sound = λ s t y e. ([], subst (λ (u : State). Takes s [] u) (state_is x y s t e) (takes_none s), subst (λ (z : A). g z []) (value_is x y s t e) here);
  complete = λ s t y text p q.
      let o = only y text q in
      let r : s.rest ≡ t.rest = p.parts ∙ ap (λ (z : List ℕ). z ++ t.rest) o.1 in
      let l : s.place ≡ t.place = omega (arith, p.place, ap length o.1) in
      let e : s ≡ t = same_state s t r l (sym p.settings) (sym p.start) in
      rw (e, o.0) refl;
}

pub decides-refuse : {A : Type 0} (k : Refusal) (back : ℕ) (g : Grammar A) → ((y : A) (text : List ℕ) → g y text → ⊥) → Decides (refuse k back) g
decides-refuse k back g none = record {
  sound = λ s t y e. absurd cc;
  complete = λ s t y text p q. absurd (none y text q);
}

pub decides-if : {A : Type 0} (b : Bool) (d e : Decoder A) (g : Grammar A) → (b ≡ true → Decides d g) → (b ≡ false → Decides e g) → Decides (if b then d else e) g
decides-if true d e g = λ yes no. yes refl
decides-if false d e g = λ yes no. no refl

-- f of what was read
abbrev pub Mapped : {A B : Type 0} → (A → B) → Grammar A → Grammar B
Mapped {A} f g y text = (x : A) × g x text × (y ≡ f x)

module _ {A B : Type 0} (d : Decoder A) (f : A → B) (g : Grammar A) where
  mapped_to : (y : B) (text : List ℕ) → Then g (λ x z end. (z ≡ f x) × (end ≡ [])) y text → Mapped f g y text
  mapped_to y text h = (h.value, subst (λ (z : List ℕ). g h.value z) (sym (h.whole ∙ ap (λ (z : List ℕ). h.front ++ z) h.second.1 ∙ append-nil h.front)) h.first, h.second.0)

  mapped_from : (y : B) (text : List ℕ) → Mapped f g y text → Then g (λ x z end. (z ≡ f x) × (end ≡ [])) y text
  mapped_from y text h = record { value = h.0; front = text; back = []; first = h.1; second = (h.2, refl); whole = sym (append-nil text) }

  pub decides-map : Decides d g → Decides (d >>= λ x. pure (f x)) (Mapped f g)
  decides-map dg = decides-same _ _ (Mapped f g)
      (decides->>= d (λ x. pure (f x)) g (λ x z end. (z ≡ f x) × (end ≡ [])) dg (λ x. decides-pure (f x) (λ z end. (z ≡ f x) × (end ≡ [])) (refl, refl) (λ y text h. h)))
      mapped_to mapped_from

-- ---- one byte, and what follows it

byte_done : (rest : List ℕ) (s : State) (b : ℕ) (t : State) → s.rest ≡ rest → first_of_rest rest s ≡ Done b t → Takes s (b ∷ []) t
byte_done [] s b t q e = absurd cc
byte_done (c ∷ rest) s b t q e =
    let behind : State = record { rest = rest; place = s.place + 1; settings = s.settings; start = s.start } in
    let x : c ≡ b = value_is c b behind t e in
    let y : behind ≡ t = state_is c b behind t e in
    subst (λ (z : State). Takes s (b ∷ []) z) y (record { parts = q ∙ ap (λ (h : ℕ). h ∷ rest) x; place = refl; settings = refl; start = refl })

-- A grammar that begins with a byte: what follows the byte is decided apart, for each byte.
pub decides-byte : {A : Type 0} (f : ℕ → Decoder A) (g : Grammar A) → ((x : A) → g x [] → ⊥) → ((b : ℕ) → Decides (f b) (λ x text. g x (b ∷ text))) → Decides (byte >>= f) g
decides-byte {A} f g some fg = record {
  sound = λ s t y e.
      let m = done_then (byte s) f y t e in
      let p = byte_done s.rest s m.0 m.1 refl m.2 in
      let q = (fg m.0).sound m.1 t y m.3 in
      (m.0 ∷ q.0, Takes-then s m.1 t (m.0 ∷ []) q.0 p q.1, q.2);
  complete = λ s t y text p q. byte_complete s t y text p q;
} where
  byte_complete : (s t : State) (y : A) (text : List ℕ) → Takes s text t → g y text → (byte >>= f) s ≡ Done y t
  byte_complete s t y [] p q = absurd (some y q)
  byte_complete s t y (b ∷ text) p q =
      let m : State = record { rest = text ++ t.rest; place = s.place + 1; settings = s.settings; start = s.start } in
      let e : byte s ≡ Done b m = rw p.parts refl in
      let one : Takes s (b ∷ []) m = record { parts = p.parts; place = refl; settings = refl; start = refl } in
      let left : Takes m text t = record { parts = refl; place = omega (arith, p.place); settings = p.settings; start = p.start } in
      ap (λ (o : Outcome ℕ). continue_with o f) e ∙ (fg b).complete m t y text left q

-- ---- n bytes

-- n bytes, which are the value
abbrev pub Exactly : ℕ → Grammar (List ℕ)
Exactly n xs text = (length xs ≡ n) × (text ≡ xs)

pub decides-bytes : (n : ℕ) → Decides (bytes n) (Exactly n)
decides-bytes n = record {
  sound = λ s t x e. elim (cases_lt (length s.rest) n) [
    | inl short ↦ absurd (let no = bytes-short n s short in cc)
    | inr enough ↦
        let is : done (take n s.rest) (record { rest = drop n s.rest; place = s.place + n; settings = s.settings; start = s.start }) ≡ Done x t =
        sym (bytes-enough n s enough) ∙ e in
        let v : take n s.rest ≡ x = value_is _ x _ t is in
        let u : record { rest = drop n s.rest; place = s.place + n; settings = s.settings; start = s.start } ≡ t = state_is _ x _ t is in
        let k : length (take n s.rest) ≡ n = omega (arith, length-take n s.rest) in (
          x,
          subst (λ (z : List ℕ). Takes s z t) v (subst (λ (z : State). Takes s (take n s.rest) z) u
              (record { parts = sym (take-append-drop n s.rest); place = omega arith; settings = refl; start = refl })),
          (subst (λ (z : List ℕ). length z ≡ n) v k, refl),
        )
  ];
  complete = λ s t x text p q.
      let r : s.rest ≡ x ++ t.rest = rw q.1 at p.parts in
      let enough : n ≤ length s.rest = omega (arith, q.0, ap length r, length-append x t.rest) in
      let front : take n s.rest ≡ x = rw r (take_at x t.rest n q.0) in
      let back : drop n s.rest ≡ t.rest = rw r (drop_at x t.rest n q.0) in
      let l : s.place + n ≡ t.place = omega (arith, p.place, q.0, ap length q.1) in
      bytes-enough n s enough ∙ rw (front, back, l, p.settings, p.start) refl;
}

-- ---- values in a row

module _ {A : Type 0} (d : Decoder A) (g : Grammar A) (dg : Decides d g) where
  many_none : (y : List A) (text : List ℕ) → Many g zero y text → (y ≡ []) × (text ≡ [])
  many_none [] text h = (refl, h)
  many_none (x ∷ xs) text h = absurd h

  -- the rest of the values, once the first is x
  abbrev behind : ℕ → A → Grammar (List A)
  behind n x = Mapped (λ (xs : List A). x ∷ xs) (Many g n)

  many_to : (n : ℕ) (ys : List A) (text : List ℕ) → Then g (behind n) ys text → Many g (suc n) ys text
  many_to n ys text h = subst (λ (z : List A). Many g (suc n) z text) (sym h.second.2) (h.front, h.back, h.first, h.second.1, h.whole)

  many_from : (n : ℕ) (ys : List A) (text : List ℕ) → Many g (suc n) ys text → Then g (behind n) ys text
  many_from n [] text h = absurd h
  many_from n (x ∷ xs) text h = record { value = x; front = h.0; back = h.1; first = h.2; second = (xs, h.3, refl); whole = h.4 }

  pub decides-repeated : (n : ℕ) → Decides (repeated n d) (Many g n)
  unfolding repeated
  decides-repeated zero = decides-pure [] (Many g zero) refl many_none
  decides-repeated (suc n) =
      decides-same (repeated (suc n) d) (Then g (behind n)) (Many g (suc n))
      (decides->>= d (λ x. repeated n d >>= λ xs. pure (x ∷ xs)) g (behind n) dg (λ x. decides-map (repeated n d) (λ (xs : List A). x ∷ xs) (Many g n) (decides-repeated n)))
      (many_to n) (many_from n)

-- ---- a choice by the first byte

-- each alternative decides what may follow its byte
abbrev pub AllDecide : {A : Type 0} → Grammar A → List (ℕ × Decoder A) → Type 0
AllDecide g [] = Unit {0}
AllDecide g (c ∷ cs) = Decides c.1 (λ x text. g x (c.0 ∷ text)) × AllDecide g cs

abbrev pub has_tag : {A : Type 0} → List (ℕ × Decoder A) → ℕ → Bool
has_tag [] b = false
has_tag (c ∷ cs) b = if b == c.0 then true else has_tag cs b

module _ {A : Type 0} (k : Refusal) (g : Grammar A) where
  one_of : (b : ℕ) (cs : List (ℕ × Decoder A)) → AllDecide g cs → ((x : A) (text : List ℕ) → g x (b ∷ text) → has_tag cs b ≡ true)
      → Decides (choice cs (refuse k 1) b) (λ x text. g x (b ∷ text))
  one_of b [] all has = decides-refuse k 1 (λ x text. g x (b ∷ text)) (λ x text h. let no : false ≡ true = has x text h in absurd cc)
  one_of b (c ∷ cs) all has = decides-if (b == c.0) c.1 (choice cs (refuse k 1) b) (λ x text. g x (b ∷ text))
      (λ t. let e : b ≡ c.0 = eqb-true _ _ t in rw e all.0)
      (λ f. one_of b cs all.1 (λ x text h. let e = has x text h in rw f at e))

  pub decides-choice : (cs : List (ℕ × Decoder A)) → ((x : A) → g x [] → ⊥) → AllDecide g cs
      → ((b : ℕ) (x : A) (text : List ℕ) → g x (b ∷ text) → has_tag cs b ≡ true) → Decides (byte >>= choice cs (refuse k 1)) g
  decides-choice cs none all has = decides-byte (choice cs (refuse k 1)) g none (λ b. one_of b cs all (has b))

-- ---- a choice by the first byte, apart in both directions: sound by the table, complete by the value

abbrev pub Sound : {A : Type 0} → Decoder A → Grammar A → Type 0
Sound {A} d g = (s t : State) (x : A) → d s ≡ Done x t → (text : List ℕ) × Takes s text t × g x text

-- d reads x from these bytes, whatever follows them
abbrev pub Reads : {A : Type 0} → Decoder A → A → List ℕ → Type 0
Reads d x text = (s t : State) → Takes s text t → d s ≡ Done x t

abbrev pub AllSound : {A : Type 0} → Grammar A → List (ℕ × Decoder A) → Type 0
AllSound g [] = Unit {0}
AllSound g (c ∷ cs) = Sound c.1 (λ x text. g x (c.0 ∷ text)) × AllSound g cs

-- the first byte, and what follows it
abbrev pub ReadsTagged : {A : Type 0} → (ℕ → Decoder A) → A → List ℕ → Type 0
ReadsTagged f x [] = ⊥
ReadsTagged f x (b ∷ text) = Reads (f b) x text

module _ {A : Type 0} (k : Refusal) (g : Grammar A) where
  sound_of : (b : ℕ) (cs : List (ℕ × Decoder A)) → AllSound g cs → Sound (choice cs (refuse k 1) b) (λ x text. g x (b ∷ text))
  sound_of b [] all s t x e = absurd cc
  sound_of b (c ∷ cs) all s t x e = go (b == c.0) refl (sound_of b cs all.1 s t x) e
    where
      go : (same : Bool) → (b == c.0) ≡ same → (choice cs (refuse k 1) b s ≡ Done x t → (text : List ℕ) × Takes s text t × g x (b ∷ text))
          → cond same c.1 (choice cs (refuse k 1) b) s ≡ Done x t → (text : List ℕ) × Takes s text t × g x (b ∷ text)
      go true q rest e' = let z : b ≡ c.0 = eqb-true _ _ q in let p = all.0 s t x e' in (p.0, p.1, rw z p.2)
      go false q rest e' = rest e'

reads_first : {A : Type 0} (f : ℕ → Decoder A) (s t : State) (x : A) (text : List ℕ) → Takes s text t → ReadsTagged f x text → (byte >>= f) s ≡ Done x t
reads_first f s t x [] p h = absurd h
reads_first f s t x (b ∷ text) p h =
    let m : State = record { rest = text ++ t.rest; place = s.place + 1; settings = s.settings; start = s.start } in
    let e : byte s ≡ Done b m = rw p.parts refl in
    let one : Takes s (b ∷ []) m = record { parts = p.parts; place = refl; settings = refl; start = refl } in
    let left : Takes m text t = record { parts = refl; place = omega (arith, p.place); settings = p.settings; start = p.start } in
    ap (λ (o : Outcome ℕ). continue_with o f) e ∙ h m t left

pub decides-table : {A : Type 0} (k : Refusal) (g : Grammar A) (cs : List (ℕ × Decoder A)) → AllSound g cs
    → ((x : A) (text : List ℕ) → g x text → ReadsTagged (choice cs (refuse k 1)) x text) → Decides (byte >>= choice cs (refuse k 1)) g
decides-table k g cs sound complete = record {
  sound = λ s t x e.
      let m = done_then (byte s) (choice cs (refuse k 1)) x t e in
      let p = byte_done s.rest s m.0 m.1 refl m.2 in
      let q = sound_of k g m.0 cs sound m.1 t x m.3 in
      (m.0 ∷ q.0, Takes-then s m.1 t (m.0 ∷ []) q.0 p q.1, q.2);
  complete = λ s t x text p h. reads_first (choice cs (refuse k 1)) s t x text p (complete x text h);
}

-- an alternative with nothing behind its byte
pub sound-pure : {A : Type 0} (x : A) (g : Grammar A) → g x [] → Sound (pure x) g
sound-pure {A} x g h s t y e = ([], subst (λ (u : State). Takes s [] u) (state_is x y s t e) (takes_none s), subst (λ (z : A). g z []) (value_is x y s t e) h)

pub reads-pure : {A : Type 0} (x : A) → Reads (pure x) x []
reads-pure x s t p = let e : s ≡ t = same_state s t p.parts (omega (arith, p.place)) (sym p.settings) (sym p.start) in rw e refl

-- an alternative with a part behind its byte
pub sound-map : {A B : Type 0} (d : Decoder A) (f : A → B) (g : Grammar A) (h : Grammar B) → Decides d g
    → ((x : A) (text : List ℕ) → g x text → h (f x) text) → Sound (d >>= λ x. pure (f x)) h
sound-map {A} {B} d f g h dg to s t y e =
    let q = (decides-map d f g dg).sound s t y e in
    (q.0, q.1, subst (λ (z : B). h z q.0) (sym q.2.2) (to q.2.0 q.0 q.2.1))

pub reads-map : {A B : Type 0} (d : Decoder A) (f : A → B) (g : Grammar A) → Decides d g → (x : A) (text : List ℕ) → g x text → Reads (d >>= λ x. pure (f x)) (f x) text
reads-map d f g dg x text h s t p = (decides-map d f g dg).complete s t (f x) text p (x, h, refl)

module _ {A : Type 0} (g : Grammar A) where
  pub sound-choice_or : (b : ℕ) (cs : List (ℕ × Decoder A)) (next : ℕ → Decoder A) → AllSound g cs → Sound (next b) (λ x text. g x (b ∷ text))
      → Sound (choice_or cs next b) (λ x text. g x (b ∷ text))
  sound-choice_or b [] next all last s t x e = last s t x e
  sound-choice_or b (c ∷ cs) next all last s t x e = go (b == c.0) refl (sound-choice_or b cs next all.1 last s t x) e
    where
      go : (same : Bool) → (b == c.0) ≡ same → (choice_or cs next b s ≡ Done x t → (text : List ℕ) × Takes s text t × g x (b ∷ text))
          → cond same c.1 (choice_or cs next b) s ≡ Done x t → (text : List ℕ) × Takes s text t × g x (b ∷ text)
      go true q rest e' = let z : b ≡ c.0 = eqb-true _ _ q in let p = all.0 s t x e' in (p.0, p.1, rw z p.2)
      go false q rest e' = rest e'

pub decides-first : {A : Type 0} (f : ℕ → Decoder A) (g : Grammar A) → ((b : ℕ) → Sound (f b) (λ x text. g x (b ∷ text)))
    → ((x : A) (text : List ℕ) → g x text → ReadsTagged f x text) → Decides (byte >>= f) g
decides-first f g sound complete = record {
  sound = λ s t x e.
      let m = done_then (byte s) f x t e in
      let p = byte_done s.rest s m.0 m.1 refl m.2 in
      let q = sound m.0 m.1 t x m.3 in
      (m.0 ∷ q.0, Takes-then s m.1 t (m.0 ∷ []) q.0 p q.1, q.2);
  complete = λ s t x text p h. reads_first f s t x text p (complete x text h);
}

-- ---- a look ahead

-- a choice by the next byte, which stays, apart in both directions: sound by the byte, complete by the value
module _ {A : Type 0} (f : ℕ → Decoder A) (g : Grammar A) (some : (x : A) → g x [] → ⊥) (sound : (b : ℕ) → Sound (f b) g)
    (complete : (b : ℕ) (x : A) (text : List ℕ) → g x (b ∷ text) → Reads (f b) x (b ∷ text)) where
  ahead_sound : (rest : List ℕ) (s t : State) (x : A) → look_first rest s f ≡ Done x t → (text : List ℕ) × Takes s text t × g x text
  ahead_sound [] s t x e = absurd cc
  ahead_sound (b ∷ rest) s t x e = sound b s t x e

  ahead_complete : (s t : State) (x : A) (text : List ℕ) → Takes s text t → g x text → look f s ≡ Done x t
  ahead_complete s t x [] p h = absurd (some x h)
  ahead_complete s t x (b ∷ text) p h = ap (λ (rest : List ℕ). look_first rest s f) p.parts ∙ complete b x text h s t p

  pub decides-look_apart : Decides (look f) g
  decides-look_apart = record { sound = λ s t x e. ahead_sound s.rest s t x e; complete = ahead_complete }

-- g, of a text that begins with this byte
abbrev pub Begins : {A : Type 0} → ℕ → Grammar A → Grammar A
Begins b g x [] = ⊥
Begins b g x (c ∷ text) = (c ≡ b) × g x (c ∷ text)

module _ {A : Type 0} (f : ℕ → Decoder A) (g : Grammar A) (some : (x : A) → g x [] → ⊥) (decides : (b : ℕ) → Decides (f b) (Begins b g)) where
  begun : (b : ℕ) (x : A) (text : List ℕ) → Begins b g x text → g x text
  begun b x [] h = absurd h
  begun b x (c ∷ text) h = h.1

  pub decides-look : Decides (look f) g
  decides-look = decides-look_apart f g some
      (λ b s t x e. let p = (decides b).sound s t x e in (p.0, p.1, begun b x p.0 p.2))
      (λ b x text h s t p. (decides b).complete s t x (b ∷ text) p (refl, h))
