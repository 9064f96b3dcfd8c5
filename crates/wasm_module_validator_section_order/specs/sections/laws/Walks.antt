-- What a walk over the items of a section tells, where each is added or refused: of the items that bytes give, whatever values the code
-- holds of them.
use Rattle.std.proofs.Common.{◌≡◌, ◌⊎◌, ℕ, zero, suc, ◌+◌, ◌<◌, ◌≤◌, List, [], ◌∷◌, ◌++◌, length, sym, ap, ◌∙◌, subst, arith, inl}
use Rattle.std.proofs.Common.{inr}
use Rattle.wasm_types.specs.decoding.Decoder.{State, Outcome, Done, Decoder, Grammar, Decides, Many}
use Rattle.wasm_types.specs.decoding.ExactLaws.{value_is, state_is}
use Rattle.wasm_types.specs.decoding.declared.error.ErrorKind.{ErrorKind}
use Rattle.wasm_types.specs.decoding.declared.error.ErrorKind.TheVariants.{EndOfData, MissingFeature, OutOfMemory, Failed, Other}
use Rattle.wasm_types.specs.decoding.ErrorValue.{ErrorValue}
use Rattle.wasm_types.specs.decoding.Denials.{Denies}
use Rattle.wasm_types.specs.reader.Reading.{Fails, IsNotMemory}
use Rattle.wasm_sections_items.specs.elements.PassingLaws.{not_refused}
use Rattle.wasm_module_validator_rules_in_order.specs.rules.UniqueLaws.{Unique, decided, lifted, many, on_whole}
use Rattle.wasm_module_validator_section_order.specs.items.Adding.{Spelled, AddsEach, AreAdded, IsRead, IsByteLeft, IsItemRefused, StopsAdding}
use Rattle.wasm_module_validator_section_order.specs.sections.laws.Counts.{past, takes_past}

-- ---- denials

denies_but : (k : ErrorKind) (P : Type 0) → (IsNotMemory k → P → ⊥) → Denies k P
denies_but (EndOfData h) P f = f tt
denies_but (MissingFeature w) P f = f tt
denies_but OutOfMemory P f = tt
denies_but Failed P f = f tt
denies_but Other P f = f tt

denied : (k : ErrorKind) (P : Type 0) → IsNotMemory k → Denies k P → P → ⊥
denied (EndOfData h) P m d = d
denied (MissingFeature w) P m d = d
denied OutOfMemory P m d = absurd m
denied Failed P m d = d
denied Other P m d = d

-- ---- items that lead to one place

module _ {M A : Type 0} (adds : M → A → M → Type 0) (once : (m : M) (a : A) (j k : M) → adds m a j → adds m a k → j ≡ k) where
  pub each_once : (m : M) (xs : List A) (j k : M) → AddsEach adds m xs j → AddsEach adds m xs k → j ≡ k
  each_once m [] j k g h = sym g ∙ h
  each_once m (x ∷ xs) j k g h =
      let e = once m x g.0 h.0 g.1 h.1 in
      each_once h.0 xs j k (subst (λ (l : M). AddsEach adds l xs j) e g.2) h.2

-- ---- items by the values that are read of them, which `item` makes of each

module _ {T V A : Type 0} (view : T → V) (of : T → A) (item : V → A) (same : (x : T) → of x ≡ item (view x))
    (d : Decoder V) (g : Grammar V) (exact : Decides d g) where
  -- the bytes give a value of this item
  abbrev pub Given : Grammar A
  Given = Spelled (λ (v : V). v) item g

  given_once : Unique Given
  given_once = lifted Given g (λ a v. item v ≡ a) (decided d g exact) (λ a text h. (h.0, h.2, h.1)) (λ a b v h k. sym h ∙ k)

  -- what the code has of an item is one of its values
  pub many_given : (n : ℕ) (xs : List A) (text : List ℕ) → Many (Spelled view of g) n xs text → Many Given n xs text
  many_given zero [] text m = m
  many_given zero (x ∷ xs) text m = absurd m
  many_given (suc n) [] text m = absurd m
  many_given (suc n) (x ∷ xs) text m = let t = m.2.0 in (m.0, m.1, (view t, sym (same t) ∙ m.2.1, m.2.2), many_given n xs m.1 m.3, m.4)

  pub items_once : (n : ℕ) (xs ys : List A) (text : List ℕ) → Many Given n xs text → Many Given n ys text → xs ≡ ys
  items_once n xs ys text h k = on_whole (Many Given n) (many Given given_once n) xs ys text h k

  abbrev done : V → State → Outcome V
  done v s = Done v s

  -- an item that was read here is the first that the bytes give
  first_given : (s t : State) (x : T) (a : A) (front back : List ℕ) → d s ≡ Done (view x) t → s.rest ≡ front ++ back → Given a front
      → (of x ≡ a) × (t.rest ≡ back)
  first_given s t x a front back e parts h =
      let u = past s front back in
      let again : d s ≡ Done h.0 u = exact.complete s u h.0 front (takes_past s front back parts) h.2 in
      let both : done (view x) t ≡ done h.0 u = sym e ∙ again in
      let v = value_is (view x) h.0 t u both in
      (same x ∙ (ap item v ∙ h.1), ap (λ (w : State). w.rest) (state_is (view x) h.0 t u both))

  module _ {M : Type 0} (adds : M → A → M → Type 0) (once : (m : M) (a : A) (j k : M) → adds m a j → adds m a k → j ≡ k) where
    -- what is left of items that are given, from where some were read and added
    record Left (n : ℕ) (front : List A) (here : State) (now t : M) : Type 0 where
      count : ℕ
      others : List A
      counted : n ≡ length front + count
      given : Many Given count others here.rest
      each : AddsEach adds now others t

    left : (n : ℕ) (front ts : List A) (s here : State) (m now t : M) → length front ≤ n → AddsEach (IsRead view of d) s front here
        → AddsEach adds m front now
        → Many Given n ts s.rest → AddsEach adds m ts t → Left n front here now t
    left n [] ts s here m now t l read added given each = record {
      count = n;
      others = ts;
      counted = omega arith;
      given = subst (λ (u : State). Many Given n ts u.rest) read given;
      each = subst (λ (k : M). AddsEach adds k ts t) added each;
    }
    left zero (a ∷ front) ts s here m now t l read added given each = absurd (omega (arith, l))
    left (suc n) (a ∷ front) [] s here m now t l read added given each = absurd given
    left (suc n) (a ∷ front) (b ∷ ts) s here m now t l (u, (x, is, done), read) (j, one, added) h (k, other, each) =
        let f = first_given s u x b h.0 h.1 done h.4 h.2 in
        let e : a ≡ b = sym is ∙ f.0 in
        let moved : j ≡ k = once m b j k (subst (λ (c : A). adds m c j) e one) other in
        let given = subst (Many Given n ts) (sym f.1) h.3 in
        let leads = subst (λ (o : M). AddsEach adds o ts t) (sym moved) each in
        let rest = left n front ts u here j now t (omega (arith, l)) read added given leads in
        record { count = rest.count; others = rest.others; counted = omega (arith, rest.counted); given = rest.given; each = rest.each }

    -- the next of them, if there is one
    next_read : (k : ℕ) (ts : List A) (here : State) → 0 < k → Many Given k ts here.rest → (v : V) × (u : State) × (d here ≡ Done v u)
    next_read zero ts here some h = absurd (omega (arith, some))
    next_read (suc k) [] here some h = absurd h
    next_read (suc k) (a ∷ ts) here some h =
        let u = past here h.0 h.1 in
        (h.2.0, u, exact.complete here u h.2.0 h.0 (takes_past here h.0 h.1 h.4) h.2.2)

    next_added : (k : ℕ) (ts : List A) (here u : State) (x : T) (now t : M) → 0 < k → d here ≡ Done (view x) u → Many Given k ts here.rest
        → AddsEach adds now ts t
        → (j : M) × adds now (of x) j
    next_added zero ts here u x now t some e h each = absurd (omega (arith, some))
    next_added (suc k) [] here u x now t some e h each = absurd h
    next_added (suc k) (a ∷ ts) here u x now t some e h each =
        (each.0, subst (λ (c : A). adds now c each.0) (sym (first_given here u x a h.0 h.1 e h.4 h.2).0) each.1)

    none_behind : (k : ℕ) (ts : List A) (text : List ℕ) → k ≡ 0 → 0 < length text → Many Given k ts text → ⊥
    none_behind zero [] text none some h = omega (arith, ap length h, some)
    none_behind zero (a ∷ ts) text none some h = h
    none_behind (suc k) ts text none some h = omega (arith, none)

    module _ (refuses : M → A → ℕ → ErrorValue → Type 0) (n : ℕ) (s : State) (m : M) (e : ErrorValue)
        (refused : (k : M) (a : A) (place : ℕ) → refuses k a place e → Denies e.kind ((j : M) × adds k a j)) where
      abbrev Added : M → Type 0
      Added t = AreAdded Given adds n s.rest m t

      -- why a walk stops behind these items, that were read up to here and lead to what is read now
      abbrev Why : List A → State → M → Type 0
      Why items here now = ((length items ≡ n) × IsByteLeft here e)
          ⊎ ((length items < n) × (Fails e (d here) ⊎ IsItemRefused view of d refuses here now e))

      ends : (items : List A) (here : State) (now t : M) → AddsEach (IsRead view of d) s items here → AddsEach adds m items now
          → Why items here now → IsNotMemory e.kind → Added t → ⊥
      ends items here now t read each (inl (all, byte)) not a =
          let l = left n items a.items s here m now t (omega (arith, all)) read each a.spelled a.each in
          none_behind l.count l.others here.rest (omega (arith, l.counted, all)) byte.0 l.given
      ends items here now t read each (inr (some, inl fails)) not a =
          let l = left n items a.items s here m now t (omega (arith, some)) read each a.spelled a.each in
          let next = next_read l.count l.others here (omega (arith, l.counted, some)) l.given in
          not_refused e.kind e.offset next.0 next.1 (d here) next.2 fails not
      ends items here now t read each (inr (some, inr (x, u, is, why))) not a =
          let l = left n items a.items s here m now t (omega (arith, some)) read each a.spelled a.each in
          let next = next_added l.count l.others here u x now t (omega (arith, l.counted, some)) is l.given l.each in
          denied e.kind ((j : M) × adds now (of x) j) not (refused now (of x) here.place why) next

      -- a walk that was refused, for another cause than memory, denies that the items which the bytes give are added
      pub stops_denies : StopsAdding view of d adds refuses n s m e → Denies e.kind ((t : M) × Added t)
      stops_denies h = denies_but e.kind ((t : M) × Added t) (λ not a. ends h.items h.here h.now a.0 h.read h.each h.stops not a.1)
