-- Words, texts and sized parts are read lawfully, and exactly.
use Rattle.std.proofs.Common.{◌≡◌, ℕ, ◌+◌, ◌-◌, ◌<◌, ◌≤◌, List, [], ◌∷◌, ◌++◌, length, refl, sym, ap, ◌∙◌, subst, append-nil, arith, cond, ltb, Bool, true, false}
use Rattle.std.specs.Prelude.{if◌then◌else◌, nat_lt, ◌==◌}
use Rattle.std.specs.Int.{w16, w32, w64, from_le_bytes}
use Rattle.std.specs.Str.{IsUtf8, is_utf8}
use Rattle.std.proofs.lemmas.Str.{IsUtf8-from_is_utf8, is_utf8-from_IsUtf8}
use Rattle.std.proofs.lemmas.Bool.{ltb-true, ltb-false, eqb-true}
use Rattle.wasm_types_decoding.specs.declared.Refusal.{Refusal}
use Rattle.wasm_types_decoding.specs.declared.Refusal.TheVariants.{Other}
use Rattle.wasm_types_decoding.specs.Decoder.{State, Outcome, Done, Short, Fault, Decoder, Grammar, pure, refuse, bytes, Takes, IsLawful, Decides, Then, ended, inside, within}
use Rattle.wasm_types_decoding.specs.Laws.{lawful->>=, lawful-pure, lawful-refuse, lawful-if, lawful-bytes, lawful-within}
use Rattle.wasm_types_decoding.specs.ExactLaws.{value_is, state_is, done_then, decides->>=, decides-same, decides-pure, decides-refuse, decides-if}
use Rattle.wasm_types_decoding.specs.ExactLaws.{decides-map, decides-bytes, Exactly, Mapped}
use Rattle.wasm_types_decoding.specs.Leb.{IsUnsigned, u32}
use Rattle.wasm_types_decoding.specs.LebLaws.{lawful-unsigned, decides-u32}
use Rattle.wasm_types_decoding.specs.Text.{little_endian, IsWord, word, if_utf8, text_of, skipped, counted_within, IsAnyName, IsName, any_name, name}
use Rattle.wasm_types_decoding.specs.Text.{skipped_name, Within, IsSized, sized}

-- ---- words

module _ (n : ℕ) where
  pub lawful-word : IsLawful (word n)
  unfolding word
  lawful-word = lawful->>= (bytes n) (λ text. pure (little_endian text)) (lawful-bytes n) (λ text. lawful-pure (little_endian text))

  word_to : (v : ℕ) (text : List ℕ) → Mapped little_endian (Exactly n) v text → IsWord n v text
  word_to v text h = record { count = ap length h.1.1 ∙ h.1.0; value = h.2 ∙ ap little_endian (sym h.1.1) }

  word_from : (v : ℕ) (text : List ℕ) → IsWord n v text → Mapped little_endian (Exactly n) v text
  word_from v text h = (text, (h.count, refl), h.value)

  pub decides-word : Decides (word n) (IsWord n)
  unfolding word
  decides-word = decides-same _ (Mapped little_endian (Exactly n)) (IsWord n) (decides-map (bytes n) little_endian (Exactly n) (decides-bytes n)) word_to word_from

-- the words that std's types read: of four bytes, and of eight
pub little_endian_2 : (text : List ℕ) → length text ≡ 2 → little_endian text ≡ from_le_bytes w16 text
little_endian_2 (a ∷ b ∷ []) e = omega arith
little_endian_2 _ e = absurd (omega arith)

pub little_endian_4 : (text : List ℕ) → length text ≡ 4 → little_endian text ≡ from_le_bytes w32 text
little_endian_4 (a ∷ b ∷ c ∷ d ∷ []) e = omega arith
little_endian_4 _ e = absurd (omega arith)

pub little_endian_8 : (text : List ℕ) → length text ≡ 8 → little_endian text ≡ from_le_bytes w64 text
little_endian_8 (a ∷ b ∷ c ∷ d ∷ e ∷ f ∷ g ∷ h ∷ []) q = omega arith
little_endian_8 _ e = absurd (omega arith)

-- ---- the bytes of a name

lawful-if_utf8 : (content : List ℕ) → IsLawful (if_utf8 content)
lawful-if_utf8 content = lawful-if (is_utf8 content) (pure content) (refuse Other 1) (lawful-pure content) (lawful-refuse Other 1)

-- nothing more, of bytes that are UTF-8
abbrev Utf8 : List ℕ → Grammar (List ℕ)
Utf8 content value text = (value ≡ content) × (text ≡ []) × IsUtf8 content

decides-if_utf8 : (content : List ℕ) → Decides (if_utf8 content) (Utf8 content)
decides-if_utf8 content = decides-if (is_utf8 content) (pure content) (refuse Other 1) (Utf8 content)
    (λ t. decides-pure content (Utf8 content) (refl, refl, IsUtf8-from_is_utf8 content t) (λ value text h. (h.0, h.1)))
    (λ f. decides-refuse Other 1 (Utf8 content) (λ value text h. let t = is_utf8-from_IsUtf8 content h.2 in cc))

module _ (n : ℕ) where
  pub lawful-text_of : IsLawful (text_of n)
  unfolding text_of
  lawful-text_of = lawful->>= (bytes n) if_utf8 (lawful-bytes n) lawful-if_utf8

  -- n bytes of UTF-8, which are the value
  abbrev pub IsTextOf : Grammar (List ℕ)
  IsTextOf content text = (length content ≡ n) × (text ≡ content) × IsUtf8 content

  text_to : (content text : List ℕ) → Then (Exactly n) Utf8 content text → IsTextOf content text
  text_to content text h =
      let same : content ≡ h.value = h.second.0 in
      let whole : text ≡ h.value = h.whole ∙ ap (λ (z : List ℕ). h.front ++ z) h.second.1 ∙ append-nil h.front ∙ h.first.1 in
      (ap length same ∙ h.first.0, whole ∙ sym same, subst IsUtf8 (sym same) h.second.2)

  text_from : (content text : List ℕ) → IsTextOf content text → Then (Exactly n) Utf8 content text
  text_from content text h = record { value = content; front = text; back = []; first = (h.0, h.1); second = (refl, refl, h.2); whole = sym (append-nil text) }

  pub decides-text_of : Decides (text_of n) IsTextOf
  unfolding text_of
  decides-text_of = decides-same _ (Then (Exactly n) Utf8) IsTextOf (decides->>= (bytes n) if_utf8 (Exactly n) Utf8 (decides-bytes n) decides-if_utf8) text_to text_from

  pub lawful-skipped : IsLawful (skipped n)
  unfolding skipped
  lawful-skipped = lawful->>= (bytes n) (λ text. pure tt) (lawful-bytes n) (λ text. lawful-pure tt)

-- ---- a count with a limit, and what it counts

module _ {A : Type 0} (limit : ℕ) (f : ℕ → Decoder A) where
  abbrev limited : ℕ → Decoder A
  limited n = if nat_lt limit n then refuse Other 1 else f n

  pub lawful-counted_within : ((n : ℕ) → IsLawful (f n)) → IsLawful (counted_within limit f)
  unfolding counted_within
  lawful-counted_within l = lawful->>= u32 limited (lawful-unsigned 4 4) (λ n. lawful-if (nat_lt limit n) (refuse Other 1) (f n) (lawful-refuse Other 1) (l n))

  module _ (g : ℕ → Grammar A) (decides : (n : ℕ) → Decides (f n) (g n)) where
    abbrev pub Limited : ℕ → Grammar A
    Limited n x text = (n ≤ limit) × g n x text

    decides-limited : (n : ℕ) → Decides (limited n) (Limited n)
    decides-limited n = decides-if (ltb limit n) (refuse Other 1) (f n) (Limited n)
        (λ t. let many : limit < n = ltb-true _ _ t in decides-refuse Other 1 (Limited n) (λ x text h. omega (arith, h.0)))
        (λ e. let few : n ≤ limit = ltb-false _ _ e in decides-same (f n) (g n) (Limited n) (decides n) (λ x text h. (few, h)) (λ x text h. h.1))

    pub decides-counted_within : Decides (counted_within limit f) (Then (IsUnsigned 32) Limited)
    unfolding counted_within
    decides-counted_within = decides->>= u32 limited (IsUnsigned 32) Limited decides-u32 decides-limited

-- ---- names

pub lawful-any_name : IsLawful any_name
unfolding any_name
lawful-any_name = lawful->>= u32 text_of (lawful-unsigned 4 4) lawful-text_of

pub lawful-name : (limit : ℕ) → IsLawful (name limit)
lawful-name limit = lawful-counted_within limit text_of lawful-text_of

pub lawful-skipped_name : (limit : ℕ) → IsLawful (skipped_name limit)
lawful-skipped_name limit = lawful-counted_within limit skipped lawful-skipped

any_name_to : (content text : List ℕ) → Then (IsUnsigned 32) IsTextOf content text → IsAnyName content text
any_name_to content text h = record {
  count = h.front;
  counted = subst (λ (n : ℕ). IsUnsigned 32 n h.front) (sym h.second.0) h.first;
  utf8 = h.second.2;
  whole = h.whole ∙ ap (λ (z : List ℕ). h.front ++ z) h.second.1;
}

any_name_from : (content text : List ℕ) → IsAnyName content text → Then (IsUnsigned 32) IsTextOf content text
any_name_from content text h = record { value = length content; front = h.count; back = content; first = h.counted; second = (refl, refl, h.utf8); whole = h.whole }

pub decides-any_name : Decides any_name IsAnyName
unfolding any_name
decides-any_name = decides-same _ (Then (IsUnsigned 32) IsTextOf) IsAnyName (decides->>= u32 text_of (IsUnsigned 32) IsTextOf decides-u32 decides-text_of) any_name_to any_name_from

module _ (limit : ℕ) where
  abbrev LimitedText : ℕ → Grammar (List ℕ)
  LimitedText n content text = (n ≤ limit) × IsTextOf n content text

  name_to : (content text : List ℕ) → Then (IsUnsigned 32) LimitedText content text → IsName limit content text
  name_to content text h = record {
    name = any_name_to content text (record { value = h.value; front = h.front; back = h.back; first = h.first; second = h.second.1; whole = h.whole });
    within = omega (arith, h.second.0, h.second.1.0);
  }

  name_from : (content text : List ℕ) → IsName limit content text → Then (IsUnsigned 32) LimitedText content text
  name_from content text h = record {
    value = length content;
    front = h.name.count;
    back = content;
    first = h.name.counted;
    second =
        (h.within, (refl, refl, h.name.utf8));
    whole = h.name.whole;
  }

  pub decides-name : Decides (name limit) (IsName limit)
  decides-name = decides-same _ (Then (IsUnsigned 32) LimitedText) (IsName limit) (decides-counted_within limit text_of IsTextOf decides-text_of) name_to name_from

-- ---- parts behind their size

abbrev done : {A : Type 0} → A → State → Outcome A
done x s = Done x s

module _ {A : Type 0} (early late : Refusal) where
  -- a part that was said to be done was read to its last byte
  ended_done : (t : State) (o : Outcome A) (x : A) (u : State) → ended early late t o ≡ Done x u → (v : State) × (o ≡ Done x v) × (length v.rest ≡ 0) × (t ≡ u)
  ended_done t (Done y v) x u e = go (length v.rest == 0) refl e
    where
      go : (b : Bool) → (length v.rest == 0) ≡ b → cond b (Done y t) (Fault late v.place) ≡ Done x u → (w : State) × (done y v ≡ Done x w) × (length w.rest ≡ 0) × (t ≡ u)
      go true q e' = (v, ap (λ (z : A). done z v) (value_is y x t u e'), eqb-true _ _ q, state_is y x t u e')
      go false q e' = absurd cc
  ended_done t (Short p h) x u e = absurd cc
  ended_done t (Fault k p) x u e = absurd cc

  module _ (d : Decoder A) (g : Grammar A) (dg : Decides d g) where
    abbrev part_of : ℕ → List ℕ → State → State
    part_of n part t = record { rest = part; place = t.place - n; settings = t.settings; start = t.place - n }

    no_bytes : (xs : List ℕ) → length xs ≡ 0 → xs ≡ []
    no_bytes [] e = refl
    no_bytes (x ∷ xs) e = absurd (omega arith)

    within_sound : (n : ℕ) (s t : State) (x : A) → within early late n d s ≡ Done x t → (text : List ℕ) × Takes s text t × Within n g x text
    unfolding within
    within_sound n s t x e =
        let m = done_then (bytes n s) (inside early late n d) x t e in
        let part = (decides-bytes n).sound s m.1 m.0 m.2 in
        let r = ended_done m.1 (d (part_of n m.0 m.1)) x t m.3 in
        let q = dg.sound (part_of n m.0 m.1) r.0 x r.1 in
        let end : m.0 ≡ q.0 = q.1.parts ∙ ap (λ (z : List ℕ). q.0 ++ z) (no_bytes r.0.rest r.2) ∙ append-nil q.0 in
        (part.0, subst (λ (z : State). Takes s part.0 z) r.3 part.1, (ap length part.2.1 ∙ part.2.0, subst (λ (z : List ℕ). g x z) (sym end ∙ sym part.2.1) q.2))

    within_complete : (n : ℕ) (s t : State) (x : A) (text : List ℕ) → Takes s text t → Within n g x text → within early late n d s ≡ Done x t
    unfolding within
    within_complete n s t x text p h =
        let front = (decides-bytes n).complete s t text text p (h.0, refl) in
        let behind : State = record { rest = []; place = t.place - n + length text; settings = t.settings; start = t.place - n } in
        let read = dg.complete (part_of n text t) behind x text (record { parts = sym (append-nil text); place = refl; settings = refl; start = refl }) h.1 in
        rw (front, read) refl

    pub decides-within : (n : ℕ) → Decides (within early late n d) (Within n g)
    decides-within n = record { sound = within_sound n; complete = within_complete n }

    sized_to : (x : A) (text : List ℕ) → Then (IsUnsigned 32) (λ n. Within n g) x text → IsSized g x text
    sized_to x text h = record {
      size = h.front;
      content = h.back;
      counted = subst (λ (k : ℕ). IsUnsigned 32 k h.front) (sym h.second.0) h.first;
      spelled = h.second.1;
      whole = h.whole;
    }

    sized_from : (x : A) (text : List ℕ) → IsSized g x text → Then (IsUnsigned 32) (λ n. Within n g) x text
    sized_from x text h = record { value = length h.content; front = h.size; back = h.content; first = h.counted; second = (refl, h.spelled); whole = h.whole }

    pub decides-sized : Decides (sized early late d) (IsSized g)
    unfolding sized
    decides-sized = decides-same _ _ (IsSized g) (decides->>= u32 (λ n. within early late n d) (IsUnsigned 32) (λ n. Within n g) decides-u32 decides-within) sized_to sized_from

  -- a sized part is lawful whatever is read in it
  pub lawful-sized : (d : Decoder A) → IsLawful (sized early late d)
  unfolding sized
  lawful-sized d = lawful->>= u32 (λ n. within early late n d) (lawful-unsigned 4 4) (λ n. lawful-within early late n d)
