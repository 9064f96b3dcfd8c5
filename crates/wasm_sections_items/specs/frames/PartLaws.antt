-- Headers and sections are read lawfully, and exactly where the bytes spell them.
use Rattle.std.proofs.Common.{◌≡◌, ℕ, ◌+◌, ◌-◌, ◌<◌, ◌≤◌, List, [], ◌∷◌, ◌++◌, length, take, drop, refl, sym, ap, ◌∙◌, subst, arith, cond, ltb, eqb, Bool, true, false}
use Rattle.std.specs.Prelude.{nat_lt, ◌==◌}
use Rattle.std.proofs.lemmas.Bool.{eqb-true, eqb-false, ltb-true, ltb-false}
use Rattle.std.proofs.lemmas.List.{append-nil, length-append, take-append-drop, length-take, length-drop, take_at, drop_at}
use Rattle.wasm_types.specs.settings.Settings.{Settings}
use Rattle.wasm_types.specs.decoding.declared.Refusal.{Refusal}
use Rattle.wasm_types.specs.decoding.declared.Refusal.TheVariants.{Other}
use Rattle.wasm_types.specs.decoding.Decoder.{State, Outcome, Done, Short, Fault, Decoder, Grammar, byte, bytes, ended, inside, within, Takes, IsLawful, Decides, Then}
use Rattle.wasm_types.specs.decoding.Laws.{lawful-byte, lawful->>=, lawful-pure, lawful-refuse, lawful-if, lawful-bytes}
use Rattle.wasm_types.specs.decoding.ExactLaws.{
  Exactly,
  Mapped,
  value_is,
  state_is,
  done_then,
  decides->>=,
  decides-same,
  decides-pure,
  decides-refuse,
  decides-if,
  decides-map,
  decides-byte,
  decides-bytes,
}
use Rattle.wasm_types.specs.decoding.Leb.{u32, listed, IsUnsigned, IsListed}
use Rattle.wasm_types.specs.decoding.LebLaws.{lawful-unsigned, decides-u32, decides-listed}
use Rattle.wasm_types.specs.decoding.Text.{little_endian, name, sized, Within, IsSized}
use Rattle.wasm_types.specs.decoding.TextLaws.{decides-name, lawful-sized, decides-sized}
use Rattle.wasm_types.specs.values.HeapLaws.{heads, tails}
use Rattle.wasm_sections_items.specs.frames.Outer.{Header, SpelledHeader, magic, Part, custom, code, section, IsBytes, SpelledNamed, SpelledEntry, SpelledPart}
use Rattle.wasm_sections_items.specs.frames.Decode.{is_magic, header_of, header_after, magic_after, header, counted_bytes, rest_after, named_rest, part_after, part}

-- ---- headers

pub lawful-header : IsLawful header
unfolding header
lawful-header = lawful->>= (bytes 4) magic_after (lawful-bytes 4) (λ m. lawful-if (is_magic m) _ _
    (lawful->>= (bytes 4) header_after (lawful-bytes 4) (λ t. lawful-if (nat_lt 1 (little_endian (drop 2 t))) _ _ (lawful-refuse Other 4) (lawful-pure (header_of t))))
    (lawful-refuse Other 4))

is_magic_so : (text : List ℕ) → is_magic text ≡ true → text ≡ magic
is_magic_so [] h = absurd cc
is_magic_so (a ∷ []) h = absurd cc
is_magic_so (a ∷ b ∷ []) h = absurd cc
is_magic_so (a ∷ b ∷ c ∷ []) h = absurd cc
is_magic_so (a ∷ b ∷ c ∷ d ∷ []) h = go (a == 0x00) (b == 0x61) (c == 0x73) (d == 0x6d) refl refl refl refl h
  where
    go : (w x y z : Bool) → (a == 0x00) ≡ w → (b == 0x61) ≡ x → (c == 0x73) ≡ y → (d == 0x6d) ≡ z → cond w (cond x (cond y z false) false) false ≡ true → a ∷ b ∷ c ∷ d ∷ [] ≡ magic
    go true true true true e f g h' q = let i = eqb-true _ _ e in let j = eqb-true _ _ f in let k = eqb-true _ _ g in let l = eqb-true _ _ h' in λ n. i n ∷ j n ∷ k n ∷ l n ∷ []
    go true true true false e f g h' q = absurd cc
    go true true false z e f g h' q = absurd cc
    go true false y z e f g h' q = absurd cc
    go false x y z e f g h' q = absurd cc
is_magic_so (a ∷ b ∷ c ∷ d ∷ e ∷ text) h = absurd cc

-- the version and the layer, in four bytes
pub record Fields (h : Header) (text : List ℕ) : Type 0 where
  pub size : length text ≡ 4
  pub same : h ≡ header_of text
  pub known : h.layer ≤ 1

abbrev OfFields : List ℕ → Grammar Header
OfFields t h text = (h ≡ header_of t) × (h.layer ≤ 1) × (text ≡ [])

decides-header_after : (t : List ℕ) → Decides (header_after t) (OfFields t)
decides-header_after t = decides-if (ltb 1 (little_endian (drop 2 t))) _ _ _
    (λ y. let lt : 1 < little_endian (drop 2 t) = ltb-true _ _ y in
    decides-refuse Other 4 (OfFields t) (λ h text q. omega (arith, lt, ap (λ (k : Header). k.layer) q.0, q.1)))
    (λ n. let le : little_endian (drop 2 t) ≤ 1 = ltb-false _ _ n in
    decides-pure (header_of t) (OfFields t) (refl, le, refl) (λ h text q. (q.0, q.2)))

abbrev FieldsThen : Grammar Header
FieldsThen = Then (Exactly 4) OfFields

-- the magic number, if it is, and the fields
abbrev OfMagic : List ℕ → Grammar Header
OfMagic m h text = (m ≡ magic) × FieldsThen h text

decides-magic_after : (m : List ℕ) → Decides (magic_after m) (OfMagic m)
decides-magic_after m = decides-if (is_magic m) _ _ _
    (λ y. decides-same _ FieldsThen (OfMagic m) (decides->>= (bytes 4) header_after (Exactly 4) OfFields (decides-bytes 4) decides-header_after) (λ h text q. (is_magic_so m y, q)) (λ h text q. q.1))
    (λ n. decides-refuse Other 4 (OfMagic m) (λ h text q. let no : true ≡ false = sym (ap is_magic q.0) ∙ n in cc))

header_to : (h : Header) (text : List ℕ) → Then (Exactly 4) OfMagic h text → SpelledHeader h text
header_to h text q =
    let a = q.second.1 in
    let fields : List ℕ = a.value in
    let four : length fields ≡ 4 = a.first.0 in
    let back : q.back ≡ fields = a.whole ∙ ap (λ (z : List ℕ). a.front ++ z) a.second.2 ∙ append-nil a.front ∙ a.first.1 in
    record {
      version_text = take 2 fields;
      layer_text = drop 2 fields;
      version_bytes = omega (arith, length-take 2 fields, four);
      layer_bytes = omega (arith, length-drop 2 fields, four);
      version = ap (λ (k : Header). k.version) a.second.0;
      layer = ap (λ (k : Header). k.layer) a.second.0;
      known = a.second.1;
      whole = q.whole ∙ ap (λ (z : List ℕ). z ++ q.back) (q.first.1 ∙ q.second.0) ∙ ap (λ (z : List ℕ). magic ++ z) (back ∙ sym (take-append-drop 2 fields));
    }

same_header : (h : Header) (v l : ℕ) → h.version ≡ v → h.layer ≡ l → h ≡ record { version = v; layer = l }
same_header h v l e f = λ i. record { version = e i; layer = f i }

header_from : (h : Header) (text : List ℕ) → SpelledHeader h text → Then (Exactly 4) OfMagic h text
header_from h text q =
    let fields : List ℕ = q.version_text ++ q.layer_text in
    record {
      value = magic;
      front = magic;
      back = fields;
      first = (refl, refl);
      second = (
        refl,
        record {
          value = fields;
          front = fields;
          back = [];
          first = (omega (arith, length-append q.version_text q.layer_text, q.version_bytes, q.layer_bytes), refl);
          second = (
            same_header h _ _ (q.version ∙ ap little_endian (sym (take_at q.version_text q.layer_text 2 q.version_bytes))) (q.layer
                ∙ ap little_endian (sym (drop_at q.version_text q.layer_text 2 q.version_bytes))),
            q.known,
            refl,
          );
          whole = sym (append-nil fields);
        },
      );
      whole = q.whole;
    }

pub decides-header : Decides header SpelledHeader
unfolding header
decides-header = decides-same _ (Then (Exactly 4) OfMagic) SpelledHeader (decides->>= (bytes 4) magic_after (Exactly 4) OfMagic (decides-bytes 4) decides-magic_after) header_to header_from

-- ---- counted bytes

pub lawful-counted_bytes : IsLawful counted_bytes
unfolding counted_bytes
lawful-counted_bytes = lawful->>= u32 bytes (lawful-unsigned 4 4) lawful-bytes

bytes_to : (xs text : List ℕ) → Then (IsUnsigned 32) Exactly xs text → IsSized IsBytes xs text
bytes_to xs text h = record {
  size = h.front;
  content = h.back;
  counted = subst (λ (n : ℕ). IsUnsigned 32 n h.front) (sym (ap length h.second.1 ∙ h.second.0)) h.first;
  spelled = sym h.second.1;
  whole = h.whole;
}

bytes_from : (xs text : List ℕ) → IsSized IsBytes xs text → Then (IsUnsigned 32) Exactly xs text
bytes_from xs text h = record { value = length h.content; front = h.size; back = h.content; first = h.counted; second = (ap length h.spelled, sym h.spelled); whole = h.whole }

pub decides-counted_bytes : Decides counted_bytes (IsSized IsBytes)
unfolding counted_bytes
decides-counted_bytes = decides-same _ (Then (IsUnsigned 32) Exactly) (IsSized IsBytes) (decides->>= u32 bytes (IsUnsigned 32) Exactly decides-u32 decides-bytes) bytes_to bytes_from

-- ---- parts that are read to their end

abbrev done : {A : Type 0} → A → State → Outcome A
done x s = Done x s

no_bytes : (xs : List ℕ) → length xs ≡ 0 → xs ≡ []
no_bytes [] e = refl
no_bytes (x ∷ xs) e = absurd (omega arith)

module _ {A : Type 0} (early late : Refusal) where
  -- a part that was said to be done was read to its last byte
  ended_done : (t : State) (o : Outcome A) (x : A) (u : State) → ended early late t o ≡ Done x u → (v : State) × (o ≡ Done x v) × (length v.rest ≡ 0) × (t ≡ u)
  ended_done t (Done y v) x u e = go (length v.rest == 0) refl e
    where
      go : (b : Bool) → (length v.rest == 0) ≡ b → cond b (Done y t) (Fault late v.place) ≡ Done x u → (w : State) × (done y v ≡ Done x w) × (length w.rest ≡ 0) × (t ≡ u)
      go true q e' = (v, ap (λ (z : A). done z v) (value_is y x t u e'), eqb-true _ _ q, state_is y x t u e')
      go false q e' = absurd cc
  ended_done t (Short p h) x u e = absurd cc
  ended_done t (Fault k p) x u e = absurd cc

  -- d reads all that is left exactly where that spells a value
  module _ (d : Decoder A) (g : Grammar A) (sound : (s t : State) (x : A) → d s ≡ Done x t → t.rest ≡ [] → g x s.rest) (complete : (s : State) (x : A) → g x s.rest → (t : State)
      × (d s ≡ Done x t) × (t.rest ≡ [])) where
    abbrev inner : ℕ → List ℕ → State → State
    inner n text t = record { rest = text; place = t.place - n; settings = t.settings; start = t.place - n }

    whole_sound : (n : ℕ) (s t : State) (x : A) → within early late n d s ≡ Done x t → (text : List ℕ) × Takes s text t × Within n g x text
    unfolding within
    whole_sound n s t x e =
        let m = done_then (bytes n s) (inside early late n d) x t e in
        let front = (decides-bytes n).sound s m.1 m.0 m.2 in
        let r = ended_done m.1 (d (inner n m.0 m.1)) x t m.3 in
        let spelled : g x m.0 = sound (inner n m.0 m.1) r.0 x r.1 (no_bytes r.0.rest r.2) in
        (front.0, subst (λ (z : State). Takes s front.0 z) r.3 front.1, (ap length front.2.1 ∙ front.2.0, subst (λ (z : List ℕ). g x z) (sym front.2.1) spelled))

    whole_complete : (n : ℕ) (s t : State) (x : A) (text : List ℕ) → Takes s text t → Within n g x text → within early late n d s ≡ Done x t
    unfolding within
    whole_complete n s t x text p h =
        let front = (decides-bytes n).complete s t text text p (h.0, refl) in
        let read = complete (inner n text t) x h.1 in
        rw (front, read.1, read.2) refl

    decides-within_whole : (n : ℕ) → Decides (within early late n d) (Within n g)
    decides-within_whole n = record { sound = whole_sound n; complete = whole_complete n }

    sized_to : (x : A) (text : List ℕ) → Then (IsUnsigned 32) (λ n. Within n g) x text → IsSized g x text
    sized_to x text h = record {
      size = h.front;
      content = h.back;
      counted = subst (λ (k : ℕ). IsUnsigned 32 k h.front) (sym h.second.0) h.first;
      spelled = h.second.1;
      whole = h.whole;
    }

    sized_from : (x : A) (text : List ℕ) → IsSized g x text → Then (IsUnsigned 32) (λ n. Within n g) x text
    sized_from x text h = record { value = length h.content; front = h.size; back = h.content; first = h.counted; second = (refl, h.spelled); whole = h.whole }

    pub decides-sized_whole : Decides (sized early late d) (IsSized g)
    unfolding sized
    decides-sized_whole = decides-same _ _ (IsSized g) (decides->>= u32 (λ n. within early late n d) (IsUnsigned 32) (λ n. Within n g) decides-u32 decides-within_whole) sized_to sized_from

-- ---- custom sections

abbrev pair : List ℕ → List ℕ → List ℕ × List ℕ
pair n c = (n, c)

at_end : State → State
at_end s = record { rest = []; place = s.place + length s.rest; settings = s.settings; start = s.start }

module _ (z : Settings) where
  named_sound : (s t : State) (c : List ℕ × List ℕ) → (named_rest z) s ≡ Done c t → t.rest ≡ [] → (SpelledNamed z) c s.rest
  unfolding named_rest
  named_sound s t c e end =
      let m = done_then (name z.limits.string_bytes s) rest_after c t e in
      let front = (decides-name z.limits.string_bytes).sound s m.1 m.0 m.2 in
      let same : pair m.0 m.1.rest ≡ c = value_is _ _ _ _ m.3 in
      subst (λ (k : List ℕ × List ℕ). (SpelledNamed z) k s.rest) same (record { name_text = front.0; named = front.2; whole = front.1.parts })

  named_complete : (s : State) (c : List ℕ × List ℕ) → (SpelledNamed z) c s.rest → (t : State) × ((named_rest z) s ≡ Done c t) × (t.rest ≡ [])
  unfolding named_rest
  named_complete s c h =
      let m : State = record { rest = c.1; place = s.place + length h.name_text; settings = s.settings; start = s.start } in
      let read = (decides-name z.limits.string_bytes).complete s m c.0 h.name_text (record { parts = h.whole; place = refl; settings = refl; start = refl }) h.named in
      (record { rest = []; place = m.place + length c.1; settings = s.settings; start = s.start }, rw read refl, refl)

  decides-custom : Decides (sized Other Other (named_rest z)) (IsSized (SpelledNamed z))
  decides-custom = decides-sized_whole Other Other (named_rest z) (SpelledNamed z) named_sound named_complete

  -- ---- sections

  decides-entries : Decides (sized Other Other (listed counted_bytes)) (IsSized (IsListed SpelledEntry))
  decides-entries = decides-sized Other Other (listed counted_bytes) (IsListed SpelledEntry) (decides-listed SpelledEntry counted_bytes decides-counted_bytes)

  abbrev custom_of : List ℕ × List ℕ → Part
  custom_of c = custom c.0 c.1

  abbrev code_of : List (List ℕ) → Part
  code_of es = code es

  abbrev section_of : ℕ → List ℕ → Part
  section_of id c = section id c

  pub lawful-part : IsLawful (part z)
  unfolding part
  lawful-part = lawful->>= byte (part_after z) lawful-byte (λ id. lawful-if (id == 0) _ _
      (lawful->>= (sized Other Other (named_rest z)) _ (lawful-sized Other Other (named_rest z)) (λ c. lawful-pure (custom_of c)))
      (lawful-if (id == 10) _ _
      (lawful->>= (sized Other Other (listed counted_bytes)) _ (lawful-sized Other Other (listed counted_bytes)) (λ es. lawful-pure (code_of es)))
      (lawful->>= counted_bytes _ lawful-counted_bytes (λ c. lawful-pure (section_of id c)))))

  pub part_some : (p : Part) → (SpelledPart z) p [] → ⊥
  part_some (custom n c) h = let no : [] ≡ 0 ∷ h.0 = h.1 in cc
  part_some (code es) h = let no : [] ≡ 10 ∷ h.0 = h.1 in cc
  part_some (section id c) h = let no : [] ≡ id ∷ h.2.0 = h.2.1 in cc

  custom_to : (b : ℕ) → b ≡ 0 → (p : Part) (text : List ℕ) → Mapped custom_of (IsSized (SpelledNamed z)) p text → (SpelledPart z) p (b ∷ text)
  custom_to b e p text h = subst (λ (k : Part). (SpelledPart z) k (b ∷ text)) (sym h.2) (text, ap (λ (n : ℕ). n ∷ text) e, h.1)

  custom_from : (b : ℕ) → b ≡ 0 → (p : Part) (text : List ℕ) → (SpelledPart z) p (b ∷ text) → Mapped custom_of (IsSized (SpelledNamed z)) p text
  custom_from b e (custom n c) text h = (pair n c, subst (IsSized (SpelledNamed z) (pair n c)) (sym (tails b 0 text h.0 h.1)) h.2, refl)
  custom_from b e (code es) text h = absurd (omega (arith, e, heads b 10 text h.0 h.1))
  custom_from b e (section id c) text h = absurd (h.0 (sym (heads b id text h.2.0 h.2.1) ∙ e))

  code_to : (b : ℕ) → b ≡ 10 → (p : Part) (text : List ℕ) → Mapped code_of (IsSized (IsListed SpelledEntry)) p text → (SpelledPart z) p (b ∷ text)
  code_to b e p text h = subst (λ (k : Part). (SpelledPart z) k (b ∷ text)) (sym h.2) (text, ap (λ (n : ℕ). n ∷ text) e, h.1)

  code_from : (b : ℕ) → b ≡ 10 → (p : Part) (text : List ℕ) → (SpelledPart z) p (b ∷ text) → Mapped code_of (IsSized (IsListed SpelledEntry)) p text
  code_from b e (custom n c) text h = absurd (omega (arith, e, heads b 0 text h.0 h.1))
  code_from b e (code es) text h = (es, subst (IsSized (IsListed SpelledEntry) es) (sym (tails b 10 text h.0 h.1)) h.2, refl)
  code_from b e (section id c) text h = absurd (h.1 (sym (heads b id text h.2.0 h.2.1) ∙ e))

  section_to : (b : ℕ) → (b ≡ 0 → ⊥) → (b ≡ 10 → ⊥) → (p : Part) (text : List ℕ) → Mapped (section_of b) (IsSized IsBytes) p text → (SpelledPart z) p (b ∷ text)
  section_to b e f p text h = subst (λ (k : Part). (SpelledPart z) k (b ∷ text)) (sym h.2) (e, f, (text, refl, h.1))

  section_from : (b : ℕ) → (b ≡ 0 → ⊥) → (b ≡ 10 → ⊥) → (p : Part) (text : List ℕ) → (SpelledPart z) p (b ∷ text) → Mapped (section_of b) (IsSized IsBytes) p text
  section_from b e f (custom n c) text h = absurd (e (heads b 0 text h.0 h.1))
  section_from b e f (code es) text h = absurd (f (heads b 10 text h.0 h.1))
  section_from b e f (section id c) text h = (c, subst (IsSized IsBytes c) (sym (tails b id text h.2.0 h.2.1)) h.2.2, ap (λ (n : ℕ). section_of n c) (sym (heads b id text h.2.0 h.2.1)))

  decides-part_after : (b : ℕ) → Decides ((part_after z) b) (λ p text. (SpelledPart z) p (b ∷ text))
  decides-part_after b =
      decides-if (eqb b 0) _ _ _ (λ t. let e : b ≡ 0 = eqb-true _ _ t in
      decides-same _ (Mapped custom_of (IsSized (SpelledNamed z))) (λ p text. (SpelledPart z) p (b ∷ text))
      (decides-map (sized Other Other (named_rest z)) custom_of (IsSized (SpelledNamed z)) decides-custom) (custom_to b e) (custom_from b e))
      (λ i. decides-if (eqb b 10) _ _ _ (λ t. let e : b ≡ 10 = eqb-true _ _ t in
      decides-same _ (Mapped code_of (IsSized (IsListed SpelledEntry))) (λ p text. (SpelledPart z) p (b ∷ text))
      (decides-map (sized Other Other (listed counted_bytes)) code_of (IsSized (IsListed SpelledEntry)) decides-entries) (code_to b e) (code_from b e))
      (λ j. decides-same _ (Mapped (section_of b) (IsSized IsBytes)) (λ p text. (SpelledPart z) p (b ∷ text))
      (decides-map counted_bytes (section_of b) (IsSized IsBytes) decides-counted_bytes) (section_to b (eqb-false _ _ i) (eqb-false _ _ j)) (section_from b (eqb-false _ _ i) (eqb-false _ _ j))))

  pub decides-part : Decides (part z) (SpelledPart z)
  unfolding part
  decides-part = decides-byte (part_after z) (SpelledPart z) part_some decides-part_after
