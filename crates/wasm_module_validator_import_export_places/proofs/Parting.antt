-- The sections of a module, one after the other.
use Rattle.std.proofs.Common.{◌≡◌, ◌≤◌, ◌<◌, ◌+◌, ◌∙◌, ◌==◌, ℕ, suc, Bool, true, false, if◌then◌else◌, List, [], ◌∷◌, ◌++◌, Option, Some, None, length, drop, get_or, refl, sym, ap, subst, arith, eqb-true, append_assoc, length-append}
use Rattle.std.proofs.lemmas.Bool.{eq-eqb}
use Rattle.std.proofs.lemmas.List.{drop_more, drop_all}
use Rattle.wasm_types.specs.decoding.Decoder.{Many}
use Rattle.wasm_types.specs.decoding.Leb.{IsUnsigned}
use Rattle.wasm_types.specs.settings.Settings.{Settings}
use Rattle.wasm_sections_items.specs.frames.Outer.{Part, custom, code, section, Outer, SpelledHeader, SpelledOuter, SpelledPart, Header}
use Rattle.wasm_module_validator_rules.specs.Binary.{contents, SpelledItems}
use Rattle.wasm_types.specs.decoding.Leb.{IsListed}
use Rattle.wasm_module_validator_import_export_places.specs.declared.sections.Section.TheVariants.{Broken, Absent, At}
use Rattle.wasm_module_validator_import_export_places.specs.Sections.{Found}
use Rattle.wasm_module_validator_import_export_places.proofs.Standing.{past}

-- ---- parts

-- a part as a byte, a size and so many bytes
record Sized (id : ℕ) (p : Part) (text : List ℕ) : Type 0 where
  pub tag : ℕ
  pub size : List ℕ
  pub content : List ℕ
  pub counted : IsUnsigned 32 (length content) size
  pub whole : text ≡ tag ∷ (size ++ content)
  pub it : tag ≡ id → (ps : List Part) → contents id (p ∷ ps) ≡ Some content
  pub other : ¬ (tag ≡ id) → (ps : List Part) → contents id (p ∷ ps) ≡ contents id ps

here : (n id : ℕ) (c : List ℕ) (ps : List Part) → n ≡ id → contents id (section n c ∷ ps) ≡ Some c
here n id c ps e = ap (λ (b : Bool). if b then Some c else contents id ps) (eq-eqb n id e)

behind : (n id : ℕ) (c : List ℕ) (ps : List Part) → ¬ (n ≡ id) → contents id (section n c ∷ ps) ≡ contents id ps
behind n id c ps f = by (n == id) refl
  where
    by : (b : Bool) → (n == id) ≡ b → (if b then Some c else contents id ps) ≡ contents id ps
    by true e = absurd (f (eqb-true n id e))
    by false e = refl

tagged : (tag : ℕ) (text sized size content : List ℕ) → text ≡ tag ∷ sized → sized ≡ size ++ content → text ≡ tag ∷ (size ++ content)
tagged tag text sized size content e q = e ∙ ap (λ (v : List ℕ). tag ∷ v) q

same_content : (n id : ℕ) (c content : List ℕ) (ps : List Part) → c ≡ content → n ≡ id → contents id (section n c ∷ ps) ≡ Some content
same_content n id c content ps q e = here n id c ps e ∙ ap (λ (v : List ℕ). Some v) q

sized_part : (z : Settings) (id : ℕ) (p : Part) (text : List ℕ) → ¬ (id ≡ 0) → ¬ (id ≡ 10) → SpelledPart z p text → Sized id p text
sized_part z id (custom n c) text a b (sized, e, s) = record {
  tag = 0;
  size = s.size;
  content = s.content;
  counted = s.counted;
  whole = tagged 0 text sized s.size s.content e s.whole;
  it = λ q ps. absurd (a (sym q));
  other = λ q ps. refl;
}
sized_part z id (code es) text a b (sized, e, s) = record {
  tag = 10;
  size = s.size;
  content = s.content;
  counted = s.counted;
  whole = tagged 10 text sized s.size s.content e s.whole;
  it = λ q ps. absurd (b (sym q));
  other = λ q ps. refl;
}
sized_part z id (section n c) text a b (x, y, (sized, e, s)) = record {
  tag = n;
  size = s.size;
  content = s.content;
  counted = s.counted;
  whole = tagged n text sized s.size s.content e s.whole;
  it = λ q ps. same_content n id c s.content ps s.spelled q;
  other = λ q ps. behind n id c ps q;
}

-- ---- the parts that are left

-- the parts from an offset on, among which the section is
pub record Left (z : Settings) (id : ℕ) (text : List ℕ) (i : ℕ) (o : Outer) : Type 0 where
  pub parts : List Part
  pub each : Many (SpelledPart z) (length parts) parts (drop i text)
  pub same : contents id o.parts ≡ contents id parts

header_length : (h : Header) (text : List ℕ) → SpelledHeader h text → length text ≡ 8
header_length h text s =
    let a = length-append s.version_text s.layer_text in
    let w : length text ≡ suc (suc (suc (suc (length (s.version_text ++ s.layer_text))))) = ap length s.whole in
    omega (arith, w, a, s.version_bytes, s.layer_bytes)

pub some_header : (z : Settings) (o : Outer) (text : List ℕ) → SpelledOuter z o text → 8 ≤ length text
some_header z o text h =
    let a = header_length o.header h.header_text h.headed in
    let l : length text ≡ length h.header_text + length h.parts_text = ap length h.whole ∙ length-append h.header_text h.parts_text in
    omega (arith, a, l)

pub left_first : (z : Settings) (id : ℕ) (o : Outer) (text : List ℕ) → SpelledOuter z o text → Left z id text 8 o
left_first z id o text h =
    let a : 8 ≡ length h.header_text = sym (header_length o.header h.header_text h.headed) in
    let e : drop 8 text ≡ h.parts_text = past text 0 8 h.header_text h.parts_text a h.whole in
    record { parts = o.parts; each = subst (Many (SpelledPart z) (length o.parts) o.parts) (sym e) h.each; same = refl }

-- the next part, and what is left behind it
pub record Next (z : Settings) (id : ℕ) (text : List ℕ) (i : ℕ) (o : Outer) : Type 0 where
  pub tag : ℕ
  pub size : List ℕ
  pub content : List ℕ
  pub back : List ℕ
  pub counted : IsUnsigned 32 (length content) size
  pub stands : drop i text ≡ tag ∷ (size ++ (content ++ back))
  pub found : tag ≡ id → contents id o.parts ≡ Some content
  pub passed : (j : ℕ) → ¬ (tag ≡ id) → drop j text ≡ back → Left z id text j o

no_more : (n : ℕ) (text : List ℕ) (i : ℕ) → i < length text → drop i text ≡ [] → ⊥
no_more n text i h e = let m = drop_more text i 0 h in cc

next_of : (z : Settings) (id : ℕ) (text : List ℕ) (i : ℕ) (o : Outer) → ¬ (id ≡ 0) → ¬ (id ≡ 10) → i < length text → (parts : List Part)
    → Many (SpelledPart z) (length parts) parts (drop i text) → contents id o.parts ≡ contents id parts → Next z id text i o
next_of z id text i o a b h [] m s = absurd (no_more 0 text i h m)
next_of z id text i o a b h (p ∷ ps) (front, back, sp, more, whole) s =
    let x = sized_part z id p front a b sp in
    record {
      tag = x.tag;
      size = x.size;
      content = x.content;
      back = back;
      counted = x.counted;
      stands =
          whole ∙ ap (λ (v : List ℕ). v ++ back) x.whole ∙ ap (λ (v : List ℕ). x.tag ∷ v) (append_assoc x.size x.content back);
      found = λ q. s ∙ x.it q ps;
      passed = λ j q e. record { parts = ps; each = subst (Many (SpelledPart z) (length ps) ps) (sym e) more; same = s ∙ x.other q ps };
    }

pub left_next : (z : Settings) (id : ℕ) (text : List ℕ) (i : ℕ) (o : Outer) → ¬ (id ≡ 0) → ¬ (id ≡ 10) → i < length text → Left z id text i o → Next z id text i o
left_next z id text i o a b h l = next_of z id text i o a b h l.parts l.each l.same

pub next_tag : (z : Settings) (id : ℕ) (text : List ℕ) (i : ℕ) (o : Outer) (n : Next z id text i o) → i < length text → n.tag ≡ get_or text i 0
next_tag z id text i o n h = let m = drop_more text i 0 h in let s = n.stands in cc

pub next_size : (z : Settings) (id : ℕ) (text : List ℕ) (i : ℕ) (o : Outer) (n : Next z id text i o) → drop (i + 1) text ≡ n.size ++ (n.content ++ n.back)
next_size z id text i o n = past text i 1 (n.tag ∷ []) (n.size ++ (n.content ++ n.back)) refl n.stands

-- nothing is left at the end
none_left : (z : Settings) (id : ℕ) (text : List ℕ) (o : Outer) (parts : List Part) → Many (SpelledPart z) (length parts) parts [] → ¬ (id ≡ 0) → ¬ (id ≡ 10) → contents id parts ≡ None
none_left z id text o [] m a b = refl
none_left z id text o (p ∷ ps) (front, back, sp, more, whole) a b =
    let x = sized_part z id p front a b sp in
    let e : ◌≡◌ {A = List ℕ} [] (x.tag ∷ ((x.size ++ x.content) ++ back)) = whole ∙ ap (λ (v : List ℕ). v ++ back) x.whole in
    absurd (empty x.tag ((x.size ++ x.content) ++ back) e)
  where
    empty : (n : ℕ) (l : List ℕ) → ◌≡◌ {A = List ℕ} [] (n ∷ l) → ⊥
    empty n l e = cc

pub left_last : (z : Settings) (id : ℕ) (text : List ℕ) (i : ℕ) (o : Outer) → ¬ (id ≡ 0) → ¬ (id ≡ 10) → length text ≤ i → Left z id text i o → contents id o.parts ≡ None
left_last z id text i o a b h l =
    let e : drop i text ≡ [] = drop_all i text h in
    l.same ∙ none_left z id text o l.parts (subst (Many (SpelledPart z) (length l.parts) l.parts) e l.each) a b

-- ---- what was found

pub not_broken : (text : List ℕ) (o : Option (List ℕ)) → Found text o Broken → ⊥
not_broken text None f = f
not_broken text (Some content) f = f

pub is_absent : (text : List ℕ) (o : Option (List ℕ)) → Found text o Absent → o ≡ None
is_absent text None f = refl
is_absent text (Some content) f = absurd f

pub found_absent : (text : List ℕ) (o : Option (List ℕ)) → o ≡ None → Found text o Absent
found_absent text o e = subst (λ (x : Option (List ℕ)). Found text x Absent) (sym e) tt

pub found_at : (text : List ℕ) (o : Option (List ℕ)) (start : ℕ) (content rest : List ℕ) → o ≡ Some content → drop start text ≡ content ++ rest → Found text o (At start)
found_at text o start content rest e q = subst (λ (x : Option (List ℕ)). Found text x (At start)) (sym e) (rest, q)

pub no_items : {A : Type 0} (g : A → List ℕ → Type 0) (xs : List A) (text : List ℕ) (o : Option (List ℕ)) → Found text o Absent → SpelledItems g xs o → xs ≡ []
no_items g xs text None f s = s
no_items g xs text (Some content) f s = absurd f

pub items_at : {A : Type 0} (g : A → List ℕ → Type 0) (xs : List A) (text : List ℕ) (o : Option (List ℕ)) (start : ℕ) → Found text o (At start) → SpelledItems g xs o
    → (content : List ℕ) × (rest : List ℕ) × IsListed g xs content × (drop start text ≡ content ++ rest)
items_at g xs text None start f s = absurd f
items_at g xs text (Some content) start (rest, e) s = (content, rest, s, e)
