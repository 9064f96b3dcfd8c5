-- Heap types are read exactly where bytes spell them.
use Rattle.std.proofs.Common.{◌≡◌, ◌≢◌, ℕ, ◌<◌, ◌≤◌, ◌^◌, List, [], ◌∷◌, ◌++◌, refl, sym, ap, ◌∙◌, subst, arith, cond, ltb, eqb, Option, Some, None, Bool, true, false, lit≤}
use Rattle.std.specs.Prelude.{◌==◌, ℤ, pos, negsuc, ◌-ℤ◌}
use Rattle.std.proofs.lemmas.Int.{ints}
use Rattle.std.proofs.lemmas.Bool.{eqb-true, eqb-false, ltb-true, ltb-false, lt-ltb, le-ltb}
use Rattle.std.proofs.lemmas.List.{append-nil}
use Rattle.wasm_types_reader.specs.decoding.declared.Refusal.TheVariants.{Other}
use Rattle.wasm_types_reader.specs.decoding.Decoder.{State, Done, Decoder, Grammar, ◌>>=◌, pure, byte, Takes, Decides, Then}
use Rattle.wasm_types_reader.specs.decoding.ExactLaws.{Mapped, Sound, decides->>=, decides-same, decides-pure, decides-refuse, decides-if, decides-map}
use Rattle.wasm_types_reader.specs.decoding.ExactLaws.{decides-byte, decides-look_apart}
use Rattle.wasm_types_reader.specs.decoding.ListLaws.{decides-from_place, decides-refuse_at}
use Rattle.wasm_types_reader.specs.decoding.Leb.{u32, s33, IsUnsigned, IsSigned, nonnegative, negative, longer}
use Rattle.wasm_types_reader.specs.decoding.LebLaws.{decides-u32}
use Rattle.wasm_types_reader.specs.decoding.SignedLaws.{decides-s33}
use Rattle.wasm_types_trees.specs.declared.index.UnpackedIndex.TheVariants.{Module, RecGroup, Id}
use Rattle.wasm_types_values.specs.declared.heap.AbstractHeapType.{AbstractHeapType}
use Rattle.wasm_types_values.specs.declared.heap.AbstractHeapType.TheVariants as heap
use Rattle.wasm_types_values.specs.declared.heap.HeapType.{HeapType}
use Rattle.wasm_types_values.specs.declared.heap.HeapType.TheVariants.{Abstract, Concrete, Exact}
use Rattle.wasm_types_values.specs.Bits.{Fits}
use Rattle.wasm_types_values.specs.Trees.{abstract_of, heap_of}
use Rattle.wasm_types_values.specs.Spells.{abstract_byte, SpellsHeap}
use Rattle.wasm_types_values.specs.Spelled.{Spelled}
use Rattle.wasm_types_values.specs.Decode.{find, abstract_types, type_of_byte, with_type, abstract_heap_type, concrete_from, exact_from}
use Rattle.wasm_types_values.specs.Decode.{concrete_heap_type, exact_heap_type, heap_type_after, begins_index, heap_type_at, heap_type}

pub heads : (a b : ℕ) (xs ys : List ℕ) → (a ∷ xs) ≡ (b ∷ ys) → a ≡ b
heads a b xs ys e = cc

pub tails : (a b : ℕ) (xs ys : List ℕ) → (a ∷ xs) ≡ (b ∷ ys) → xs ≡ ys
tails a b xs ys e = cc

some_is : {A : Type 0} (x y : A) → Some x ≡ Some y → x ≡ y
some_is x y e = cc

-- ---- abstract types

abbrev EachEntry : {A : Type 0} → (ℕ → A → Type 0) → List (ℕ × A) → Type 0
EachEntry P [] = Unit {0}
EachEntry P (c ∷ cs) = P c.0 c.1 × EachEntry P cs

found : {A : Type 0} (P : ℕ → A → Type 0) (cs : List (ℕ × A)) (b : ℕ) → EachEntry P cs → (x : A) → find cs b ≡ Some x → P b x
found P [] b all x e = absurd cc
found P (c ∷ cs) b all x e = go (b == c.0) refl e (found P cs b all.1 x)
  where
    go : (t : Bool) → (b == c.0) ≡ t → cond t (Some c.1) (find cs b) ≡ Some x → (find cs b ≡ Some x → P b x) → P b x
    go true q h rest = subst (λ y. P b y) (some_is c.1 x h) (subst (λ n. P n c.1) (sym (eqb-true _ _ q)) all.0)
    go false q h rest = rest h

byte_is : (b : ℕ) (ty : AbstractHeapType) → type_of_byte b ≡ Some ty → b ≡ abstract_byte (abstract_of ty)
byte_is b ty e = found (λ n t. n ≡ abstract_byte (abstract_of t)) abstract_types b
    (refl, (refl, (refl, (refl, (refl, (refl, (refl, (refl, (refl, (refl, (refl, (refl, (refl, (refl, tt)))))))))))))) ty e

type_back : (ty : AbstractHeapType) → type_of_byte (abstract_byte (abstract_of ty)) ≡ Some ty
type_back heap.Func = refl
type_back heap.Extern = refl
type_back heap.Any = refl
type_back heap.None = refl
type_back heap.NoExtern = refl
type_back heap.NoFunc = refl
type_back heap.Eq = refl
type_back heap.Struct = refl
type_back heap.Array = refl
type_back heap.I31 = refl
type_back heap.Exn = refl
type_back heap.NoExn = refl
type_back heap.Cont = refl
type_back heap.NoCont = refl

pub byte_range : (ty : AbstractHeapType) → (0x68 ≤ abstract_byte (abstract_of ty)) × (abstract_byte (abstract_of ty) ≤ 0x75)
byte_range heap.Func = (lit≤ tt, lit≤ tt)
byte_range heap.Extern = (lit≤ tt, lit≤ tt)
byte_range heap.Any = (lit≤ tt, lit≤ tt)
byte_range heap.None = (lit≤ tt, lit≤ tt)
byte_range heap.NoExtern = (lit≤ tt, lit≤ tt)
byte_range heap.NoFunc = (lit≤ tt, lit≤ tt)
byte_range heap.Eq = (lit≤ tt, lit≤ tt)
byte_range heap.Struct = (lit≤ tt, lit≤ tt)
byte_range heap.Array = (lit≤ tt, lit≤ tt)
byte_range heap.I31 = (lit≤ tt, lit≤ tt)
byte_range heap.Exn = (lit≤ tt, lit≤ tt)
byte_range heap.NoExn = (lit≤ tt, lit≤ tt)
byte_range heap.Cont = (lit≤ tt, lit≤ tt)
byte_range heap.NoCont = (lit≤ tt, lit≤ tt)

abbrev pub SpellsAbstract : Grammar AbstractHeapType
SpellsAbstract ty text = text ≡ abstract_byte (abstract_of ty) ∷ []

-- the byte of a type was read, and nothing more follows
module _ {A : Type 0} (f : AbstractHeapType → A) (b : ℕ) (g : Grammar A) (here : (ty : AbstractHeapType) → b ≡ abstract_byte (abstract_of ty) → g (f ty) [])
    (only : (x : A) (text : List ℕ) → g x text → (ty : AbstractHeapType) × (b ≡ abstract_byte (abstract_of ty)) × (x ≡ f ty) × (text ≡ [])) where
  one_type : (o : Option AbstractHeapType) → type_of_byte b ≡ o → Decides (with_type o f) g
  one_type (Some ty) e = decides-pure (f ty) g (here ty (byte_is b ty e)) (λ x text h.
      let p = only x text h in
      let same : type_of_byte b ≡ Some p.0 = ap type_of_byte p.1 ∙ type_back p.0 in
      (p.2 ∙ ap f (some_is p.0 ty (sym same ∙ e)), p.3))
  one_type None e = decides-refuse Other 1 g (λ x text h.
      let p = only x text h in
      let same : type_of_byte b ≡ Some p.0 = ap type_of_byte p.1 ∙ type_back p.0 in
      let no : Some p.0 ≡ None = sym same ∙ e in
      cc)

  pub decides-with_type : Decides (with_type (type_of_byte b) f) g
  decides-with_type = one_type (type_of_byte b) refl

pub decides-abstract_heap_type : Decides abstract_heap_type SpellsAbstract
unfolding abstract_heap_type
decides-abstract_heap_type = decides-byte _ SpellsAbstract (λ ty h. cc) (λ b.
    decides-with_type (λ ty. ty) b (λ ty text. SpellsAbstract ty (b ∷ text))
    (λ ty e. ap (λ (n : ℕ). n ∷ []) e)
    (λ ty text h. (ty, heads b (abstract_byte (abstract_of ty)) text [] h, refl, tails b (abstract_byte (abstract_of ty)) text [] h)))

-- ---- indices

module _ {V : Type 0} (d : Decoder V) (g : Grammar V) (f : ℕ → V → Decoder HeapType) (By : V → HeapType → Type 0) where
  abbrev after : V → Grammar HeapType
  after v h text = By v h × (text ≡ [])

  abbrev Numbered : Grammar HeapType
  Numbered h text = (v : V) × g v text × By v h

  numbered_to : (h : HeapType) (text : List ℕ) → Then g after h text → Numbered h text
  numbered_to h text t =
      let e : text ≡ t.front = t.whole ∙ ap (λ (z : List ℕ). t.front ++ z) t.second.1 ∙ append-nil t.front in
      (t.value, subst (g t.value) (sym e) t.first, t.second.0)

  numbered_from : (h : HeapType) (text : List ℕ) → Numbered h text → Then g after h text
  numbered_from h text n = record { value = n.0; front = text; back = []; first = n.1; second = (n.2, refl); whole = sym (append-nil text) }

  decides-numbered : Decides d g → ((p : ℕ) (v : V) → Decides (f p v) (after v)) → Decides (λ s. (d >>= f s.place) s) Numbered
  decides-numbered dg each = decides-from_place (λ p. d >>= f p) Numbered
      (λ p. decides-same _ (Then g after) Numbered (decides->>= d (f p) g after dg (each p)) numbered_to numbered_from)

abbrev ByConcrete : ℤ → HeapType → Type 0
ByConcrete v h = (n : ℕ) × (v ≡ pos n) × (n < 2 ^ 20) × (h ≡ Concrete (Module n))

abbrev ByExact : ℕ → HeapType → Type 0
ByExact n h = (n < 2 ^ 20) × (h ≡ Exact (Module n))

pos_is : (m n : ℕ) → pos m ≡ pos n → m ≡ n
pos_is m n e = cc

decides-concrete_from : (p : ℕ) (v : ℤ) → Decides (concrete_from p v) (λ h text. ByConcrete v h × (text ≡ []))
decides-concrete_from p (pos n) = decides-if (ltb n 0x10_0000) _ _ _
    (λ t. let small : n < 0x10_0000 = ltb-true _ _ t in
    decides-pure (Concrete (Module n)) _ ((n, refl, small, refl), refl) (λ h text q. (q.0.3 ∙ ap (λ (m : ℕ). Concrete (Module m)) (sym (pos_is n q.0.0 q.0.1)), q.1)))
    (λ f. let large : 0x10_0000 ≤ n = ltb-false _ _ f in
    decides-refuse Other 0 _ (λ h text q. omega (arith, pos_is n q.0.0 q.0.1, q.0.2)))
decides-concrete_from p (negsuc n) = decides-refuse_at Other p _ (λ h text q. let no : negsuc n ≡ pos q.0.0 = q.0.1 in cc)

decides-exact_from : (p n : ℕ) → Decides (exact_from p n) (λ h text. ByExact n h × (text ≡ []))
decides-exact_from p n = decides-if (ltb n 0x10_0000) _ _ _
    (λ t. let small : n < 0x10_0000 = ltb-true _ _ t in decides-pure (Exact (Module n)) _ ((small, refl), refl) (λ h text q. (q.0.1, q.1)))
    (λ f. let large : 0x10_0000 ≤ n = ltb-false _ _ f in decides-refuse_at Other p _ (λ h text q. omega (arith, q.0.0)))

abbrev SpellsConcrete : Grammar HeapType
SpellsConcrete h text = (v : ℤ) × IsSigned 33 v text × ByConcrete v h

abbrev SpellsExact : Grammar HeapType
SpellsExact h text = (n : ℕ) × IsUnsigned 32 n text × ByExact n h

decides-concrete_heap_type : Decides concrete_heap_type SpellsConcrete
unfolding concrete_heap_type
decides-concrete_heap_type = decides-numbered s33 (IsSigned 33) concrete_from ByConcrete decides-s33 decides-concrete_from

decides-exact_heap_type : Decides exact_heap_type SpellsExact
unfolding exact_heap_type
decides-exact_heap_type = decides-numbered u32 (IsUnsigned 32) exact_from ByExact decides-u32 decides-exact_from

-- ---- what follows a first byte that begins no index

abbrev SpellsOther : Grammar HeapType
SpellsOther (Abstract s ty) text = SpellsHeap (heap_of (Abstract s ty)) text
SpellsOther (Concrete i) text = ⊥
SpellsOther (Exact i) text = SpellsHeap (heap_of (Exact i)) text

other_some : (h : HeapType) → SpellsOther h [] → ⊥
other_some (Abstract true ty) e = cc
other_some (Abstract false ty) e = cc
other_some (Concrete i) e = e
other_some (Exact i) e = let no : [] ≡ 0x62 ∷ e.0 = e.1 in cc

shared_from : (h : HeapType) (text : List ℕ) → SpellsOther h (0x65 ∷ text) → Mapped (Abstract true) SpellsAbstract h text
shared_from (Abstract true ty) text e = (ty, tails 0x65 0x65 text (abstract_byte (abstract_of ty) ∷ []) e, refl)
shared_from (Abstract false ty) text e = absurd (omega (arith, heads 0x65 (abstract_byte (abstract_of ty)) text [] e, byte_range ty))
shared_from (Concrete i) text e = absurd e
shared_from (Exact i) text e = absurd (omega (arith, heads 0x65 0x62 text e.0 e.1))

shared_to : (h : HeapType) (text : List ℕ) → Mapped (Abstract true) SpellsAbstract h text → SpellsOther h (0x65 ∷ text)
shared_to h text m = subst (λ (k : HeapType). SpellsOther k (0x65 ∷ text)) (sym m.2) (ap (λ (z : List ℕ). 0x65 ∷ z) m.1)

exact_from_other : (h : HeapType) (text : List ℕ) → SpellsOther h (0x62 ∷ text) → SpellsExact h text
exact_from_other (Abstract true ty) text e = absurd (omega (arith, heads 0x62 0x65 text (abstract_byte (abstract_of ty) ∷ []) e))
exact_from_other (Abstract false ty) text e = absurd (omega (arith, heads 0x62 (abstract_byte (abstract_of ty)) text [] e, byte_range ty))
exact_from_other (Concrete i) text e = absurd e
exact_from_other (Exact (Module n)) text e = (n, subst (IsUnsigned 32 n) (sym (tails 0x62 0x62 text e.0 e.1)) e.2.0, (e.2.1, refl))
exact_from_other (Exact (RecGroup n)) text e = absurd e.2
exact_from_other (Exact (Id i)) text e = absurd e.2

exact_to_other : (h : HeapType) (text : List ℕ) → SpellsExact h text → SpellsOther h (0x62 ∷ text)
exact_to_other h text m = subst (λ (k : HeapType). SpellsOther k (0x62 ∷ text)) (sym m.2.1) (text, refl, (m.1, m.2.0))

alone_only : (b : ℕ) → b ≢ 0x65 → b ≢ 0x62 → (h : HeapType) (text : List ℕ) → SpellsOther h (b ∷ text) → (ty : AbstractHeapType) ×
    (b ≡ abstract_byte (abstract_of ty)) × (h ≡ Abstract false ty) × (text ≡ [])
alone_only b m n (Abstract true ty) text e = absurd (m (heads b 0x65 text (abstract_byte (abstract_of ty) ∷ []) e))
alone_only b m n (Abstract false ty) text e = (ty, heads b (abstract_byte (abstract_of ty)) text [] e, refl, tails b (abstract_byte (abstract_of ty)) text [] e)
alone_only b m n (Concrete i) text e = absurd e
alone_only b m n (Exact i) text e = absurd (n (heads b 0x62 text e.0 e.1))

decides-heap_type_after : (b : ℕ) → Decides (heap_type_after b) (λ h text. SpellsOther h (b ∷ text))
unfolding heap_type_after
decides-heap_type_after b = decides-if (eqb b 0x65) _ _ _
    (λ t. let is : b ≡ 0x65 = eqb-true _ _ t in
    subst (λ (c : ℕ). Decides (abstract_heap_type >>= λ ty. pure (Abstract true ty)) (λ h text. SpellsOther h (c ∷ text))) (sym is)
    (decides-same _ _ _ (decides-map abstract_heap_type (Abstract true) SpellsAbstract decides-abstract_heap_type) shared_to shared_from))
    (λ f. decides-if (eqb b 0x62) _ _ _
    (λ t. let is : b ≡ 0x62 = eqb-true _ _ t in
    subst (λ (c : ℕ). Decides exact_heap_type (λ h text. SpellsOther h (c ∷ text))) (sym is)
    (decides-same exact_heap_type SpellsExact _ decides-exact_heap_type exact_to_other exact_from_other))
    (λ g. decides-with_type (Abstract false) b (λ h text. SpellsOther h (b ∷ text)) (λ ty e. ap (λ (n : ℕ). n ∷ []) e) (alone_only b (eqb-false _ _ f) (eqb-false _ _ g))))

decides-other : Decides (byte >>= heap_type_after) SpellsOther
decides-other = decides-byte heap_type_after SpellsOther other_some decides-heap_type_after

-- ---- heap types

-- a number with a sign, at least 0, begins as an index does
index_begins : {N : ℕ} {v : ℤ} {b : ℕ} {text : List ℕ} (m : ℕ) → v ≡ pos m → IsSigned N v (b ∷ text) → begins_index b ≡ true
index_begins m e (nonnegative N v n small fits w) = let t : ltb n 0x40 ≡ true = lt-ltb _ _ (omega arith) in rw t refl
index_begins m e (negative N v n sign small fits w) = let q : pos m ≡ pos n -ℤ pos (2 ^ 7) = sym e ∙ w in absurd (omega (arith, ints))
index_begins m e (longer N v n k text large wide rest w) = let t : ltb 0x7f n ≡ true = lt-ltb _ _ (omega arith) in go (ltb n 0x40) t
  where
    go : (u : Bool) → ltb 0x7f n ≡ true → cond u true (ltb 0x7f n) ≡ true
    go true h = refl
    go false h = h

other_begins : (b : ℕ) → 0x40 ≤ b → b ≤ 0x7f → begins_index b ≡ false
other_begins b l h =
    let t : ltb b 0x40 ≡ false = le-ltb _ _ l in
    let u : ltb 0x7f b ≡ false = le-ltb _ _ h in
    rw (t, u) refl

spelled_some : (h : HeapType) → Spelled h [] → ⊥
spelled_some (Abstract true ty) e = cc
spelled_some (Abstract false ty) e = cc
spelled_some (Concrete (Module n)) e = let h : IsSigned 33 (pos n) [] = e.0 in elim h [ ]
spelled_some (Concrete (RecGroup n)) e = e
spelled_some (Concrete (Id i)) e = e
spelled_some (Exact i) e = let no : [] ≡ 0x62 ∷ e.0 = e.1 in cc

concrete_spelled : (h : HeapType) (text : List ℕ) → SpellsConcrete h text → Spelled h text
concrete_spelled h text c = subst (λ (k : HeapType). Spelled k text) (sym c.2.3) (subst (λ (v : ℤ). IsSigned 33 v text) c.2.1 c.1, c.2.2)

other_spelled : (h : HeapType) (text : List ℕ) → SpellsOther h text → Spelled h text
other_spelled (Abstract s ty) text e = e
other_spelled (Concrete i) text e = absurd e
other_spelled (Exact i) text e = e

heap_sound : (b : ℕ) → Sound (heap_type_at b) Spelled
heap_sound b = go (begins_index b)
  where
    go : (u : Bool) → Sound (cond u concrete_heap_type (byte >>= heap_type_after)) Spelled
    go true s t h e = let p = decides-concrete_heap_type.sound s t h e in (p.0, p.1, concrete_spelled h p.0 p.2)
    go false s t h e = let p = decides-other.sound s t h e in (p.0, p.1, other_spelled h p.0 p.2)

module _ (b : ℕ) (s t : State) (text : List ℕ) (p : Takes s (b ∷ text) t) where
  by_other : (h : HeapType) → 0x40 ≤ b → b ≤ 0x7f → SpellsOther h (b ∷ text) → heap_type_at b s ≡ Done h t
  by_other h l u e = rw (other_begins b l u) (decides-other.complete s t h (b ∷ text) p e)

  heap_complete : (h : HeapType) → Spelled h (b ∷ text) → heap_type_at b s ≡ Done h t
  heap_complete (Abstract true ty) e = let is : b ≡ 0x65 = heads b 0x65 text (abstract_byte (abstract_of ty) ∷ []) e in by_other (Abstract true ty) (omega arith) (omega arith) e
  heap_complete (Abstract false ty) e =
      let is : b ≡ abstract_byte (abstract_of ty) = heads b (abstract_byte (abstract_of ty)) text [] e in
      by_other (Abstract false ty) (omega (arith, byte_range ty)) (omega (arith, byte_range ty)) e
  heap_complete (Concrete (Module n)) e = rw (index_begins n refl e.0)
      (decides-concrete_heap_type.complete s t (Concrete (Module n)) (b ∷ text) p (pos n, e.0, (n, refl, e.1, refl)))
  heap_complete (Concrete (RecGroup n)) e = absurd e
  heap_complete (Concrete (Id i)) e = absurd e
  heap_complete (Exact i) e = let is : b ≡ 0x62 = heads b 0x62 text e.0 e.1 in by_other (Exact i) (omega arith) (omega arith) e

pub decides-heap_type : Decides heap_type Spelled
unfolding heap_type
decides-heap_type = decides-look_apart heap_type_at Spelled spelled_some heap_sound (λ b h text e s t p. heap_complete b s t text p h e)

-- the index of what was read fits
spelled_fits : (h : HeapType) (text : List ℕ) → Spelled h text → Fits h
spelled_fits (Abstract s ty) text e = tt
spelled_fits (Concrete (Module n)) text e = e.1
spelled_fits (Concrete (RecGroup n)) text e = absurd e
spelled_fits (Concrete (Id i)) text e = absurd e
spelled_fits (Exact (Module n)) text e = e.2.1
spelled_fits (Exact (RecGroup n)) text e = absurd e.2
spelled_fits (Exact (Id i)) text e = absurd e.2

pub heap_type-fits : (s t : State) (h : HeapType) → heap_type s ≡ Done h t → Fits h
heap_type-fits s t h e = let p = decides-heap_type.sound s t h e in spelled_fits h p.0 p.2
