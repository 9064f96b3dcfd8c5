-- Decoders put together, at offsets in a slice; and operators by their opcode and what they carry.
use Rattle.std.proofs.Common.{◌≡◌, ℕ, ◌+◌, ◌-◌, ◌<◌, ◌≤◌, List, [], ◌∷◌, length, drop, get_or, true, false, Some, None, Option, map, refl}
use Rattle.std.proofs.Common.{ap, sym, subst, ◌∙◌, arith, IsTrue}
use Rattle.std.specs.Prelude.{◌==◌}
use Rattle.std.proofs.lemmas.Bool.{ne_eqb}
use Rattle.std.proofs.lemmas.List.{drop-drop, drop_more}
use Rattle.wasm_types.specs.decoding.Decoder.{State, Outcome, Done, Decoder, continue_with, ◌>>=◌, pure, byte}
use Rattle.wasm_types.specs.decoding.Leb.{u32}
use Rattle.wasm_types.specs.settings.declared.Limits.{Limits}
use Rattle.wasm_types.specs.settings.Settings.{Settings}
use Rattle.wasm_types.specs.decoding.Numbers.{behind, GivesAt}
use Rattle.wasm_operators_immediates.specs.Kinds.{Kind}
use Rattle.wasm_operators_immediates.specs.Immediates.{Immediate, kind_of}
use Rattle.wasm_operators_enums.specs.Op.{Op}
use Rattle.wasm_operators_enums.specs.Immediates.{immediates_of, is_canonical}
use Rattle.wasm_operators_encoding.specs.immediates.Immediates.{immediate}
use Rattle.wasm_operators_encoding.specs.Opcodes.{Opcode, opcode, opcode_after, plain, prefixed, is_prefix}
use Rattle.wasm_operators_encoding.specs.Sequences.{immediates}
use Rattle.wasm_operators_encoding.specs.Coded.{kinds_at, coded, operator, carried_by, behind as behind_opcode}
use Rattle.wasm_operators_encoding.specs.Operators.{opcode_of, coded_of}
use Rattle.wasm_operators_encoding.specs.OperatorLaws.{own_kinds_at}
use Rattle.wasm_operators_enums.specs.Table.{info_of}
use Rattle.wasm_operators_enums.specs.Vectors.{is_simd}
use Rattle.wasm_operators_frequent.specs.Short.{within, BeginsWith, IsTold, Begins, BeginsPrefixed}

-- ---- offsets

behind_twice : (s : State) (a b : ℕ) → behind b (behind a s) ≡ behind (a + b) s
behind_twice s a b =
    let place : s.place + a + b ≡ s.place + (a + b) = omega arith in
    let rest : drop b (drop a s.rest) ≡ drop (a + b) s.rest = drop-drop b a s.rest in
    rw (place, rest) refl

stands : (text : List ℕ) (i m : ℕ) (s : State) → s.rest ≡ drop i text → i ≤ m → drop (m - i) s.rest ≡ drop m text
stands text i m s same le =
    let whole : i + (m - i) ≡ m = omega arith in
    ap (λ (r : List ℕ). drop (m - i) r) same ∙ drop-drop (m - i) i text ∙ ap (λ (k : ℕ). drop k text) whole

-- ---- one after the other

module _ {A B : Type 0} (d : Decoder A) (text : List ℕ) (i : ℕ) (x : A) where
  pub gives_as : (f : A → B) (e : ℕ) → GivesAt d text i x e → GivesAt (d >>= λ y. pure (f y)) text i (f x) e
  gives_as f e g = record { forward = g.forward; inside = g.inside; gives = λ s same. rw (g.gives s same) refl }

  pub gives_then : (f : A → Decoder B) (m : ℕ) (y : B) (e : ℕ) → GivesAt d text i x m → GivesAt (f x) text m y e → GivesAt (d >>= f) text i y e
  gives_then f m y e g h = record {
    forward = omega (arith, g.forward, h.forward);
    inside = h.inside;
    gives = λ s same.
        let far : m - i + (e - m) ≡ e - i = omega (arith, g.forward, h.forward) in
        let next : behind (e - m) (behind (m - i) s) ≡ behind (e - i) s = behind_twice s (m - i) (e - m) ∙ ap (λ (n : ℕ). behind n s) far in
        rw (g.gives s same) (h.gives (behind (m - i) s) (stands text i m s same (omega (arith, g.forward))) ∙ ap (Done y) next);
  }

-- the byte at an offset
pub gives_byte : (text : List ℕ) (i : ℕ) → i < length text → GivesAt byte text i (get_or text i 0) (i + 1)
gives_byte text i lt = record {
  forward = omega arith;
  inside = omega arith;
  gives = λ s same.
      let one : i + 1 - i ≡ 1 = omega arith in
      let parts : s.rest ≡ get_or text i 0 ∷ drop (i + 1) text = same ∙ drop_more text i 0 lt in
      rw (one, parts) refl;
}

-- ---- operators by the bytes of their opcode

with_kinds : (settings : Settings) (place : ℕ) (o : Opcode) (found : Option (List Kind)) (s t : State) (ks : List Kind) (is : List Immediate)
    → found ≡ Some ks → immediates settings ks s ≡ Done is t → carried_by settings place o found s ≡ Done (coded o is) t
with_kinds settings place o found s t ks is e h = rw (e, h) refl

read_behind : (settings : Settings) (place : ℕ) (read : Outcome Opcode) (o : Opcode) (s t : State) (ks : List Kind) (is : List Immediate)
    → read ≡ Done o s → kinds_at o ≡ Some ks → immediates settings ks s ≡ Done is t → continue_with read (behind_opcode settings place) ≡ Done (coded o is) t
read_behind settings place read o s t ks is first e h = rw first (with_kinds settings place o (kinds_at o) s t ks is e h)

-- the opcode of an operator stands from one offset to the other
module _ (settings : Settings) (text : List ℕ) (i m : ℕ) (o : Op) (first : GivesAt opcode text i (opcode_of o) m) where
  -- an operator of what it carries
  carries : (s t : State) → s.rest ≡ drop i text → immediates settings (map kind_of (immediates_of o)) (behind (m - i) s) ≡ Done (immediates_of o) t
      → operator settings s ≡ Done (coded_of o) t
  unfolding operator
  carries s t same h =
      read_behind settings s.place (opcode s) (opcode_of o) (behind (m - i) s) t (map kind_of (immediates_of o)) (immediates_of o) (first.gives s same) (own_kinds_at o) h

  none : immediates_of o ≡ [] → GivesAt (operator settings) text i (coded_of o) m
  none nothing = record {
    forward = first.forward;
    inside = first.inside;
    gives = λ s same. carries s (behind (m - i) s) same (rw nothing refl);
  }

  one_more : (x : Immediate) (e : ℕ) → immediates_of o ≡ x ∷ [] → GivesAt (immediate settings (kind_of x)) text m x e → GivesAt (operator settings) text i (coded_of o) e
  one_more x e just g = record {
    forward = omega (arith, first.forward, g.forward);
    inside = g.inside;
    gives = λ s same.
        let far : m - i + (e - m) ≡ e - i = omega (arith, first.forward, g.forward) in
        let next : behind (e - m) (behind (m - i) s) ≡ behind (e - i) s = behind_twice s (m - i) (e - m) ∙ ap (λ (k : ℕ). behind k s) far in
        let read = rw next at (g.gives (behind (m - i) s) (stands text i m s same (omega (arith, first.forward)))) in
        carries s (behind (e - i) s) same (rw (just, read) refl);
  }

  two_more : (x y : Immediate) (n e : ℕ) → immediates_of o ≡ x ∷ y ∷ [] → GivesAt (immediate settings (kind_of x)) text m x n
      → GivesAt (immediate settings (kind_of y)) text n y e → GivesAt (operator settings) text i (coded_of o) e
  two_more x y n e both g h = record {
    forward = omega (arith, first.forward, g.forward, h.forward);
    inside = h.inside;
    gives = λ s same.
        let far : m - i + (n - m) ≡ n - i = omega (arith, first.forward, g.forward) in
        let next : behind (n - m) (behind (m - i) s) ≡ behind (n - i) s = behind_twice s (m - i) (n - m) ∙ ap (λ (k : ℕ). behind k s) far in
        let read = rw next at (g.gives (behind (m - i) s) (stands text i m s same (omega (arith, first.forward)))) in
        let farther : n - i + (e - n) ≡ e - i = omega (arith, first.forward, g.forward, h.forward) in
        let last : behind (e - n) (behind (n - i) s) ≡ behind (e - i) s = behind_twice s (n - i) (e - n) ∙ ap (λ (k : ℕ). behind k s) farther in
        let read_more = rw last at (h.gives (behind (n - i) s) (stands text i n s same (omega (arith, first.forward, g.forward)))) in
        carries s (behind (e - i) s) same (rw (both, read, read_more) refl);
  }

-- ---- opcodes at an offset

-- an opcode of one byte
plain_there : (text : List ℕ) (i code n : ℕ) → Begins text i code → code ≡ n → is_prefix n ≡ false → GivesAt opcode text i (plain n) (i + 1)
unfolding opcode
plain_there text i code n begins is no_prefix = record {
  forward = omega arith;
  inside = omega (arith, begins.inside);
  gives = λ s same. let there : get_or text i 0 ≡ n = begins.code_there ∙ is in rw ((rw there at ((gives_byte text i begins.inside).gives s same)), no_prefix) refl;
}

-- one of a prefix and a code
prefixed_there : (text : List ℕ) (i p code m : ℕ) → BeginsPrefixed text i p code m → is_prefix p ≡ true → GivesAt opcode text i (prefixed p code) m
unfolding opcode
prefixed_there text i p code m begins prefix =
    let there = begins.prefix_there.code_there in
    let first : GivesAt byte text i p (i + 1) = rw there at (gives_byte text i begins.prefix_there.inside) in
    let second : GivesAt (opcode_after p) text (i + 1) (prefixed p code) m = rw prefix (gives_as u32 text (i + 1) code (prefixed p) m begins.code_there) in
    gives_then byte text i p opcode_after (i + 1) (prefixed p code) m first second

-- ---- the same within any limits

-- the opcode of an operator stands from one offset to the other
pub record OpcodeAt (text : List ℕ) (i : ℕ) (o : Op) (m : ℕ) : Type 0 where
  pub read : GivesAt opcode text i (opcode_of o) m
  pub begins : BeginsWith (info_of o).prefix (info_of o).code (get_or text i 0)

module _ (features : ℕ) (text : List ℕ) (i m : ℕ) (o : Op) (first : OpcodeAt text i o m) (Told : Op → Type 0) (told : Told o)
    (canonical : IsTrue (is_canonical o)) (no_vector : is_simd o ≡ false) where
  told_by : (e : ℕ) → ((limits : Limits) → GivesAt (operator (within features limits)) text i (coded_of o) e) → IsTold features text i e Told
  told_by e reads = record { op = o; canonical = canonical; begins = first.begins; no_vector = no_vector; reads = reads; told = told }

  pub is_told : immediates_of o ≡ [] → IsTold features text i m Told
  is_told nothing = told_by m (λ limits. none (within features limits) text i m o first.read nothing)

  pub is_told_with : (x : Immediate) (e : ℕ) → immediates_of o ≡ x ∷ [] → ((limits : Limits) → GivesAt (immediate (within features limits) (kind_of x)) text m x e)
      → IsTold features text i e Told
  is_told_with x e just g = told_by e (λ limits. one_more (within features limits) text i m o first.read x e just (g limits))

  pub is_told_with_two : (x y : Immediate) (n e : ℕ) → immediates_of o ≡ x ∷ y ∷ [] → ((limits : Limits) → GivesAt (immediate (within features limits) (kind_of x)) text m x n)
      → ((limits : Limits) → GivesAt (immediate (within features limits) (kind_of y)) text n y e) → IsTold features text i e Told
  is_told_with_two x y n e both g h = told_by e (λ limits. two_more (within features limits) text i m o first.read x y n e both (g limits) (h limits))

-- of an opcode of one byte
module _ (features : ℕ) (text : List ℕ) (i code n : ℕ) (begins : Begins text i code) (is : code ≡ n) (o : Op) (opcode_is : opcode_of o ≡ plain n)
    (no_prefix : is_prefix n ≡ false) where
  plain_of : OpcodeAt text i o (i + 1)
  plain_of = record {
    read = rw opcode_is (plain_there text i code n begins is no_prefix);
    begins = subst (λ (c : Opcode). BeginsWith c.prefix c.code (get_or text i 0)) (sym opcode_is) (sym (begins.code_there ∙ is));
  }

  module _ (Told : Op → Type 0) (told : Told o) (canonical : IsTrue (is_canonical o)) (no_vector : is_simd o ≡ false) where
    pub told_alone : immediates_of o ≡ [] → IsTold features text i (i + 1) Told
    told_alone = is_told features text i (i + 1) o plain_of Told told canonical no_vector

    pub told_with : (x : Immediate) (e : ℕ) → immediates_of o ≡ x ∷ []
        → ((limits : Limits) → GivesAt (immediate (within features limits) (kind_of x)) text (i + 1) x e) → IsTold features text i e Told
    told_with = is_told_with features text i (i + 1) o plain_of Told told canonical no_vector

    pub told_with_two : (x y : Immediate) (m e : ℕ) → immediates_of o ≡ x ∷ y ∷ [] → ((limits : Limits) → GivesAt (immediate (within features limits) (kind_of x)) text (i + 1) x m)
        → ((limits : Limits) → GivesAt (immediate (within features limits) (kind_of y)) text m y e) → IsTold features text i e Told
    told_with_two = is_told_with_two features text i (i + 1) o plain_of Told told canonical no_vector

-- of a code behind a prefix
pub prefixed_of : (text : List ℕ) (i p code n m : ℕ) → BeginsPrefixed text i p code m → code ≡ n → is_prefix p ≡ true → (o : Op) → opcode_of o ≡ prefixed p n
    → OpcodeAt text i o m
prefixed_of text i p code n m begins is prefix o opcode_is =
    let there = prefixed_there text i p code m begins prefix in
    let first = begins.prefix_there.code_there in
    record {
      read = rw opcode_is (rw is at there);
      begins = subst (λ (c : Opcode). BeginsWith c.prefix c.code (get_or text i 0)) (sym opcode_is) (sym first, ap is_prefix first ∙ prefix);
    }

-- ---- what a code tells

differs : (b c : ℕ) → b < c → (b == c) ≡ false
differs b c lt = ne_eqb b c (λ e. omega (arith, lt, e))

pub low_is_no_prefix : (b : ℕ) → b < 0xfb → is_prefix b ≡ false
low_is_no_prefix b lt = rw (differs b 0xfb lt, differs b 0xfc (omega arith), differs b 0xfd (omega arith), differs b 0xfe (omega arith)) refl

pub opcode_is : (o : Op) (n : ℕ) → (info_of o).prefix ≡ None → (info_of o).code ≡ n → opcode_of o ≡ plain n
opcode_is o n p e = λ i. record { prefix = p i; code = e i }

pub prefixed_is : (o : Op) (p n : ℕ) → (info_of o).prefix ≡ Some p → (info_of o).code ≡ n → opcode_of o ≡ prefixed p n
prefixed_is o p n f e = λ i. record { prefix = f i; code = e i }

-- what is told so is told otherwise, where the one implies the other
pub told_so : (features : ℕ) (text : List ℕ) (i e : ℕ) (Told Other : Op → Type 0) → ((o : Op) → Told o → Other o) → IsTold features text i e Told → IsTold features text i e Other
told_so features text i e Told Other so t = record { op = t.op; canonical = t.canonical; begins = t.begins; no_vector = t.no_vector; reads = t.reads; told = so t.op t.told }
