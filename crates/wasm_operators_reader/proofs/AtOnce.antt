-- An operator that was visited straight from its bytes is read by a reader that stands there.
use Rattle.std.proofs.Common.{
  nat_eq,
  ◌≡◌,
  ℕ,
  ◌+◌,
  ◌-◌,
  ◌≤◌,
  List,
  [],
  ◌∷◌,
  length,
  length-append,
  le-ltb,
  take,
  drop,
  get_or,
  true,
  false,
  Option,
  Some,
  None,
  refl,
  sym,
  ap,
  ◌∙◌,
  arith,
}
use Rattle.std.specs.Prelude.{◌==◌}
use Rattle.std.proofs.Math.Seq.{drop-append_seam}
use Rattle.std.proofs.lemmas.Bool.{ne_eqb}
use Rattle.std.proofs.lemmas.List.{drop-drop, length-drop, get_or-drop}
use Rattle.wasm_types.specs.decoding.Decoder.{State, Done, Reaches, bytes}
use Rattle.wasm_types.specs.decoding.Numbers.{behind}
use Rattle.wasm_operators_encoding.specs.codes.OpcodeRoles.{plain_role, role_behind}
use Rattle.wasm_operators_encoding.specs.codes.RoleLaws.{role_of_opcode}
use Rattle.wasm_operators_immediates.specs.declared.frames.FrameKind.{FrameKind}
use Rattle.wasm_operators_enums.specs.Op.{Op}
use Rattle.wasm_operators_enums.specs.Table.{info_of}
use Rattle.wasm_operators_enums.specs.declared.role.Role.{Role}
use Rattle.wasm_operators_enums.specs.declared.role.Role.TheVariants.{Plain, Opens, End}
use Rattle.wasm_operators_encoding.specs.Opcodes.{is_prefix}
use Rattle.wasm_operators_encoding.specs.Coded.{Coded, operator}
use Rattle.wasm_operators_encoding.specs.CodedLaws.{decides-operator}
use Rattle.wasm_operators_encoding.specs.Operators.{coded_of}
use Rattle.wasm_operators_encoding.specs.expressions.Frames.{behind as frames_after}
use Rattle.wasm_operators_encoding.specs.expressions.Stack.{around}
use Rattle.wasm_operators_frequent.specs.Short.{BeginsWith, IsTold}
use Rattle.wasm_operators_reader.specs.Visiting.{Tells, VisitsPlain}

-- ---- roles by the first byte

apart : (b n : ℕ) → is_prefix b ≡ true → is_prefix n ≡ false → (b == n) ≡ false
apart b n is isnt = ne_eqb b n (λ e. let no : true ≡ false = sym is ∙ ap is_prefix e ∙ isnt in absurd cc)

-- a prefix has none
prefix_role : (b : ℕ) → is_prefix b ≡ true → plain_role b ≡ Plain
prefix_role b is =
    rw (apart b 0x02 is refl, apart b 0x03 is refl, apart b 0x04 is refl, apart b 0x05 is refl, apart b 0x06 is refl, apart b 0x0b is refl, apart b 0x1f is refl, apart b 0x07 is refl, apart b 0x18 is refl, apart b 0x19 is refl) refl

role_by : (prefix : Option ℕ) (code b : ℕ) → BeginsWith prefix code b → role_behind prefix code ≡ plain_role b
role_by None code b e = ap plain_role e
role_by (Some p) code b (e, is) = sym (prefix_role b is)

-- ---- offsets

behind_twice : (s : State) (a b : ℕ) → behind b (behind a s) ≡ behind (a + b) s
behind_twice s a b =
    let place : s.place + a + b ≡ s.place + (a + b) = omega arith in
    let rest : drop b (drop a s.rest) ≡ drop (a + b) s.rest = drop-drop b a s.rest in
    rw (place, rest) refl

pub behind_none : (s : State) → behind 0 s ≡ s
behind_none s = let e : s.place + 0 ≡ s.place = omega arith in rw e refl

-- so many of the bytes that are left
pub bytes_there : (s : State) (n : ℕ) → n ≤ length s.rest → bytes n s ≡ Done (take n s.rest) (behind n s)
bytes_there s n le = rw (le-ltb (length s.rest) n le) refl

-- a state further on stands as many bytes behind the start as it has fewer left
pub stands_at : (s t : State) (p n : ℕ) → p ≤ length s.rest → Reaches (behind p s) t → n ≡ length s.rest - length t.rest → behind n s ≡ t
stands_at s t p n le r e =
    let left : length (drop p s.rest) ≡ length r.text + length t.rest = ap length r.taken.parts ∙ length-append r.text t.rest in
    let whole : p + length r.text ≡ n = omega (arith, left, le, e, length-drop p s.rest) in
    let rest : drop (length r.text) (drop p s.rest) ≡ t.rest = ap (drop (length r.text)) r.taken.parts ∙ drop-append_seam r.text t.rest in
    sym (ap (λ (k : ℕ). behind k s) whole) ∙ sym (behind_twice s p (length r.text))
    ∙ same_state (behind (length r.text) (behind p s)) t rest (sym r.taken.place) (sym r.taken.settings) (sym r.taken.start)
  where
    same_state : (u v : State) → u.rest ≡ v.rest → u.place ≡ v.place → u.settings ≡ v.settings → u.start ≡ v.start → u ≡ v
    same_state u v a b c d = λ i. record { rest = a i; place = b i; settings = c i; start = d i }

pub no_more_left : (s t : State) (p : ℕ) → Reaches (behind p s) t → length t.rest ≤ length s.rest
no_more_left s t p r =
    let left : length (drop p s.rest) ≡ length r.text + length t.rest = ap length r.taken.parts ∙ length-append r.text t.rest in
    omega (arith, left, length-drop p s.rest)

-- a reader goes on over an operator
pub operator_reaches : (s t : State) (c : Coded) → operator s.settings s ≡ Done c t → Reaches s t
operator_reaches s t c read = let found = (decides-operator s.settings).sound s t c read in record { text = found.0; taken = found.1 }

-- ---- what was told

module _ {V A : Type 0} (visits : V → Op → A → V → Type 0) (s : State) (p : ℕ) (v w : V) (answer : A) (features e : ℕ) (text : List ℕ)
    (bytes_are : text ≡ s.rest) (same : features ≡ s.settings.features) (found : IsTold features text p e (λ o. visits v o answer w)) where
  -- it ends where the bytes do or before it
  pub told_inside : e ≤ length text
  told_inside = (found.reads s.settings.limits).inside

  reads_there : operator s.settings (behind p s) ≡ Done (coded_of found.op) (behind e s)
  reads_there =
      let forward = (found.reads s.settings.limits).forward in
      let far : p + (e - p) ≡ e = omega (arith, forward) in
      let read = (rw same at (found.reads s.settings.limits)).gives (behind p s) (ap (drop p) (sym bytes_are)) in
      read ∙ ap (Done (coded_of found.op)) (behind_twice s p (e - p) ∙ ap (λ (k : ℕ). behind k s) far)

  pub told_at_once : Tells visits (plain_role (get_or (drop p s.rest) 0 0)) (behind p s) v answer (behind e s) w
  told_at_once =
      let none : p + 0 ≡ p = omega arith in
      let first : get_or (drop p s.rest) 0 0 ≡ get_or text p 0 = get_or-drop p s.rest 0 0 ∙ ap (λ (k : ℕ). get_or s.rest k 0) none ∙ ap (λ (xs : List ℕ). get_or xs p 0) (sym bytes_are) in
      record {
        op = found.op;
        canonical = found.canonical;
        read = reads_there;
        role_is = sym (role_of_opcode found.op) ∙ role_by (info_of found.op).prefix (info_of found.op).code (get_or text p 0) found.begins ∙ ap plain_role (sym first);
        no_vector = found.no_vector;
        told = found.told;
      }

-- ---- in frames

-- where the role fits the frames, it is read there
pub told_in : {V A : Type 0} (visits : V → Op → A → V → Type 0) (s t : State) (v w : V) (answer : A) (r q : Role) (ks js : List FrameKind)
    → Tells visits r s v answer t w → r ≡ q → frames_after q ks ≡ Some js → VisitsPlain visits (record { bytes = s; frames = ks }) v answer (record { bytes = t; frames = js }) w
told_in visits s t v w answer r q ks js h e fits =
    (h.op, record { canonical = h.canonical; read = h.read; fits = ap (λ (p : Role). frames_after p ks) (h.role_is ∙ e) ∙ fits }, h.no_vector, h.told)

-- what the three roles make of frames, if one is open
pub stays_open : (ks : List FrameKind) → nat_eq (length ks) 0 ≡ false → frames_after Plain ks ≡ Some ks
stays_open [] some = absurd cc
stays_open (k ∷ ks) some = refl

pub opens_more : (k : FrameKind) (ks : List FrameKind) → nat_eq (length ks) 0 ≡ false → frames_after (Opens k) ks ≡ Some (k ∷ ks)
opens_more k [] some = absurd cc
opens_more k (j ∷ ks) some = refl

pub closes_one : (ks : List FrameKind) → nat_eq (length ks) 0 ≡ false → frames_after End ks ≡ Some (around ks)
closes_one [] some = absurd cc
closes_one (k ∷ ks) some = refl
